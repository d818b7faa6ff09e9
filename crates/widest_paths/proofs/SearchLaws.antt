-- What the search for widest paths has found, step by step.
use Rattle.std.proofs.Common.{◌≡◌, ◌≢◌, ℕ, zero, suc, ◌<◌, ◌≤◌, ◌+◌, List, [], ◌∷◌, length, Some, true, false, Option, None, refl, sym, ap, subst, ◌∙◌, arith, ⊎_elim, inl, inr, ◌⊎◌, replicate, get_or-set_same, get_or-set_other, slice_get, slice_set, slice_index, slice_index_or}
use Rattle.std.specs.List.Sorted.{IsPermutation}
use Rattle.std.proofs.lemmas.{Bool.cases_eq, Option.slice_get_within, List.{length-set, Sorted.{Contains-permutation, length_permutation}}}
use Rattle.widest_paths.specs.WidestPaths.{IsInFan, IsFanEdge, is_labelled, LeadsAbove, ends, goes, AreWidest}
use Rattle.widest_paths.specs.Searches.{IsFromSome, IsNodeTaken, NodeWaits, room_left, left_to_widen, Widens, IsDone, IsWidened}
use Rattle.widest_paths.specs.declared.graph.Fan.{Fan}
use Rattle.widest_paths.specs.declared.graph.Graph.{Graph}

-- ---- steps one after the other

module _ (g : Graph) where
  pub widens_as : (P Q : ℕ → ℕ → Type 0) (a b : List ℕ) (u v : List (ℕ × ℕ)) → ((x level : ℕ) → P x level → Q x level) → ((x level : ℕ) → Q x level → level < slice_index g.levels x → P x level) → Widens g P a u b v → Widens g Q a u b v
  widens_as P Q a b u v to from h = record {
    long = h.long;
    grows = h.grows;
    only = λ i level l. ⊎_elim (λ k. inl k) (λ (k : (level < slice_index g.levels i) × P i level). inr (k.0, to i level k.1)) (h.only i level l);
    brought = λ i level q l. h.brought i level (from i level q l) l;
    waits = h.waits;
    grown = h.grown;
    less = h.less;
  }

  pub widens_twice : (P Q : ℕ → ℕ → Type 0) (a b c : List ℕ) (u v w : List (ℕ × ℕ)) → Widens g P a u b v → Widens g Q b v c w → Widens g (λ x level. P x level ⊎ Q x level) a u c w
  widens_twice P Q a b c u v w h k = record {
    long = k.long ∙ h.long;
    grows = λ i. let x : slice_index a i ≤ slice_index b i = h.grows i in let y : slice_index b i ≤ slice_index c i = k.grows i in omega (arith, x, y);
    only = λ i level l. ⊎_elim
        (λ (m : level < slice_index b i). ⊎_elim (λ x. inl x) (λ (x : (level < slice_index g.levels i) × P i level). inr (x.0, inl x.1)) (h.only i level m))
        (λ (m : (level < slice_index g.levels i) × Q i level). inr (m.0, inr m.1))
        (k.only i level l);
    brought = λ i level q l. ⊎_elim
        (λ (x : P i level). let y : level < slice_index b i = h.brought i level x l in let z : slice_index b i ≤ slice_index c i = k.grows i in omega (arith, y, z))
        (λ (x : Q i level). k.brought i level x l) q;
    waits = λ n x. k.waits n (h.waits n x);
    grown = λ n. ⊎_elim
        (λ (x : slice_index c n ≡ slice_index b n). ⊎_elim (λ (y : slice_index b n ≡ slice_index a n). inl (x ∙ y)) (λ y. inr (k.waits n y)) (h.grown n))
        (λ x. inr x) (k.grown n);
    less = let x : left_to_widen g b v ≤ left_to_widen g a u = h.less in let y : left_to_widen g c w ≤ left_to_widen g b v = k.less in omega (arith, x, y);
  }

-- ---- one node

pub beyond : (xs : List ℕ) (i : ℕ) → length xs ≤ i → slice_index xs i ≡ 0
beyond [] i l = refl
beyond (x ∷ xs) zero l = absurd (omega (arith, l))
beyond (x ∷ xs) (suc i) l = beyond xs i (omega (arith, l))

room_set : (levels widths : List ℕ) (i v : ℕ) → i < length widths → slice_index widths i < v → v ≤ slice_index levels i → room_left levels (slice_set widths i v) + 1 ≤ room_left levels widths
room_set levels [] i v inside low high = absurd (omega (arith, inside))
room_set [] (w ∷ ws) i v inside low high = absurd (let z : v ≤ 0 = high in omega (arith, z, low))
room_set (l ∷ ls) (w ∷ ws) zero v inside low high = omega (arith, low, high)
room_set (l ∷ ls) (w ∷ ws) (suc i) v inside low high =
    let h : room_left ls (slice_set ws i v) + 1 ≤ room_left ls ws = room_set ls ws i v (omega (arith, inside)) low high in omega (arith, h)

waits_more : (x : ℕ × ℕ) (waiting : List (ℕ × ℕ)) (k : ℕ) → NodeWaits waiting k → NodeWaits (x ∷ waiting) k
waits_more x waiting k w = let low : w.1.0 < length waiting = w.1.1 in (w.0, (suc w.1.0, omega (arith, low), w.1.2))

waits_moved : (old new : List (ℕ × ℕ)) (k : ℕ) → IsPermutation old new → NodeWaits old k → NodeWaits new k
waits_moved old new k p w = (w.0, Contains-permutation old new (w.0, k) p w.1)

module _ (g : Graph) (old : List ℕ) (waiting later : List (ℕ × ℕ)) (i width put : ℕ) (long : length old ≡ length g.levels) where
  pub widens_not : ((level : ℕ) → level < width → level < slice_index g.levels i → level < slice_index old i) → Widens g (λ x level. (x ≡ i) × (level < width)) old waiting old waiting
  widens_not h = record {
    long = refl;
    grows = λ x. omega arith;
    only = λ x level l. inl l;
    brought = λ x level b l. subst (λ y. level < slice_index old y) (sym b.0) (h level b.1 (subst (λ y. level < slice_index g.levels y) b.0 l));
    waits = λ k w. w;
    grown = λ k. inl refl;
    less = omega arith;
  }

  module _ (inside : i < length old) (low : slice_index old i < put) (high : put ≤ slice_index g.levels i) (narrow : put ≤ width) (wide : (level : ℕ) → level < width → level < slice_index g.levels i → level < put) (moved : IsPermutation ((put, i) ∷ waiting) later) where
    at_i : slice_index (slice_set old i put) i ≡ put
    at_i = rw get_or-set_same refl

    at_other : (x : ℕ) → x ≢ i → slice_index (slice_set old i put) x ≡ slice_index old x
    at_other x q = rw get_or-set_other refl

    waits_now : NodeWaits later i
    waits_now = waits_moved ((put, i) ∷ waiting) later i moved (put, (0, omega arith, refl))

    pub widens_put : Widens g (λ x level. (x ≡ i) × (level < width)) old waiting (slice_set old i put) later
    widens_put = record {
      long = length-set old i put;
      grows = λ x. ⊎_elim
          (λ (q : x ≡ i). subst (λ y. slice_index old y ≤ slice_index (slice_set old i put) y) (sym q) (omega (arith, at_i, low)))
          (λ (q : x ≢ i). omega (arith, at_other x q))
          (cases_eq x i);
      only = λ x level l. ⊎_elim
          (λ (q : x ≡ i). let here : level < slice_index (slice_set old i put) i = subst (λ y. level < slice_index (slice_set old i put) y) q l in inr (subst (λ y. level < slice_index g.levels y) (sym q) (omega (arith, here, at_i, high)), (q, omega (arith, here, at_i, narrow))))
          (λ (q : x ≢ i). inl (omega (arith, l, at_other x q)))
          (cases_eq x i);
      brought = λ x level b l. subst (λ y. level < slice_index (slice_set old i put) y) (sym b.0) (let here : level < put = wide level b.1 (subst (λ y. level < slice_index g.levels y) b.0 l) in omega (arith, here, at_i));
      waits = λ k w. waits_moved ((put, i) ∷ waiting) later k moved (waits_more (put, i) waiting k w);
      grown = λ x. ⊎_elim (λ (q : x ≡ i). inr (subst (λ y. NodeWaits later y) (sym q) waits_now)) (λ (q : x ≢ i). inl (at_other x q)) (cases_eq x i);
      less = omega (arith, room_set g.levels old i put inside low high, length_permutation ((put, i) ∷ waiting) later moved);
    }

-- ---- some fans

pub some_more : (g : Graph) (fans : List Fan) (n x : ℕ) (fan : Fan) → slice_get fans n ≡ Some fan → IsFromSome g fans n x ⊎ IsInFan g fan x → IsFromSome g fans (n + 1) x
some_more g fans n x fan at (inl h) = let low : h.0 < n = h.2 in (h.0, h.1, omega (arith, low), h.3, h.4)
some_more g fans n x fan at (inr h) = (n, fan, omega arith, at, h)

pub more_some : (g : Graph) (fans : List Fan) (n x : ℕ) (fan : Fan) → slice_get fans n ≡ Some fan → IsFromSome g fans (n + 1) x → IsFromSome g fans n x ⊎ IsInFan g fan x
more_some g fans n x fan at h = ⊎_elim
    (λ (q : h.0 ≡ n). let same : Some h.1 ≡ Some fan = sym h.3 ∙ ap (λ t. slice_get fans t) q ∙ at in let is : h.1 ≡ fan = cc in inr (subst (λ f. IsInFan g f x) is h.4))
    (λ (q : h.0 ≢ n). let low : h.0 < n + 1 = h.2 in inl (h.0, h.1, omega (arith, low, q), h.3, h.4))
    (cases_eq h.0 n)

pub some_all : (g : Graph) (fans : List Fan) (n x : ℕ) → IsFromSome g fans n x → IsFromSome g fans (length fans) x
some_all g fans n x h = (h.0, h.1, slice_get_within fans h.0 h.1 h.3, h.3, h.4)

pub all_some : (g : Graph) (fans : List Fan) (n x : ℕ) → length fans ≤ n → IsFromSome g fans (length fans) x → IsFromSome g fans n x
all_some g fans n x few h = let low : h.0 < length fans = h.2 in (h.0, h.1, omega (arith, low, few), h.3, h.4)

pub got_or : (lists : List (List Fan)) (k : ℕ) (fans : List Fan) → slice_get lists k ≡ Some fans → slice_index_or lists k [] ≡ fans
got_or [] k fans e = absurd (let bad : None ≡ Some fans = e in cc)
got_or (x ∷ lists) zero fans e = cc
got_or (x ∷ lists) (suc k) fans e = got_or lists k fans e

module _ (g : Graph) (k x : ℕ) (fans : List Fan) (at : slice_get g.into.items k ≡ Some fans) where
  pub edge_of : IsFromSome g fans (length fans) x → IsFanEdge g x k
  edge_of h = record { t = h.0; fan = h.1; at = ap (λ l. slice_get l h.0) (got_or g.into.items k fans at) ∙ h.3; from = h.4 }

  pub of_edge : IsFanEdge g x k → IsFromSome g fans (length fans) x
  of_edge e =
      let there : slice_get fans e.t ≡ Some e.fan = ap (λ l. slice_get l e.t) (sym (got_or g.into.items k fans at)) ∙ e.at in
      (e.t, e.fan, slice_get_within fans e.t e.fan there, there, e.from)

-- ---- the search

pub labelled_within : (labels : List ℕ) (label i : ℕ) → is_labelled label (slice_get labels i) ≡ true → i < length labels
labelled_within labels label i e = by_label (slice_get labels i) refl e
  where
    by_label : (o : Option ℕ) → slice_get labels i ≡ o → is_labelled label o ≡ true → i < length labels
    by_label (Some n) q k = slice_get_within labels i n q
    by_label None q k = absurd (let bad : false ≡ true = k in cc)

zero_at : (n i : ℕ) → slice_index (replicate n 0) i ≡ 0
zero_at zero i = refl
zero_at (suc n) zero = refl
zero_at (suc n) (suc i) = zero_at n i

module _ (g : Graph) (labels : List ℕ) (label : ℕ) where
  pub searched_first : (n : ℕ) (zeros widths : List ℕ) (waiting : List (ℕ × ℕ)) → zeros ≡ replicate n 0 → length zeros ≡ length g.levels → Widens g (λ x level. is_labelled label (slice_get labels x) ≡ true) zeros [] widths waiting → IsWidened g labels label widths waiting
  searched_first n zeros widths waiting is long h =
      let none : (i : ℕ) → slice_index zeros i ≡ 0 = λ i. ap (λ l. slice_index l i) is ∙ zero_at n i in
      record {
        long = h.long ∙ long;
        leads = λ i level l. ⊎_elim
            (λ (k : level < slice_index zeros i). absurd (omega (arith, k, none i)))
            (λ (k : (level < slice_index g.levels i) × (is_labelled label (slice_get labels i) ≡ true)). ends i k.0 k.1)
            (h.only i level l);
        ends = λ i level e l. h.brought i level e l;
        known = λ k. ⊎_elim
            (λ (q : slice_index widths k ≡ slice_index zeros k). inr (λ i level e l m. absurd (omega (arith, m, q, none k))))
            (λ w. inl w)
            (h.grown k);
      }

  -- one turn: node k is taken, and the fans that lead from it widen what they reach
  pub record Turn : Type 0 where
    pub old : List ℕ
    pub new : List ℕ
    pub waiting : List (ℕ × ℕ)
    pub rest : List (ℕ × ℕ)
    pub later : List (ℕ × ℕ)
    pub k : ℕ
    pub width : ℕ
    pub is : IsWidened g labels label old waiting
    pub taken : IsNodeTaken waiting k rest
    pub width_is : width ≡ slice_index old k
    pub widens : Widens g (λ x level. IsFanEdge g x k × (level < width)) old rest new later

  module _ (turn : Turn) where
    open turn use {old, new, waiting, rest, later, k, width, is, taken, width_is, widens as h}

    still_waits : (n : ℕ) → n ≢ k → NodeWaits waiting n → NodeWaits later n
    still_waits n q x =
        let y = Contains-permutation waiting ((taken.0, k) ∷ rest) (x.0, n) taken.1 x.1 in
        behind y.0 y.1 y.2
      where
        behind : (t : ℕ) → t < length ((taken.0, k) ∷ rest) → slice_index_or ((taken.0, k) ∷ rest) t (x.0, n) ≡ (x.0, n) → NodeWaits later n
        behind zero l e = absurd (q (sym (ap (λ (p : ℕ × ℕ). p.1) e)))
        behind (suc t) l e = h.waits n (x.0, (t, omega (arith, l), e))

    known_now : (n : ℕ) → NodeWaits later n ⊎ IsDone g new n
    known_now n = ⊎_elim
        (λ (same : slice_index new n ≡ slice_index old n). ⊎_elim
        (λ (q : n ≡ k). inr (λ i level e l m. h.brought i level (subst (λ x. IsFanEdge g i x) q e, (let same_k : slice_index new k ≡ slice_index old k = subst (λ x. slice_index new x ≡ slice_index old x) q same in let here : level < slice_index new k = subst (λ x. level < slice_index new x) q m in omega (arith, here, same_k, width_is))) l))
        (λ (q : n ≢ k). ⊎_elim
        (λ (x : NodeWaits waiting n). inl (still_waits n q x))
        (λ (d : IsDone g old n). inr (λ i level e l m. let r : level < slice_index old i = d i level e l (omega (arith, m, same)) in let u : slice_index old i ≤ slice_index new i = h.grows i in omega (arith, r, u)))
        (is.known n))
        (cases_eq n k))
        (λ (x : NodeWaits later n). inl x)
        (h.grown n)

    pub searched_next : IsWidened g labels label new later
    searched_next = record {
      long = h.long ∙ is.long;
      leads = λ i level l. ⊎_elim
          (λ (m : level < slice_index old i). is.leads i level m)
          (λ (m : (level < slice_index g.levels i) × (IsFanEdge g i k × (level < width))). goes i k m.0 m.1.0 (is.leads k level (let low : level < width = m.1.1 in omega (arith, low, width_is))))
          (h.only i level l);
      ends = λ i level e l. let r : level < slice_index old i = is.ends i level e l in let u : slice_index old i ≤ slice_index new i = h.grows i in omega (arith, r, u);
      known = known_now;
    }

    pub lighter : left_to_widen g new later < left_to_widen g old waiting
    lighter = let less : left_to_widen g new later ≤ left_to_widen g old rest = h.less in omega (arith, less, length_permutation waiting ((taken.0, k) ∷ rest) taken.1)

  pub found_all : (widths : List ℕ) → IsWidened g labels label widths [] → AreWidest g labels label widths
  found_all widths is = record { leads = is.leads; all = λ i level l. all level i l }
    where
      done : (k : ℕ) → NodeWaits [] k ⊎ IsDone g widths k → IsDone g widths k
      done k (inl w) = absurd (let low : w.1.0 < 0 = w.1.1 in omega (arith, low))
      done k (inr d) = d

      all : (level i : ℕ) → LeadsAbove g labels label level i → level < slice_index widths i
      all level i (ends j l e) = is.ends i level e l
      all level i (goes j k l e p) = done k (is.known k) i level e l (all level k p)
