-- Laws of the least closed set, and of the state in the course of its computation.
use Rattle.std.proofs.Common.{◌≡◌, ℕ, zero, suc, ◌+◌, ◌-◌, ◌<◌, ◌≤◌, ◌≢◌, Bool, true, false, not, ◌&&◌, List, [], ◌∷◌, ◌++◌, length, refl, sym, ap, ◌∙◌, subst, arith, ⊎_elim, inl, inr, ◌⊎◌, get_or-set_same, get_or-set_other, replicate, ◌==◌, nat_lt, if◌then◌else◌, slice_index, slice_index_or, slice_set}
use Rattle.std.proofs.lemmas.{Bool.{and_parts, cases_eq, cases_lt, eq-eqb, lt-ltb, eqb-true, ne_eqb, le-ltb, Decides.nat_tests}, List.{length-set, length-append}}
use Rattle.graph_closure.specs.{Chains.{IsIn, is_edge_counted, Going, IsChained, weight, zeros, latest}, LeastSet.{one_if, chosen, Settles, settle, IsSpread, IsGraph}}

-- ---- tests

pub differ_from : (x b : ℕ) → (x == b) ≡ false → x ≢ b
differ_from x b = grind (arith, nat_tests)

-- ---- the chains

pub latest-le : (to : List ℕ) (b k : ℕ) → latest to b k ≤ k
latest-le to b zero = omega arith
latest-le to b (suc k) = by_test (slice_index to k == b) (latest-le to b k)
  where
    by_test : (t : Bool) → latest to b k ≤ k → (if t then suc k else latest to b k) ≤ suc k
    by_test true h = omega arith
    by_test false h = omega (arith, h)

-- no edge from there on goes to b
pub latest_passes : (to : List ℕ) (b k e : ℕ) → latest to b k ≤ e → e < k → slice_index to e ≢ b
latest_passes to b zero e l h q = absurd (omega (arith, h))
latest_passes to b (suc k) e l h q = by_test (slice_index to k == b) refl l (λ m g. latest_passes to b k e m g q)
  where
    by_test : (t : Bool) → (slice_index to k == b) ≡ t → (if t then suc k else latest to b k) ≤ e → (latest to b k ≤ e → e < k → ⊥) → ⊥
    by_test true w m more = omega (arith, h, m)
    by_test false w m more = ⊎_elim (λ (g : e ≡ k). differ_from (slice_index to k) b w (subst (λ x. slice_index to x ≡ b) g q)) (λ (g : e ≢ k). more m (omega (arith, h, g))) (cases_eq e k)

-- the edge goes to b
pub latest_goes : (to : List ℕ) (b k e : ℕ) → latest to b k ≡ suc e → slice_index to e ≡ b
latest_goes to b zero e h = absurd (cc)
latest_goes to b (suc k) e h = by_test (slice_index to k == b) refl h (latest_goes to b k e)
  where
    by_test : (t : Bool) → (slice_index to k == b) ≡ t → (if t then suc k else latest to b k) ≡ suc e → (latest to b k ≡ suc e → slice_index to e ≡ b) → slice_index to e ≡ b
    by_test true w m more = let same : k ≡ e = omega (arith, m) in subst (λ x. slice_index to x ≡ b) same (eqb-true (slice_index to k) b w)
    by_test false w m more = more m

pub latest_again : (to : List ℕ) (b k : ℕ) → latest to b (latest to b k) ≡ latest to b k
latest_again to b zero = refl
latest_again to b (suc k) = by_test (slice_index to k == b) refl (latest_again to b k)
  where
    by_test : (t : Bool) → (slice_index to k == b) ≡ t → latest to b (latest to b k) ≡ latest to b k → latest to b (if t then suc k else latest to b k) ≡ (if t then suc k else latest to b k)
    by_test true w more = rw w refl
    by_test false w more = more

-- ---- counts

pub chosen_same : (from : List ℕ) (h g : ℕ → Bool) (a m : ℕ) → ((e : ℕ) → e < m → h e ≡ g e) → chosen from h a m ≡ chosen from g a m
chosen_same from h g a zero s = refl
chosen_same from h g a (suc m) s = rw (chosen_same from h g a m (λ e l. s e (omega (arith, l))), s m (omega arith)) refl

pub chosen_none : (from : List ℕ) (h : ℕ → Bool) (a m : ℕ) → ((e : ℕ) → e < m → h e ≡ false) → chosen from h a m ≡ 0
chosen_none from h a zero s = refl
chosen_none from h a (suc m) s = rw (chosen_none from h a m (λ e l. s e (omega (arith, l))), s m (omega arith)) (no (slice_index from m == a))
  where
    no : (t : Bool) → 0 + one_if (t && false) ≡ 0
    no true = refl
    no false = refl

pub chosen-le : (from : List ℕ) (h g : ℕ → Bool) (a m : ℕ) → ((e : ℕ) → e < m → h e ≡ true → g e ≡ true) → chosen from h a m ≤ chosen from g a m
chosen-le from h g a zero s = omega arith
chosen-le from h g a (suc m) s =
    let one : one_if ((slice_index from m == a) && h m) ≤ one_if ((slice_index from m == a) && g m) = last (slice_index from m == a) (h m) (g m) (s m (omega arith)) in
    omega (arith, one, chosen-le from h g a m (λ e l. s e (omega (arith, l))))
  where
    last : (t u v : Bool) → (u ≡ true → v ≡ true) → one_if (t && u) ≤ one_if (t && v)
    last false u v w = omega arith
    last true false v w = omega arith
    last true true true w = omega arith
    last true true false w = absurd (let no : false ≡ true = w refl in cc)

pub chosen_more : (from : List ℕ) (h g : ℕ → Bool) (a m e : ℕ) → e < m → h e ≡ false → g e ≡ true → ((k : ℕ) → k < m → k ≢ e → h k ≡ g k)
    → chosen from g a m ≡ chosen from h a m + one_if (slice_index from e == a)
chosen_more from h g a zero e l x y s = absurd (omega (arith, l))
chosen_more from h g a (suc m) e l x y s = ⊎_elim here (there (λ i. chosen_more from h g a m e i x y (λ k j. s k (omega (arith, j))))) (cases_eq e m)
  where
    here : e ≡ m → chosen from g a (suc m) ≡ chosen from h a (suc m) + one_if (slice_index from e == a)
    here q =
        let before : chosen from h a m ≡ chosen from g a m = chosen_same from h g a m (λ k i. s k (omega (arith, i)) (omega (arith, i, q))) in
        let off : h m ≡ false = subst (λ z. h z ≡ false) q x in
        let on : g m ≡ true = subst (λ z. g z ≡ true) q y in
        rw (before, off, on, q) (end (slice_index from m == a))
      where
        end : (t : Bool) → chosen from g a m + one_if (t && true) ≡ chosen from g a m + one_if (t && false) + one_if t
        end true = omega arith
        end false = omega arith

    there : (e < m → chosen from g a m ≡ chosen from h a m + one_if (slice_index from e == a)) → e ≢ m → chosen from g a (suc m) ≡ chosen from h a (suc m) + one_if (slice_index from e == a)
    there more q =
        let less : e < m = omega (arith, l, q) in
        let one : chosen from g a m ≡ chosen from h a m + one_if (slice_index from e == a) = more less in
        let same : h m ≡ g m = s m (omega arith) (λ w. q (sym w)) in
        rw same (omega (arith, one))

-- ---- the work

pub in_pushed : (a b : ℕ) (xs : List ℕ) → IsIn a xs → IsIn a (xs ++ b ∷ [])
in_pushed a b [] i = absurd i
in_pushed a b (x ∷ xs) (inl e) = inl e
in_pushed a b (x ∷ xs) (inr i) = inr (in_pushed a b xs i)

pub in_last : (a : ℕ) (xs : List ℕ) → IsIn a (xs ++ a ∷ [])
in_last a [] = inl refl
in_last a (x ∷ xs) = inr (in_last a xs)

pub in_popped : (a b : ℕ) (xs : List ℕ) → IsIn a (xs ++ b ∷ []) → IsIn a xs ⊎ (b ≡ a)
in_popped a b [] (inl e) = inr e
in_popped a b [] (inr i) = absurd i
in_popped a b (x ∷ xs) (inl e) = inl (inl e)
in_popped a b (x ∷ xs) (inr i) = ⊎_elim (λ j. inl (inr j)) (λ e. inr e) (in_popped a b xs i)

-- ---- the state in the course

counted_out : (d t u : Bool) → u ≡ false → (d && not (t && u)) ≡ d
counted_out true true false w = refl
counted_out true false false w = refl
counted_out false t false w = refl
counted_out d t true w = absurd (let no : true ≡ false = w in cc)

pub none_below : (e : ℕ) → nat_lt e 0 ≡ false
none_below e = grind (arith, nat_tests)

not_counted : (d t u : Bool) → t ≡ true → u ≡ true → (d && not (t && u)) ≡ false
not_counted d t u v w = rw (v, w) (off d)
  where
    off : (d : Bool) → (d && false) ≡ false
    off true = refl
    off false = refl

elsewhere : (d t u : Bool) → t ≡ false → (d && not (t && u)) ≡ d
elsewhere d t u v = rw v (on d)
  where
    on : (d : Bool) → (d && true) ≡ d
    on true = refl
    on false = refl

-- the end: nothing waits
module _ (from to start need : List ℕ) (done : List Bool) (g : IsGraph (length start) from to) (b : ℕ) (s : Going from to start need [] done b 0) where
  at_end : (a : ℕ) → a < length start → slice_index_or done a false ≡ (slice_index need a == 0)
  at_end a l = by_done (slice_index_or done a false) refl
    where
      by_done : (d : Bool) → slice_index_or done a false ≡ d → d ≡ (slice_index need a == 0)
      by_done true w = sym (eq-eqb (slice_index need a) 0 (s.past a w))
      by_done false w = sym (ne_eqb (slice_index need a) 0 (λ q. ⊎_elim (λ y. (let no : true ≡ false = sym y ∙ w in cc)) (λ i. i) (s.waits a l q)))

  same : (e : ℕ) → e < length from → is_edge_counted to done b 0 e ≡ (slice_index need (slice_index to e) == 0)
  same e l = counted_out (slice_index_or done (slice_index to e) false) (slice_index to e == b) (nat_lt e 0) (none_below e) ∙ at_end (slice_index to e) (g.ends e l)

  end_left : (a : ℕ) → slice_index need a ≡ slice_index start a - chosen from (λ e. slice_index need (slice_index to e) == 0) a (length from)
  end_left a = rw (← chosen_same from (is_edge_counted to done b 0) (λ e. slice_index need (slice_index to e) == 0) a (length from) same) (s.left a)

  end_closed : (a : ℕ) → Settles from to start a → slice_index need a ≡ 0
  end_closed a (settle x h into enough) =
      let more : chosen from h a (length from) ≤ chosen from (λ e. slice_index need (slice_index to e) == 0) a (length from) =
      chosen-le from h (λ e. slice_index need (slice_index to e) == 0) a (length from) (λ e l w. eq-eqb (slice_index need (slice_index to e)) 0 (end_closed (slice_index to e) (into e l w))) in
      omega (arith, end_left a, enough, more)

  pub ended : IsSpread from to start need
  ended = record { long = s.long; left = end_left; exact = λ a l. (s.derived a l, end_closed a) }

-- the beginning: no edge was counted
pub begun : (from to start work : List ℕ) (done : List Bool) (b : ℕ) → length done ≡ length start → ((a : ℕ) → slice_index_or done a false ≡ false)
    → ((a : ℕ) → a < length start → slice_index start a ≡ 0 → IsIn a work) → ((a : ℕ) → IsIn a work → (a < length start) × (slice_index start a ≡ 0)) → Going from to start start work done b 0
begun from to start work done b all off waits within = record {
  long = refl;
  all = all;
  left = λ a. let none : chosen from (is_edge_counted to done b 0) a (length from) ≡ 0 = chosen_none from (is_edge_counted to done b 0) a (length from) (λ e l. rw (off (slice_index to e)) refl) in omega (arith, none);
  past = λ a w. absurd (let bad : true ≡ false = sym w ∙ off a in cc);
  waits = λ a l w. inr (waits a l w);
  within = within;
  derived = λ a l w. settle a (λ e. false) (λ e m x. absurd (let bad : false ≡ true = x in cc)) (omega (arith, w));
}

-- a node is taken: each edge to it is still to be counted
pub taken : (from to start need work : List ℕ) (done : List Bool) (c b : ℕ) → IsGraph (length start) from to → Going from to start need (work ++ b ∷ []) done c 0 → slice_index_or done b false ≡ false
    → Going from to start need work (slice_set done b true) b (latest to b (length to))
taken from to start need work done c b g s off = record {
  long = s.long;
  all = length-set done b true ∙ s.all;
  left = λ a. rw (← chosen_same from (is_edge_counted to done c 0) (is_edge_counted to (slice_set done b true) b (latest to b (length to))) a (length from) same) (s.left a);
  past = past;
  waits = waits;
  within = λ a i. s.within a (in_pushed a b work i);
  derived = s.derived;
}
  where
    in_b : (b < length start) × (slice_index need b ≡ 0)
    in_b = s.within b (in_last b work)

    past : (a : ℕ) → slice_index_or (slice_set done b true) a false ≡ true → slice_index need a ≡ 0
    past a w = ⊎_elim (λ (q : a ≡ b). rw q in_b.1) (λ (q : a ≢ b). s.past a (rw get_or-set_other at w)) (cases_eq a b)

    waits : (a : ℕ) → a < length start → slice_index need a ≡ 0 → (slice_index_or (slice_set done b true) a false ≡ true) ⊎ IsIn a work
    waits a l w = ⊎_elim
        (λ (q : a ≡ b). inl (let inside : b < length done = omega (arith, in_b.0, s.all) in rw q (rw get_or-set_same refl)))
        (λ (q : a ≢ b). ⊎_elim (λ y. inl (rw get_or-set_other y)) (λ i. ⊎_elim (λ j. inr j) (λ p. absurd (q (sym p))) (in_popped a b work i)) (s.waits a l w))
        (cases_eq a b)

    same : (e : ℕ) → e < length from → is_edge_counted to done c 0 e ≡ is_edge_counted to (slice_set done b true) b (latest to b (length to)) e
    same e l = ⊎_elim
        (λ (q : slice_index to e ≡ b).
        let low : e < latest to b (length to) = ⊎_elim (λ i. i) (λ i. absurd (latest_passes to b (length to) e i (omega (arith, l, g.alike)) q)) (cases_lt e (latest to b (length to))) in
        counted_out (slice_index_or done (slice_index to e) false) (slice_index to e == c) (nat_lt e 0) (none_below e) ∙ (rw (q, off) (sym (not_counted (slice_index_or (slice_set done b true) b false) (b == b) (nat_lt e (latest to b (length to))) (eq-eqb b b refl) (lt-ltb e (latest to b (length to)) low)))))
        (λ (q : slice_index to e ≢ b).
        counted_out (slice_index_or done (slice_index to e) false) (slice_index to e == c) (nat_lt e 0) (none_below e) ∙ (rw get_or-set_other (sym (elsewhere (slice_index_or done (slice_index to e) false) (slice_index to e == b) (nat_lt e (latest to b (length to))) (ne_eqb (slice_index to e) b q)))))
        (cases_eq (slice_index to e) b)

-- an edge is counted
pub counted : (from to start need work now : List ℕ) (done : List Bool) (b e : ℕ) → IsGraph (length start) from to → e < length from → slice_index to e ≡ b → slice_index_or done b false ≡ true
    → Going from to start need work done b (suc e)
    → now ≡ (if slice_index need (slice_index from e) == 1 then work ++ slice_index from e ∷ [] else work)
    → Going from to start (slice_set need (slice_index from e) (slice_index need (slice_index from e) - 1)) now done b (latest to b e)
counted from to start need work now done b e g l goes is s new = record {
  long = length-set need a (slice_index need a - 1) ∙ s.long;
  all = s.all;
  left = left;
  past = λ x w. zero_stays x (s.past x w);
  waits = waits;
  within = within;
  derived = λ x i w. ⊎_elim (λ (q : slice_index need x ≡ 0). s.derived x i q) (λ (q : slice_index need x ≢ 0). settle x (is_edge_counted to done b (latest to b e)) (λ k m c. s.derived (slice_index to k) (g.ends k m) (s.past (slice_index to k) (and_parts (slice_index_or done (slice_index to k) false) (not ((slice_index to k == b) && nat_lt k (latest to b e))) c).0)) (omega (arith, left x, w))) (cases_eq (slice_index need x) 0);
}
  where
    a : ℕ
    a = slice_index from e

    next : List ℕ
    next = slice_set need a (slice_index need a - 1)

    inside : a < length need
    inside = omega (arith, g.starts e l, s.long)

    same_place : slice_index next a ≡ slice_index need a - 1
    same_place = let within' : slice_index from e < length need = inside in rw get_or-set_same refl

    at_x : (x : ℕ) → slice_index next x ≡ slice_index need x - one_if (a == x)
    at_x x = ⊎_elim
        (λ (q : x ≡ a). subst (λ z. slice_index next z ≡ slice_index need z - one_if (a == z)) (sym q) (rw (eq-eqb a a refl) same_place))
        (λ (q : x ≢ a). rw (ne_eqb a x (λ p. q (sym p))) (rw get_or-set_other (omega arith)))
        (cases_eq x a)

    off : is_edge_counted to done b (suc e) e ≡ false
    off = not_counted (slice_index_or done (slice_index to e) false) (slice_index to e == b) (nat_lt e (suc e)) (eq-eqb (slice_index to e) b goes) (lt-ltb e (suc e) (omega arith))

    on : is_edge_counted to done b (latest to b e) e ≡ true
    on = counted_out (slice_index_or done (slice_index to e) false) (slice_index to e == b) (nat_lt e (latest to b e)) (le-ltb e (latest to b e) (latest-le to b e)) ∙ (rw goes is)

    sides : (k : ℕ) → k < length from → k ≢ e → slice_index to k ≡ b → nat_lt k (suc e) ≡ nat_lt k (latest to b e)
    sides k m n q = ⊎_elim
        (λ i. lt-ltb k (suc e) (omega (arith, i, latest-le to b e)) ∙ sym (lt-ltb k (latest to b e) i))
        (λ i. ⊎_elim (λ j. absurd (latest_passes to b e k i j q)) (λ j. le-ltb k (suc e) (omega (arith, j, n)) ∙ sym (le-ltb k (latest to b e) i)) (cases_lt k e))
        (cases_lt k (latest to b e))

    others : (k : ℕ) → k < length from → k ≢ e → is_edge_counted to done b (suc e) k ≡ is_edge_counted to done b (latest to b e) k
    others k m n = ⊎_elim
        (λ (q : slice_index to k ≡ b). ap (λ t. slice_index_or done (slice_index to k) false && not ((slice_index to k == b) && t)) (sides k m n q))
        (λ (q : slice_index to k ≢ b). elsewhere (slice_index_or done (slice_index to k) false) (slice_index to k == b) (nat_lt k (suc e)) (ne_eqb (slice_index to k) b q)
        ∙ sym (elsewhere (slice_index_or done (slice_index to k) false) (slice_index to k == b) (nat_lt k (latest to b e)) (ne_eqb (slice_index to k) b q)))
        (cases_eq (slice_index to k) b)

    more : (x : ℕ) → chosen from (is_edge_counted to done b (latest to b e)) x (length from) ≡ chosen from (is_edge_counted to done b (suc e)) x (length from) + one_if (a == x)
    more x = chosen_more from (is_edge_counted to done b (suc e)) (is_edge_counted to done b (latest to b e)) x (length from) e l off on others

    left : (x : ℕ) → slice_index next x ≡ slice_index start x - chosen from (is_edge_counted to done b (latest to b e)) x (length from)
    left x = omega (arith, at_x x, more x, s.left x)

    zero_stays : (x : ℕ) → slice_index need x ≡ 0 → slice_index next x ≡ 0
    zero_stays x q = omega (arith, at_x x, q)

    waits : (x : ℕ) → x < length start → slice_index next x ≡ 0 → (slice_index_or done x false ≡ true) ⊎ IsIn x now
    waits x i w = ⊎_elim
        (λ (q : slice_index need x ≡ 0). ⊎_elim (λ y. inl y) (λ j. inr (rw new (keeps (slice_index need a == 1) j))) (s.waits x i q))
        (λ (q : slice_index need x ≢ 0). inr (rw new (adds x q w (slice_index need a == 1) refl)))
        (cases_eq (slice_index need x) 0)
      where
        keeps : (t : Bool) → IsIn x work → IsIn x (if t then work ++ a ∷ [] else work)
        keeps true j = in_pushed x a work j
        keeps false j = j

        adds : (x : ℕ) → slice_index need x ≢ 0 → slice_index next x ≡ 0 → (t : Bool) → (slice_index need a == 1) ≡ t → IsIn x (if t then work ++ a ∷ [] else work)
        adds x q w t y = ⊎_elim (λ (z : x ≡ a). one z t y) (λ (z : x ≢ a). absurd (let no_less : one_if (a == x) ≡ 0 = rw (ne_eqb a x (λ p. z (sym p))) refl in omega (arith, at_x x, no_less, q, w))) (cases_eq x a)
          where
            one : x ≡ a → (t : Bool) → (slice_index need a == 1) ≡ t → IsIn x (if t then work ++ a ∷ [] else work)
            one z true y = rw z (in_last a work)
            one z false y =
                let not_one : slice_index need a ≢ 1 = differ_from (slice_index need a) 1 y in
                let not_zero : slice_index need a ≢ 0 = subst (λ v. slice_index need v ≢ 0) z q in
                let gone : slice_index next a ≡ 0 = subst (λ v. slice_index next v ≡ 0) z w in
                absurd (omega (arith, same_place, not_one, not_zero, gone))

    within : (x : ℕ) → IsIn x now → (x < length start) × (slice_index next x ≡ 0)
    within x i = by_test (slice_index need a == 1) refl (rw new at i)
      where
        known : IsIn x work → (x < length start) × (slice_index next x ≡ 0)
        known j = ((s.within x j).0, zero_stays x (s.within x j).1)

        by_test : (t : Bool) → (slice_index need a == 1) ≡ t → IsIn x (if t then work ++ a ∷ [] else work) → (x < length start) × (slice_index next x ≡ 0)
        by_test true y j = ⊎_elim known (λ (q : a ≡ x). subst (λ z. (z < length start) × (slice_index next z ≡ 0)) q (g.starts e l, let one : slice_index need a ≡ 1 = eqb-true (slice_index need a) 1 y in omega (arith, same_place, one))) (in_popped x a work j)
        by_test false y j = known j

-- ---- the work gets less

-- ---- the nodes that need nothing

pub zeros_all : (need : List ℕ) (n a : ℕ) → a < n → slice_index need a ≡ 0 → IsIn a (zeros need n)
zeros_all need zero a l z = absurd (omega (arith, l))
zeros_all need (suc n) a l z = by_test (slice_index need n == 0) refl (λ i. zeros_all need n a i z)
  where
    by_test : (t : Bool) → (slice_index need n == 0) ≡ t → (a < n → IsIn a (zeros need n)) → IsIn a (if t then zeros need n ++ n ∷ [] else zeros need n)
    by_test true w more = ⊎_elim (λ (q : a ≡ n). rw q (in_last n (zeros need n))) (λ (q : a ≢ n). in_pushed a n (zeros need n) (more (omega (arith, l, q)))) (cases_eq a n)
    by_test false w more = ⊎_elim (λ (q : a ≡ n). absurd (differ_from (slice_index need n) 0 w (subst (λ x. slice_index need x ≡ 0) q z))) (λ (q : a ≢ n). more (omega (arith, l, q))) (cases_eq a n)

pub zeros_only : (need : List ℕ) (n a : ℕ) → IsIn a (zeros need n) → (a < n) × (slice_index need a ≡ 0)
zeros_only need zero a i = absurd i
zeros_only need (suc n) a i = by_test (slice_index need n == 0) refl i (λ j. zeros_only need n a j)
  where
    by_test : (t : Bool) → (slice_index need n == 0) ≡ t → IsIn a (if t then zeros need n ++ n ∷ [] else zeros need n) → (IsIn a (zeros need n) → (a < n) × (slice_index need a ≡ 0)) → (a < suc n) × (slice_index need a ≡ 0)
    by_test true w i more = ⊎_elim (λ j. (let l : a < n = (more j).0 in omega (arith, l), (more j).1)) (λ (q : n ≡ a). (omega (arith, q), subst (λ x. slice_index need x ≡ 0) q (eqb-true (slice_index need n) 0 w))) (in_popped a n (zeros need n) i)
    by_test false w i more = (let l : a < n = (more i).0 in omega (arith, l), (more i).1)

-- ---- for the loops

pub chain_next : (n : ℕ) (from to lasts befores : List ℕ) (b at : ℕ) → IsGraph n from to → IsChained n to lasts befores → 0 < at → at ≤ length to → latest to b at ≡ at
    → (slice_index to (at - 1) ≡ b) × (slice_index befores (at - 1) ≡ latest to b (at - 1))
chain_next n from to lasts befores b zero g k p f again = absurd (omega (arith, p))
chain_next n from to lasts befores b (suc e) g k p f again =
    let down : suc e - 1 ≡ e = omega arith in
    let goes : slice_index to e ≡ b = latest_goes to b (suc e) e again in
    rw down (goes, k.before e (omega (arith, f)) ∙ ap (λ x. latest to x e) goes)

pub released : (from to start need work now lasts befores : List ℕ) (done : List Bool) (n b at : ℕ) → IsGraph n from to → IsChained n to lasts befores → slice_index_or done b false ≡ true → 0 < at → at ≤ length to → latest to b at ≡ at
    → now ≡ (if slice_index need (slice_index from (at - 1)) == 1 then work ++ slice_index from (at - 1) ∷ [] else work) → length start ≡ n
    → Going from to start need work done b at → Going from to start (slice_set need (slice_index from (at - 1)) (slice_index need (slice_index from (at - 1)) - 1)) now done b (slice_index befores (at - 1))
released from to start need work now lasts befores done n b at g k is p f again new l s =
    let next : (slice_index to (at - 1) ≡ b) × (slice_index befores (at - 1) ≡ latest to b (at - 1)) = chain_next n from to lasts befores b at g k p f again in
    let up : at ≡ suc (at - 1) = omega (arith, p) in
    subst (λ x. Going from to start (slice_set need (slice_index from (at - 1)) (slice_index need (slice_index from (at - 1)) - 1)) now done b x) (sym next.1)
    (counted from to start need work now done b (at - 1) (subst (λ m. IsGraph m from to) (sym l) g) (omega (arith, f, p, g.alike)) next.0 is (subst (λ x. Going from to start need work done b x) up s) new)

pub chain_less : (n : ℕ) (from to lasts befores : List ℕ) (b at : ℕ) → IsGraph n from to → IsChained n to lasts befores → 0 < at → at ≤ length to → latest to b at ≡ at
    → (slice_index befores (at - 1) < at) × (latest to b (slice_index befores (at - 1)) ≡ slice_index befores (at - 1))
chain_less n from to lasts befores b at g k p f again =
    let next : (slice_index to (at - 1) ≡ b) × (slice_index befores (at - 1) ≡ latest to b (at - 1)) = chain_next n from to lasts befores b at g k p f again in
    (omega (arith, next.1, latest-le to b (at - 1), p), subst (λ x. latest to b x ≡ x) (sym next.1) (latest_again to b (at - 1)))

pub seen : (from to start need work : List ℕ) (done : List Bool) (c b : ℕ) → Going from to start need (work ++ b ∷ []) done c 0 → slice_index_or done b false ≡ true → Going from to start need work done c 0
seen from to start need work done c b s is = record {
  long = s.long;
  all = s.all;
  left = s.left;
  past = s.past;
  waits = λ a l w. ⊎_elim (λ y. inl y) (λ i. ⊎_elim (λ j. inr j) (λ q. inl (rw (← q) is)) (in_popped a b work i)) (s.waits a l w);
  within = λ a i. s.within a (in_pushed a b work i);
  derived = s.derived;
}

pub off_at : (n a : ℕ) → slice_index_or (replicate n false) a false ≡ false
off_at zero a = refl
off_at (suc n) zero = refl
off_at (suc n) (suc a) = off_at n a

pub first_in : (from to start need old work : List ℕ) (done : List Bool) (c b : ℕ) → old ≡ work ++ b ∷ [] → Going from to start need old done c 0 → (b < length start) × (slice_index need b ≡ 0)
first_in from to start need old work done c b q s = s.within b (rw q (in_last b work))
