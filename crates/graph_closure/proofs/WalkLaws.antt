-- What the least closed set is for two rules: the nodes that lead into a set, and those that lead to no cycle.
use Rattle.std.proofs.Common.{◌≡◌, ℕ, zero, suc, ◌+◌, ◌<◌, ◌≤◌, ◌≢◌, Bool, true, false, eqb, List, [], ◌∷◌, length, refl, sym, subst, arith, ⊎_elim, ◌||◌, ◌&&◌, not, map, ◌∙◌, get_or-set_same, get_or-set_other, ap, take, drop, ◌++◌, ◌==◌, ◌↔◌, slice_index, slice_index_or, slice_set}
use Rattle.std.{specs.List.{AllByRecursion, list_any, IsDistinct}, proofs.{Math.Seq.take-length, lemmas.Bool.{cases_eq, cases_lt, eq-eqb, eqb-true}}}
use Rattle.std.proofs.lemmas.{List.{length-map, get_or-map, get_or_past, take-append-le}, Map.Steps.length-le_from_distinct_below}
use Rattle.graph_closure.specs.LeastSet.{one_if, chosen, Settles, settle, IsSpread, IsGraph}
use Rattle.graph_closure.specs.Walks.{IsEdge, Walks, Leads, LeadsOn, Recurs, FindsLeading, FindsRecurring, AreLeading, AreRecurring, AreDegrees, need_unless}
use Rattle.graph_closure.proofs.SpreadLaws.{differ_from, chosen-le}

-- ---- counts and edges

-- where some are chosen there is one
some_chosen : (from : List ℕ) (h : ℕ → Bool) (a m : ℕ) → 0 < chosen from h a m → (e : ℕ) × (e < m) × (slice_index from e ≡ a) × (h e ≡ true)
some_chosen from h a zero l = absurd (omega (arith, l))
some_chosen from h a (suc m) l = by_test (slice_index from m == a) (h m) refl refl l (λ k. some_chosen from h a m k)
  where
    less : ((e : ℕ) × (e < m) × (slice_index from e ≡ a) × (h e ≡ true)) → (e : ℕ) × (e < suc m) × (slice_index from e ≡ a) × (h e ≡ true)
    less x = let i : x.0 < m = x.1 in (x.0, omega (arith, i), x.2, x.3)

    by_test : (t u : Bool) → (slice_index from m == a) ≡ t → h m ≡ u → 0 < chosen from h a m + one_if (t && u) → (0 < chosen from h a m → (e : ℕ) × (e < m) × (slice_index from e ≡ a) × (h e ≡ true))
        → (e : ℕ) × (e < suc m) × (slice_index from e ≡ a) × (h e ≡ true)
    by_test true true v w k more = (m, omega arith, eqb-true (slice_index from m) a v, w)
    by_test true false v w k more = less (more (omega (arith, k)))
    by_test false u v w k more = less (more (omega (arith, k)))

-- where fewer are chosen than there are, one is not
some_left : (from : List ℕ) (h : ℕ → Bool) (a m : ℕ) → chosen from h a m < chosen from (λ e. true) a m → (e : ℕ) × (e < m) × (slice_index from e ≡ a) × (h e ≡ false)
some_left from h a zero l = absurd (omega (arith, l))
some_left from h a (suc m) l = by_test (slice_index from m == a) (h m) refl refl l (λ k. some_left from h a m k)
  where
    less : ((e : ℕ) × (e < m) × (slice_index from e ≡ a) × (h e ≡ false)) → (e : ℕ) × (e < suc m) × (slice_index from e ≡ a) × (h e ≡ false)
    less x = let i : x.0 < m = x.1 in (x.0, omega (arith, i), x.2, x.3)

    by_test : (t u : Bool) → (slice_index from m == a) ≡ t → h m ≡ u → chosen from h a m + one_if (t && u) < chosen from (λ e. true) a m + one_if (t && true)
        → (chosen from h a m < chosen from (λ e. true) a m → (e : ℕ) × (e < m) × (slice_index from e ≡ a) × (h e ≡ false)) → (e : ℕ) × (e < suc m) × (slice_index from e ≡ a) × (h e ≡ false)
    by_test true false v w k more = (m, omega arith, eqb-true (slice_index from m) a v, w)
    by_test true true v w k more = less (more (omega (arith, k)))
    by_test false u v w k more = less (more (omega (arith, k)))

-- an edge that leaves a is counted
counts_one : (from : List ℕ) (h : ℕ → Bool) (a m e : ℕ) → e < m → slice_index from e ≡ a → h e ≡ true → 0 < chosen from h a m
counts_one from h a zero e l f c = absurd (omega (arith, l))
counts_one from h a (suc m) e l f c = ⊎_elim
    (λ (q : e ≡ m). let here : slice_index from m ≡ a = subst (λ x. slice_index from x ≡ a) q f in let on : h m ≡ true = subst (λ x. h x ≡ true) q c in rw (eq-eqb (slice_index from m) a here, on) (omega arith))
    (λ (q : e ≢ m). let less : 0 < chosen from h a m = counts_one from h a m e (omega (arith, l, q)) f c in omega (arith, less))
    (cases_eq e m)

-- where as many are chosen as there are, each is
all_chosen : (from : List ℕ) (h : ℕ → Bool) (a m e : ℕ) → chosen from (λ x. true) a m ≤ chosen from h a m → e < m → slice_index from e ≡ a → h e ≡ true
all_chosen from h a zero e k l f = absurd (omega (arith, l))
all_chosen from h a (suc m) e k l f = by_test (slice_index from m == a) (h m) refl refl k (λ i j. all_chosen from h a m e i j f)
  where
    low : chosen from h a m ≤ chosen from (λ x. true) a m
    low = chosen-le from h (λ x. true) a m (λ e l w. refl)

    by_test : (t u : Bool) → (slice_index from m == a) ≡ t → h m ≡ u → chosen from (λ x. true) a m + one_if (t && true) ≤ chosen from h a m + one_if (t && u)
        → (chosen from (λ x. true) a m ≤ chosen from h a m → e < m → h e ≡ true) → h e ≡ true
    by_test true true v w k more = ⊎_elim (λ (q : e ≡ m). rw q w) (λ (q : e ≢ m). more (omega (arith, k)) (omega (arith, l, q))) (cases_eq e m)
    by_test true false v w k more = absurd (omega (arith, k, low))
    by_test false u v w k more = ⊎_elim (λ (q : e ≡ m). absurd (differ_from (slice_index from m) a v (subst (λ x. slice_index from x ≡ a) q f))) (λ (q : e ≢ m). more (omega (arith, k)) (omega (arith, l, q))) (cases_eq e m)

-- ---- walks

walk_more : (from to : List ℕ) (a : ℕ) (ns : List ℕ) (b c : ℕ) → Walks from to a ns b → IsEdge from to b c → Leads from to a c
walk_more from to a [] b c w e = (c ∷ [], (rw w e, refl))
walk_more from to a (n ∷ ns) b c w e = let r = walk_more from to n ns b c w.1 e in (n ∷ r.0, (w.0, r.1))

pub leads_more : (from to : List ℕ) (a b c : ℕ) → Leads from to a b → IsEdge from to b c → Leads from to a c
leads_more from to a b c l e = walk_more from to a l.0 b c l.1 e

on_more : (from to : List ℕ) (a b c : ℕ) → LeadsOn from to a b → IsEdge from to b c → LeadsOn from to a c
on_more from to a b c l e = (l.0, l.1, leads_more from to l.0 b c l.2 e)

-- ---- into a set

module _ (from to start : List ℕ) (g : IsGraph (length start) from to) (one : (a : ℕ) → slice_index start a ≤ 1) where
  leading : (a : ℕ) → a < length start → Settles from to start a → (b : ℕ) × (b < length start) × Leads from to a b × (slice_index start b ≡ 0)
  leading a l (settle x h into enough) = ⊎_elim
      (λ (q : slice_index start a ≡ 0). (a, l, ([], refl), q))
      (λ (q : slice_index start a ≢ 0).
      let e = some_chosen from h a (length from) (omega (arith, enough, q)) in
      let r = leading (slice_index to e.0) (g.ends e.0 e.1) (into e.0 e.1 e.3) in
      (r.0, r.1, (slice_index to e.0 ∷ r.2.0, ((e.0, e.1, e.2, refl), r.2.1)), r.3))
      (cases_eq (slice_index start a) 0)

  found : (a : ℕ) (ns : List ℕ) (b : ℕ) → Walks from to a ns b → slice_index start b ≡ 0 → Settles from to start a
  found a [] b w z = settle a (λ e. false) (λ e l c. absurd (let bad : false ≡ true = c in cc)) (rw w (omega (arith, z)))
  found a (n ∷ ns) b w z = settle a (λ k. k == w.0.0) (λ e l c. let q : e ≡ w.0.0 = eqb-true e w.0.0 c in rw (q, w.0.3) (found n ns b w.1 z))
      (let some : 0 < chosen from (λ k. k == w.0.0) a (length from) = counts_one from (λ k. k == w.0.0) a (length from) w.0.0 w.0.1 w.0.2 (eq-eqb w.0.0 w.0.0 refl) in omega (arith, one a, some))

pub finds_leading : FindsLeading
finds_leading from to start need g s one a l = (λ z. leading from to start g one a l ((s.exact a l).0 z), λ r. (s.exact a l).1 (found from to start g one a r.2.0 r.0 r.2.1 r.3))

-- ---- to a cycle

module _ (from to start : List ℕ) (g : IsGraph (length start) from to) (degree : (a : ℕ) → a < length start → slice_index start a ≡ chosen from (λ e. true) a (length from)) where
  -- a node that leads to no cycle
  grounded : (a : ℕ) → a < length start → Settles from to start a → Recurs from to a → ⊥
  grounded a l (settle x h into enough) r = at (λ e k c q. grounded (slice_index to e) (g.ends e k) (into e k c) q) r.0 r.1.0 r.1.1 r.2
    where
      every : ((e : ℕ) → e < length from → h e ≡ true → Recurs from to (slice_index to e) → ⊥) → (n : ℕ) → IsEdge from to a n → Recurs from to n → ⊥
      every more n e q = more e.0 e.1 (all_chosen from h a (length from) e.0 (omega (arith, enough, degree a l)) e.1 e.2) (rw e.3 q)

      at : ((e : ℕ) → e < length from → h e ≡ true → Recurs from to (slice_index to e) → ⊥) → (u : ℕ) (ns : List ℕ) → Walks from to a ns u → LeadsOn from to u u → ⊥
      at more u [] w o = let back : LeadsOn from to a a = rw w o in every more back.0 back.1 (a, back.2, back)
      at more u (n ∷ ns) w o = every more n w.0 (u, (ns, w.1), o)

  module _ (need : List ℕ) (s : IsSpread from to start need) where
    -- a node that is not in the set has an edge to another
    step : (a : ℕ) → a < length start → slice_index need a ≢ 0 → (b : ℕ) × (b < length start) × IsEdge from to a b × (slice_index need b ≢ 0)
    step a l z =
        let e = some_left from (λ e. slice_index need (slice_index to e) == 0) a (length from) (omega (arith, s.left a, z, degree a l)) in
        (slice_index to e.0, g.ends e.0 e.1, (e.0, e.1, e.2, refl), differ_from (slice_index need (slice_index to e.0)) 0 e.3)

    apart : (a : ℕ) (vs : List ℕ) → list_any (eqb a) vs ≡ false → AllByRecursion (λ y. eqb a y ≡ false) vs
    apart a [] e = tt
    apart a (v ∷ vs) e = both (eqb a v) (list_any (eqb a) vs) refl refl e (λ q. apart a vs q)
      where
        both : (t u : Bool) → eqb a v ≡ t → list_any (eqb a) vs ≡ u → (t || u) ≡ false → (list_any (eqb a) vs ≡ false → AllByRecursion (λ y. eqb a y ≡ false) vs) → (eqb a v ≡ false) × AllByRecursion (λ y. eqb a y ≡ false) vs
        both false false x y q more = (x, more y)
        both true u x y q more = absurd (let bad : true ≡ false = q in cc)
        both false true x y q more = absurd (let bad : true ≡ false = q in cc)

    member : (a : ℕ) (vs : List ℕ) (P : ℕ → Type 0) → AllByRecursion P vs → list_any (eqb a) vs ≡ true → P a
    member a [] P all e = absurd (let bad : false ≡ true = e in cc)
    member a (v ∷ vs) P all e = here (eqb a v) refl e (λ q. member a vs P all.1 q)
      where
        here : (t : Bool) → eqb a v ≡ t → (t || list_any (eqb a) vs) ≡ true → (list_any (eqb a) vs ≡ true → P a) → P a
        here true x q more = subst P (sym (eqb-true a v x)) all.0
        here false x q more = more q

    each : (a b : ℕ) (vs : List ℕ) → IsEdge from to a b → AllByRecursion (λ v. LeadsOn from to v a) vs → AllByRecursion (λ v. LeadsOn from to v b) vs
    each a b [] e all = tt
    each a b (v ∷ vs) e all = (on_more from to v a b all.0 e, each a b vs e all.1)

    -- the nodes on the way to a; there is no room for more than there are
    go : (k : ℕ) (first a : ℕ) (vs : List ℕ) → length vs + k ≡ suc (length start) → IsDistinct eqb vs → AllByRecursion (λ v. v < length start) vs → AllByRecursion (λ v. LeadsOn from to v a) vs
        → Leads from to first a → a < length start → slice_index need a ≢ 0 → Recurs from to first
    unfolding IsDistinct
    go zero first a vs long distinct low back way l z = absurd (let few : length vs ≤ length start = length-le_from_distinct_below vs (length start) distinct (λ q e. member q vs (λ v. v < length start) low e) in omega (arith, few, long))
    go (suc k) first a vs long distinct low back way l z = by_test (list_any (eqb a) vs) refl (λ b i e y t. go k first b (a ∷ vs) (omega (arith, long)) (apart a vs t, distinct) (l, low) ((b, e, ([], refl)), each a b vs e back) (leads_more from to first a b way e) i y)
      where
        by_test : (t : Bool) → list_any (eqb a) vs ≡ t → ((b : ℕ) → b < length start → IsEdge from to a b → slice_index need b ≢ 0 → list_any (eqb a) vs ≡ false → Recurs from to first) → Recurs from to first
        by_test true e more = (a, way, member a vs (λ v. LeadsOn from to v a) back e)
        by_test false e more = let next = step a l z in more next.0 next.1 next.2 next.3 e

    cyclic : (a : ℕ) → a < length start → slice_index need a ≢ 0 → Recurs from to a
    unfolding IsDistinct
    cyclic a l z = go (suc (length start)) a a [] (omega arith) tt tt tt ([], refl) l z

pub finds_recurring : FindsRecurring
finds_recurring from to start need g s degree a l = (λ z r. grounded from to start g degree a l ((s.exact a l).0 z) r, λ z. cyclic from to start g degree need s a l z)

-- ---- what is found, node by node

module _ (from to : List ℕ) (into : List Bool) (need : List ℕ) (g : IsGraph (length into) from to) (s : IsSpread from to (map need_unless into) need) where
  starts_long : length (map need_unless into) ≡ length into
  starts_long = length-map into need_unless

  start_at : (a : ℕ) → a < length into → slice_index (map need_unless into) a ≡ need_unless (slice_index_or into a false)
  start_at a l = get_or-map need_unless into a false 0 l

  none_at : (b : Bool) → (need_unless b ≡ 0) ↔ (b ≡ true)
  none_at true = (λ e. refl, λ e. refl)
  none_at false = (λ e. absurd (omega (arith, e)), λ e. absurd (let bad : false ≡ true = e in cc))

  at_most : (b : Bool) → need_unless b ≤ 1
  at_most true = omega arith
  at_most false = omega arith

  one : (a : ℕ) → slice_index (map need_unless into) a ≤ 1
  one a = ⊎_elim (λ (l : a < length into). rw (start_at a l) (at_most (slice_index_or into a false)))
      (λ (l : length into ≤ a). rw (get_or_past (map need_unless into) a 0 (rw starts_long l)) (omega arith)) (cases_lt a (length into))

  found_at : (a : ℕ) → a < length into → (slice_index need a ≡ 0) ↔ ((b : ℕ) × (b < length (map need_unless into)) × Leads from to a b × (slice_index (map need_unless into) b ≡ 0))
  found_at a l = finds_leading from to (map need_unless into) need (rw starts_long g) s one a (rw starts_long l)

  pub leads_found : AreLeading from to into (map (λ n. n == 0) need)
  leads_found = record {
    long = length-map need (λ n. n == 0) ∙ s.long ∙ starts_long;
    each = λ a l.
        let low : a < length need = rw (s.long, starts_long) l in
        let is : slice_index_or (map (λ n. n == 0) need) a false ≡ (slice_index need a == 0) = get_or-map (λ n. n == 0) need a 0 false low in
        rw is (
          λ e. let r = (found_at a l).0 (eqb-true (slice_index need a) 0 e) in
              let inside : r.0 < length into = rw (← starts_long) r.1 in
              (r.0, inside, r.2, (none_at (slice_index_or into r.0 false)).0 (sym (start_at r.0 inside) ∙ r.3)),
          λ r. eq-eqb (slice_index need a) 0 ((found_at a l).1 (r.0, rw starts_long r.1, r.2, start_at r.0 r.1 ∙ (none_at (slice_index_or into r.0 false)).1 r.3)),
        );
  }

module _ (from to : List ℕ) (n : ℕ) (start need : List ℕ) (g : IsGraph n from to) (d : AreDegrees from n start) (s : IsSpread from to start need) where
  cycle_at : (a : ℕ) → a < n → ((slice_index need a ≡ 0) → Recurs from to a → ⊥) × ((slice_index need a ≡ 0 → ⊥) → Recurs from to a)
  cycle_at a l = finds_recurring from to start need (rw d.long g) s (λ b m. d.each b (rw (← d.long) m)) a (rw d.long l)

  by_need : (a : ℕ) → a < n → (b : Bool) → (slice_index need a == 0) ≡ b → (not b ≡ true) ↔ Recurs from to a
  by_need a l true e = (λ f. absurd (let bad : false ≡ true = f in cc), λ r. absurd ((cycle_at a l).0 (eqb-true (slice_index need a) 0 e) r))
  by_need a l false e = (λ f. (cycle_at a l).1 (differ_from (slice_index need a) 0 e), λ r. refl)

  pub cycles_found : AreRecurring from to n (map (λ k. not (k == 0)) need)
  cycles_found = record {
    long = length-map need (λ k. not (k == 0)) ∙ s.long ∙ d.long;
    each = λ a l.
        let low : a < length need = rw (s.long, d.long) l in
        let is : slice_index_or (map (λ k. not (k == 0)) need) a false ≡ not (slice_index need a == 0) = get_or-map (λ k. not (k == 0)) need a 0 false low in
        rw is (by_need a l (slice_index need a == 0) refl);
  }

-- ---- degrees

pub chosen_few : (from : List ℕ) (a m : ℕ) → chosen from (λ k. true) a m ≤ m
chosen_few from a zero = omega arith
chosen_few from a (suc m) = by_test ((slice_index from m == a) && true) (chosen_few from a m)
  where
    by_test : (t : Bool) → chosen from (λ k. true) a m ≤ m → chosen from (λ k. true) a m + one_if t ≤ suc m
    by_test true l = omega (arith, l)
    by_test false l = omega (arith, l)

none_more : (n : ℕ) → n ≡ n + 0
none_more n = omega arith

-- ---- what a vector shows after its slice was written

written : (len : ℕ) (items need shown : List ℕ) → length need ≡ length items → len ≡ length items → shown ≡ take len (need ++ drop (length need) items) → shown ≡ need
written len items need shown long is e =
    let same : len ≡ length need = omega (arith, long, is) in
    e ∙ ap (λ n. take n (need ++ drop (length need) items)) same ∙ take-append-le (length need) need (drop (length need) items) (omega arith) ∙ take-length need

pub leads_shown : (from to : List ℕ) (into : List Bool) (len : ℕ) (items need shown : List ℕ) (v : List Bool) → IsGraph (length into) from to → items ≡ map need_unless into → len ≡ length items → IsSpread from to items need
    → shown ≡ take len (need ++ drop (length need) items) → v ≡ map (λ n. n == 0) shown → AreLeading from to into v
leads_shown from to into len items need shown v g start is s e f =
    let same : shown ≡ need = written len items need shown s.long is e in
    subst (AreLeading from to into) (sym (f ∙ ap (λ l. map (λ n. n == 0) l) same)) (leads_found from to into need g (subst (λ l. IsSpread from to l need) start s))

pub cycles_shown : (from to : List ℕ) (n len : ℕ) (items need shown : List ℕ) (v : List Bool) → IsGraph n from to → AreDegrees from n items → len ≡ length items → IsSpread from to items need
    → shown ≡ take len (need ++ drop (length need) items) → v ≡ map (λ k. not (k == 0)) shown → AreRecurring from to n v
cycles_shown from to n len items need shown v g d is s e f =
    let same : shown ≡ need = written len items need shown s.long is e in
    subst (AreRecurring from to n) (sym (f ∙ ap (λ l. map (λ k. not (k == 0)) l) same)) (cycles_found from to n items need g d s)
