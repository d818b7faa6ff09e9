-- What instructions lead to is what blocks have for their marks.
use Rattle.std.proofs.Common.{◌≡◌, ℕ, zero, suc, ◌<◌, ◌≤◌, ◌+◌, ◌-◌, Bool, true, false, List, [], ◌∷◌, Option, refl, sym, ap, subst, ◌∙◌, arith, ⊎_elim, inl, inr, nat_lt, slice_get, slice_index}
use Rattle.std.{specs.List.list_any, proofs.lemmas.Bool.{or_cases, or_left, or_right, ltb-true, lt-ltb, Decides.nat_tests}}
use Rattle.jvm_types.specs.declared.program.MethodInfo.{MethodInfo}
use Rattle.checked_program.specs.LockTags.{TagShape}
use Rattle.graph_closure.specs.Chains.{IsIn}
use Rattle.widest_paths.specs.{WidestPaths.{LeadsAbove, ends, goes, is_labelled}, declared.graph.Graph.Graph}
use Rattle.guard_analysis.specs.BlockReach.{level_at, IsGraphOf, AreReaches, IsFirstRule, is_led_by, is_led_to}
use Rattle.guard_analysis.specs.declared.block_reach.Reaches.{Reaches}
use Rattle.guard_analysis.{specs.{BlockWalks.{ways_from, is_deep, IsPathInBlock, IsInside}, SectionGrades.IsFirstOf}, proofs.BlockGraphs.deep_level}

any_in : (p : ℕ → Bool) (xs : List ℕ) → list_any p xs ≡ true → (x : ℕ) × (IsIn x xs) × (p x ≡ true)
any_in p [] e = absurd (let bad : false ≡ true = e in cc)
any_in p (x ∷ xs) e = ⊎_elim (λ (k : p x ≡ true). (x, inl refl, k)) (λ (k : list_any p xs ≡ true). let r = any_in p xs k in (r.0, inr r.1, r.2)) (or_cases (p x) (list_any p xs) e)

in_any : (p : ℕ → Bool) (xs : List ℕ) (x : ℕ) → IsIn x xs → p x ≡ true → list_any p xs ≡ true
in_any p [] x i e = absurd i
in_any p (y ∷ xs) x (inl q) e = or_left (p y) (list_any p xs) (ap p q ∙ e)
in_any p (y ∷ xs) x (inr i) e = or_right (p y) (list_any p xs) (in_any p xs x i e)

label_is : (grades : List ℕ) (label i : ℕ) → is_labelled label (slice_get grades i) ≡ true → slice_index grades i ≡ label
label_is [] label i e = absurd (let bad : false ≡ true = e in cc)
label_is (x ∷ grades) label zero e = grind (arith, nat_tests)
label_is (x ∷ grades) label (suc i) e = label_is grades label i e

is_label : (grades : List ℕ) (label i : ℕ) → 0 < label → slice_index grades i ≡ label → is_labelled label (slice_get grades i) ≡ true
is_label [] label i l e = absurd (let bad : 0 ≡ label = e in omega (arith, l, bad))
is_label (x ∷ grades) label zero l e = grind (arith, nat_tests)
is_label (x ∷ grades) label (suc i) l e = is_label grades label i l e

module _ (m : MethodInfo) (frames : List (Option TagShape)) (grades : List ℕ) (g : Graph) (is : IsGraphOf m frames g) (depth : ℕ) where
  deep_of : (i : ℕ) → depth < slice_index g.levels i → is_deep m frames depth i ≡ true
  deep_of i l = deep_level depth (slice_get m.code i) (slice_get m.targets i) (slice_get frames i) ∙ lt-ltb depth (level_at m frames i) (omega (arith, l, is.levels i))

  of_deep : (i : ℕ) → is_deep m frames depth i ≡ true → depth < slice_index g.levels i
  of_deep i e = let l : depth < level_at m frames i = ltb-true depth (level_at m frames i) (sym (deep_level depth (slice_get m.code i) (slice_get m.targets i) (slice_get frames i)) ∙ e) in omega (arith, l, is.levels i)

  above : (i : ℕ) → depth < slice_index g.levels i → 0 < level_at m frames i
  above i l = omega (arith, l, is.levels i)

  pub led : (rule i : ℕ) → LeadsAbove g grades rule depth i → (over : List ℕ) × (j : ℕ) × (IsPathInBlock m frames depth i over j) × (slice_index grades j ≡ rule)
  led rule i (ends x l e) = ([], i, (refl, deep_of i l), label_is grades rule i e)
  led rule i (goes x k l e p) = let r = led rule k p in (k ∷ r.0, r.1, (deep_of i l, is.joins i k (above i l) e, r.2), r.3)

  pub leads : (rule i : ℕ) (over : List ℕ) (j : ℕ) → 0 < rule → IsPathInBlock m frames depth i over j → slice_index grades j ≡ rule → LeadsAbove g grades rule depth i
  leads rule i [] j some p e = ends i (of_deep i p.1) (is_label grades rule i some (ap (λ x. slice_index grades x) p.0 ∙ e))
  leads rule i (k ∷ over) j some p e = goes i k (of_deep i p.0) (is.edges i k (above i (of_deep i p.0)) p.1) (leads rule k over j some p.2 e)

pub first_is : (m : MethodInfo) (frames : List (Option TagShape)) (grades : List ℕ) (reaches : Reaches) (depth enter n : ℕ) → AreReaches m frames grades reaches → IsFirstRule reaches.rules (ways_from m enter) depth n → IsFirstOf (IsInside m frames depth enter) (λ i. slice_index grades i) n
first_is m frames grades reaches depth enter n are is = record { some = some n is.some; first = first }
  where
    some : (k : ℕ) → (0 < k → (k ≤ 7) × (is_led_to reaches.rules (ways_from m enter) depth (k - 1) ≡ true)) → 0 < k → (i : ℕ) × (IsInside m frames depth enter i) × (slice_index grades i ≡ k)
    some zero h l = absurd (omega (arith, l))
    some (suc r) h l =
        let low : suc r ≤ 7 = (h l).0 in
        let back : suc r - 1 ≡ r = omega arith in
        let w = are.widest r (omega (arith, low)) in
        let x = any_in (λ k. nat_lt depth (slice_index w.0 k)) (ways_from m enter) (subst (λ o. is_led_by o (ways_from m enter) depth ≡ true) w.1 (subst (λ n. is_led_to reaches.rules (ways_from m enter) depth n ≡ true) back (h l).1)) in
        let wide = w.2.leads x.0 depth (ltb-true depth (slice_index w.0 x.0) x.2) in
        let p = led m frames grades are.graph are.is_graph depth (r + 1) x.0 wide in
        let end : slice_index grades p.1 ≡ r + 1 = p.3 in
        (p.1, record { first = x.0; begins = x.1; over = p.0; stays = p.2 }, omega (arith, end))

    first : (i : ℕ) → IsInside m frames depth enter i → 0 < slice_index grades i → slice_index grades i ≤ 7 → (0 < n) × (n ≤ slice_index grades i)
    first i s l h = by_grade (slice_index grades i) refl l h
      where
        by_grade : (k : ℕ) → slice_index grades i ≡ k → 0 < k → k ≤ 7 → (0 < n) × (n ≤ k)
        by_grade zero e l h = absurd (omega (arith, l))
        by_grade (suc r) e l h =
            let next : r + 1 ≡ suc r = omega arith in
            let path = leads m frames grades are.graph are.is_graph depth (r + 1) s.first s.over i (omega arith) s.stays (e ∙ sym next) in
            let w = are.widest r (omega (arith, h)) in
            let low : depth < slice_index w.0 s.first = w.2.all s.first depth path in
            let any = in_any (λ k. nat_lt depth (slice_index w.0 k)) (ways_from m enter) s.first s.begins (lt-ltb depth (slice_index w.0 s.first) low) in
            let found = is.first r (omega (arith, h)) (subst (λ o. is_led_by o (ways_from m enter) depth ≡ true) (sym w.1) any) in
            let under : n ≤ r + 1 = found.1 in
            (found.0, omega (arith, under))
