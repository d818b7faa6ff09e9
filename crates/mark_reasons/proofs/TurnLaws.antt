-- The walk to a method that calls itself: a node that leads to a cycle calls one that does, so the way goes on until it comes
-- back.
use Rattle.std.proofs.Common.{◌≡◌, ℕ, ◌+◌, ◌-◌, ◌*◌, ◌/◌, ◌<◌, ◌≢◌, Bool, true, false, List, [], ◌∷◌, ◌++◌, length, Option, Some, None, refl, sym, ap, subst, ◌∙◌, arith, ⊎_elim, get_or-set_same, get_or-set_other, cond, ◌==◌, replicate, slice_get, slice_set, slice_index, slice_index_or}
use Rattle.std.proofs.lemmas.{Bool.{cases_eq, Decides.nat_tests}, List.{length-append, length-set, length-replicate, Sums.sum_by-set}}
use Rattle.jvm_types.specs.{ProgramInvariant.IsProgram, declared.program.{MethodInfo.MethodInfo, Program.Program}}
use Rattle.graph_closure.specs.Walks.{IsEdge, Walks, LeadsOn, Recurs, AreRecurring}
use Rattle.checked_program.specs.{Marks.{Callee, Calls}, Sections.{Section, section_mode, IsOwn}, TaggedCode.{Tagged, tagged_by}, declared.{section.Mode.Mode, tag.Tags.Tags}}
use Rattle.guard_analysis.{specs.CallGraph.{mode_at, call_graph}, proofs.CallEdges.edges_are_calls}
use Rattle.mark_reasons.specs.Reasons.{callee_of, own_callee, IsWay, BeginsOwn, ComesBack}
use Rattle.mark_reasons.specs.{Searches.{callee_at, class_of_section, calls_of, node_call, node_size, turns, site_at, own_site, IsFirstTurn, Walking, unplaced}, declared.reason.Site.Site}
use Rattle.mark_reasons.proofs.{Nodes.{no_uses, calls_found, calls_there, node_again}, SearchLaws.{got_before, got_last, all_same}}

-- ---- ways

module _ (p : Program) (tags : Tagged) where
  pub way_more : (a : Callee) (way : List Site) (b : Callee) (x : Site) (c : Callee) → IsWay p tags a way b → callee_of x ≡ b → Calls p tags b x.at c → IsWay p tags a (way ++ x ∷ []) c
  way_more a [] b x c h e k = (e ∙ sym h, c, subst (λ (y : Callee). Calls p tags y x.at c) (sym h) k, refl)
  way_more a (y ∷ ys) b x c h e k = (h.0, h.1, h.2, way_more h.1 ys b x c h.3 e k)

  pub own_more : (s : Section) (way : List Site) (x : Site) → BeginsOwn p tags s way → BeginsOwn p tags s (way ++ x ∷ [])
  own_more s [] x h = absurd h
  own_more s (y ∷ ys) x h = h

-- ---- calls that lead to a cycle

recurs_on : (from to : List ℕ) (a : ℕ) → Recurs from to a → (y : ℕ) × (IsEdge from to a y) × Recurs from to y
recurs_on from to a r = by_walk r.0 r.1.0 r.1.1 r.2
  where
    by_walk : (u : ℕ) (xs : List ℕ) → Walks from to a xs u → LeadsOn from to u u → (y : ℕ) × (IsEdge from to a y) × Recurs from to y
    by_walk u [] w on = (on.0, subst (λ x. IsEdge from to x on.0) (sym w) on.1, (u, on.2, on))
    by_walk u (x ∷ xs) w on = (x, w.0, (u, (xs, w.1), on))

module _ (p : Program) (tags : List Tags) (is : IsProgram p) (recurs : List Bool) (are : AreRecurring (call_graph p tags).from (call_graph p tags).to (3 * length p.methods) recurs) where
  -- a flagged node calls a flagged one
  turns_on : (class a : ℕ) → a < 3 * length p.methods → slice_index_or recurs a false ≡ true → (i : ℕ) × (i < node_size (slice_get p.methods (a / 3)) (slice_get tags (a / 3))) × (turns recurs (calls_of p tags class a i) ≡ true)
  turns_on class a l e =
      let on = recurs_on (call_graph p tags).from (call_graph p tags).to a ((are.each a l).0 e) in
      let call = (edges_are_calls p tags is).only (callee_at class a) on.0 (subst (λ x. IsEdge (call_graph p tags).from (call_graph p tags).to x on.0) (sym (node_again class a)) on.1) in
      let there = calls_there p no_uses tags is class a call.2.0 call.0 call.2.1 in
      let is_call : calls_of p tags class a call.2.0 ≡ Some on.0 = there.1 ∙ ap Some call.1 in
      let low : on.0 < 3 * length p.methods = (calls_found p no_uses tags is class a call.2.0 on.0 is_call).0 in
      (call.2.0, there.0, ap (λ o. turns recurs o) is_call ∙ (are.each on.0 low).1 on.2)

  no_turn : (om : Option MethodInfo) (ot : Option Tags) (mode : Mode) → IsFirstTurn p recurs om ot mode None → (i : ℕ) → i < node_size om ot → turns recurs (node_call p om ot mode i) ≡ false
  no_turn (Some m) (Some t) mode h i l = h i l
  no_turn (Some m) None mode h i l = absurd (omega (arith, l))
  no_turn None ot mode h i l = absurd (omega (arith, l))

  pub some_turns : (class a : ℕ) → a < 3 * length p.methods → slice_index_or recurs a false ≡ true → IsFirstTurn p recurs (slice_get p.methods (a / 3)) (slice_get tags (a / 3)) (mode_at class a) None → ⊥
  some_turns class a l e h =
      let r = turns_on class a l e in
      let bad : true ≡ false = sym r.2 ∙ no_turn (slice_get p.methods (a / 3)) (slice_get tags (a / 3)) (mode_at class a) h r.0 r.1 in
      cc

  pub turn_is : (om : Option MethodInfo) (ot : Option Tags) (mode : Mode) (i : ℕ) → IsFirstTurn p recurs om ot mode (Some i) → turns recurs (node_call p om ot mode i) ≡ true
  turn_is (Some m) (Some t) mode i h = h.1
  turn_is (Some m) None mode i h = absurd (cc)
  turn_is None ot mode i h = absurd (cc)

  -- ---- the walk

  module _ (s : Section) where
    abbrev class : ℕ
    class = class_of_section p s

    abbrev Walks_on : ℕ → List Site → List ℕ → Type 0
    Walks_on node way places = Walking p (tagged_by tags) s recurs (3 * length p.methods) node way places

    pub walk_begins : (at node : ℕ) (places : List ℕ) → places ≡ replicate (3 * length p.methods) 0 → IsOwn p (tagged_by tags) s.method s.spot at → Calls p (tagged_by tags) (own_callee p s) at (callee_at class node) → node < 3 * length p.methods → slice_index_or recurs node false ≡ true
        → Walks_on node (own_site (section_mode p s) s.method at ∷ []) places
    walk_begins at node places e own calls l flag = record {
      leads = (refl, callee_at class node, calls, refl);
      own = own;
      flagged = flag;
      inside = l;
      long = ap length e ∙ length-replicate (3 * length p.methods) 0;
      noted = λ j k. absurd (let none : slice_index places j ≡ 0 = ap (λ xs. slice_index xs j) e ∙ all_same 0 (3 * length p.methods) j in omega (arith, none, k));
    }

    pub walk_goes_on : (node i next : ℕ) (way : List Site) (places : List ℕ) → Walks_on node way places → calls_of p tags class node i ≡ Some next → slice_index_or recurs next false ≡ true → Walks_on next (way ++ site_at class node i ∷ []) (slice_set places node (length way + 1))
    walk_goes_on node i next way places h c flag =
        let call = calls_found p no_uses tags is class node i next c in
        record {
          leads = way_more p (tagged_by tags) (own_callee p s) way (callee_at class node) (site_at class node i) (callee_at class next) h.leads refl call.1;
          own = own_more p (tagged_by tags) s way (site_at class node i) h.own;
          flagged = flag;
          inside = call.0;
          long = length-set places node (length way + 1) ∙ h.long;
          noted = λ j k. ⊎_elim (λ (q : j ≡ node). here j q) (λ (q : j ≢ node). there j q k) (cases_eq j node);
        }
      where
        is_here : slice_index (slice_set places node (length way + 1)) node ≡ length way + 1
        is_here = let inside : node < length places = (let low : node < 3 * length p.methods = h.inside in omega (arith, low, h.long)) in rw get_or-set_same refl

        here : (j : ℕ) → j ≡ node → (x : Site) × (slice_get (way ++ site_at class node i ∷ []) (slice_index (slice_set places node (length way + 1)) j - 1) ≡ Some x) × (callee_of x ≡ callee_at class j)
        here j q =
            let at : slice_index (slice_set places node (length way + 1)) j - 1 ≡ length way = (let e : slice_index (slice_set places node (length way + 1)) j ≡ length way + 1 = ap (λ k. slice_index (slice_set places node (length way + 1)) k) q ∙ is_here in omega (arith, e)) in
            (site_at class node i, ap (λ k. slice_get (way ++ site_at class node i ∷ []) k) at ∙ got_last way (site_at class node i), ap (callee_at class) (sym q))

        there : (j : ℕ) → j ≢ node → 0 < slice_index (slice_set places node (length way + 1)) j → (x : Site) × (slice_get (way ++ site_at class node i ∷ []) (slice_index (slice_set places node (length way + 1)) j - 1) ≡ Some x) × (callee_of x ≡ callee_at class j)
        there j q k =
            let same : slice_index (slice_set places node (length way + 1)) j ≡ slice_index places j = rw get_or-set_other refl in
            let r = h.noted j (subst (λ n. 0 < n) same k) in
            (r.0, ap (λ n. slice_get (way ++ site_at class node i ∷ []) (n - 1)) same ∙ got_before way (site_at class node i) (slice_index places j - 1) r.0 r.1, r.2)

    pub walk_shown : (node i next : ℕ) (site : Site) (way ahead : List Site) (places set : List ℕ) → Walks_on node way places → IsFirstTurn p recurs (slice_get p.methods (node / 3)) (slice_get tags (node / 3)) (mode_at class node) (Some i) → calls_of p tags class node i ≡ Some next
        → site ≡ site_at class node i → ahead ≡ way ++ site ∷ [] → set ≡ slice_set places node (length ahead) → Walks_on next ahead set
    walk_shown node i next site way ahead places set h turn call at e f =
        let flag : slice_index_or recurs next false ≡ true = ap (λ o. turns recurs o) (sym call) ∙ turn_is (slice_get p.methods (node / 3)) (slice_get tags (node / 3)) (mode_at class node) i turn in
        let longer : ahead ≡ way ++ site_at class node i ∷ [] = e ∙ ap (λ (x : Site). way ++ x ∷ []) at in
        let long : length ahead ≡ length way + 1 = ap length longer ∙ length-append way (site_at class node i ∷ []) in
        subst (λ (xs : List Site). Walks_on next xs set) (sym longer)
        (subst (λ (ns : List ℕ). Walks_on next (way ++ site_at class node i ∷ []) ns) (sym (f ∙ ap (λ n. slice_set places node n) long)) (walk_goes_on node i next way places h call flag))

    one_if_zero : ℕ → ℕ
    one_if_zero n = cond (n == 0) 1 0

    pub walk_lessens : (node x : ℕ) (places : List ℕ) → node < length places → slice_index places node ≡ 0 → unplaced (slice_set places node (x + 1)) < unplaced places
    unfolding one_if_zero
    walk_lessens node x places l e =
        let sum : unplaced (slice_set places node (x + 1)) + one_if_zero (slice_index places node) ≡ unplaced places + one_if_zero (x + 1) = sum_by-set (λ n. cond (n == 0) 1 0) places node (x + 1) 0 l in
        let was : one_if_zero (slice_index places node) ≡ 1 = ap one_if_zero e in
        let test : (x + 1 == 0) ≡ false = grind (arith, nat_tests) in
        let now : one_if_zero (x + 1) ≡ 0 = ap (λ (b : Bool). cond b 1 0) test in
        omega (arith, sum, was, now)

    pub walk_ends : (node again : ℕ) (way : List Site) (places : List ℕ) → Walks_on node way places → 0 < slice_index places node → again ≡ slice_index places node - 1 → ComesBack p (tagged_by tags) s way again
    walk_ends node again way places h k e =
        let r = h.noted node k in
        record { to = callee_at class node; leads = h.leads; own = h.own; from = r.0; there = ap (λ n. slice_get way n) e ∙ r.1; same = r.2 }
