-- The instructions by which the search came to an entry are a way from the section to it.
use Rattle.std.proofs.Common.{◌≡◌, ℕ, zero, suc, ◌+◌, ◌-◌, ◌*◌, ◌/◌, ◌<◌, ◌≤◌, Bool, true, false, List, [], ◌∷◌, ◌++◌, length, Option, Some, None, refl, sym, ap, subst, ◌∙◌, arith, nat_lt, replicate, reverse, if◌then◌else◌, slice_get, slice_index_or}
use Rattle.std.proofs.lemmas.{Bool.Decides.nat_tests, List.{length-replicate, reverse-append, append_assoc}, Option.same_Some}
use Rattle.jvm_types.specs.{ProgramInvariant.IsProgram, declared.program.{MethodInfo.MethodInfo, Program.Program}}
use Rattle.checked_program.specs.{Marks.{Callee, Calls, BreaksAt}, Sections.{Section, section_mode}, TaggedCode.{Tagged, tagged_by}, declared.{section.{Mode.Mode, Uses.Uses}, tag.Tags.Tags}}
use Rattle.guard_analysis.specs.CallGraph.{node_of, mode_at}
use Rattle.mark_reasons.specs.{OwnFlags.AreOwn, Reasons.{callee_of, own_callee, mark_by, IsFirstSectionFault, IsShortest, IsWay, BeginsOwn, LeadsToFault}}
use Rattle.mark_reasons.specs.Searches.{callee_at, class_of_section, calls_of, node_fault_of, node_call, node_fault, node_size, node_visits, own_call, own_site, site_at, visits, AreCalledBefore, IsBack, from_section, from_entry, IsCalled, IsFirstFaultOf, IsSearchSound, Searching, left_of}
use Rattle.mark_reasons.specs.declared.{reason.Site.Site, search.{Entry.Entry, Search.Search}}
use Rattle.mark_reasons.proofs.Nodes.{section_fits, called_by, calls_known, inside_calls, calls_found, calls_there, fault_breaks, fault_there}
use Rattle.mark_reasons.proofs.{SearchLaws.{all_same, nothing_yet, none_ordered, begins, goes_on, gets_less}, TurnLaws.{way_more, own_more}}

-- ---- one step back

pub back_step : (class : ℕ) (own : Mode) (method : ℕ) (queue : List Entry) (t c : ℕ) (e b : Entry) (front : List Site) → slice_get queue t ≡ Some e → 0 < e.caller → c ≡ e.caller - 1 → slice_get queue c ≡ Some b → IsBack class own method queue c front → IsBack class own method queue t (front ++ site_at class b.node e.at ∷ [])
back_step class own method queue t c e b front g l q h back = from_entry t c e b front g (omega (arith, l, q)) h back

pub way_prepends : (xs new : List Site) (x y : Site) (front : List Site) → new ≡ xs ++ x ∷ [] → x ≡ y → (front ++ y ∷ []) ++ reverse xs ≡ front ++ reverse new
way_prepends xs new x y front e q = rw (e, q) (simp (reverse-append, append_assoc))

pub way_reverses : (xs pushed turned : List Site) (x : Site) → pushed ≡ xs ++ x ∷ [] → turned ≡ reverse pushed → x ∷ reverse xs ≡ turned
way_reverses xs pushed turned x e q = rw (q, e) (simp reverse-append)

pub none_left : {X : Type 0} (o : Option X) → ((x : X) → o ≡ Some x → ⊥) → o ≡ None
none_left None h = refl
none_left (Some x) h = absurd (h x refl)

-- ---- the way

pub record Backed (p : Program) (tags : Tagged) (s : Section) (way : List Site) (e : Entry) : Type 0 where
  pub leads : IsWay p tags (own_callee p s) way (callee_at (class_of_section p s) e.node)
  pub own : BeginsOwn p tags s way
  pub called : (rule : ℕ) → mark_by way rule ≡ 6

module _ (p : Program) (tags : Tagged) (s : Section) (n : ℕ) (w : Search) (h : IsSearchSound p tags s n w) where
  some_way : (front : List Site) (x : Site) (rule : ℕ) → mark_by (front ++ x ∷ []) rule ≡ 6
  some_way [] x rule = refl
  some_way (y ∷ ys) x rule = refl

  by_caller : (t caller : ℕ) (e : Entry) → slice_get w.queue t ≡ Some e → e.caller ≡ caller → IsCalled p tags s w.queue t caller e.at e.node
  by_caller t caller e g q = subst (λ x. IsCalled p tags s w.queue t x e.at e.node) q (h.called t e g)

  way_of : (t : ℕ) (way : List Site) → IsBack (class_of_section p s) (section_mode p s) s.method w.queue t way → (e : Entry) → slice_get w.queue t ≡ Some e → Backed p tags s way e
  way_of _ _ (from_section t e g q) x k =
      let c : IsCalled p tags s w.queue t 0 e.at e.node = by_caller t 0 e g q in
      subst (λ (y : Entry). Backed p tags s (own_site (section_mode p s) s.method e.at ∷ []) y) (same_Some e x (sym g ∙ k))
      (record { leads = (refl, callee_at (class_of_section p s) e.node, c.1, refl); own = c.0; called = λ rule. refl })
  way_of _ _ (from_entry t c e b front g q got back) x k =
      let r : Backed p tags s front b = way_of c front back b got in
      let call : IsCalled p tags s w.queue t (suc c) e.at e.node = by_caller t (suc c) e g q in
      let same : call.1 ≡ b = same_Some call.1 b (sym call.2 ∙ got) in
      subst (λ (y : Entry). Backed p tags s (front ++ site_at (class_of_section p s) b.node e.at ∷ []) y) (same_Some e x (sym g ∙ k))
      (record {
        leads = way_more p tags (own_callee p s) front (callee_at (class_of_section p s) b.node) (site_at (class_of_section p s) b.node e.at) (callee_at (class_of_section p s) e.node) r.leads refl (subst (λ (y : Entry). Calls p tags (callee_at (class_of_section p s) y.node) e.at (callee_at (class_of_section p s) e.node)) same call.3);
        own = own_more p tags s front (site_at (class_of_section p s) b.node e.at) r.own;
        called = λ rule. some_way front (site_at (class_of_section p s) b.node e.at) rule;
      })

  pub called_before : AreCalledBefore w.queue
  called_before t e g = by_number e.caller refl (h.called t e g)
    where
      by_number : (caller : ℕ) → e.caller ≡ caller → IsCalled p tags s w.queue t caller e.at e.node → caller ≤ t
      by_number zero q c = omega arith
      by_number (suc k) q c = let low : k < t = c.0 in omega (arith, low)

  first_called : (uses : Uses) (way : List Site) (site : Site) (rule : ℕ) → ((j r : ℕ) → j < site.at → BreaksAt p tags uses (callee_of site) j r → ⊥) → IsFirstSectionFault p tags uses s way site rule
  first_called uses [] site rule h = λ j l o b. h j rule l b
  first_called uses (x ∷ xs) site rule h = h

  pub leads_to_fault : (uses : Uses) (t i rule : ℕ) (way : List Site) (e : Entry) → IsBack (class_of_section p s) (section_mode p s) s.method w.queue t way → slice_get w.queue t ≡ Some e → BreaksAt p tags uses (callee_at (class_of_section p s) e.node) i rule → ((j r : ℕ) → j < i → BreaksAt p tags uses (callee_at (class_of_section p s) e.node) j r → ⊥) → IsShortest p tags uses s way
      → LeadsToFault p tags uses s way (site_at (class_of_section p s) e.node i) rule × (mark_by way rule ≡ 6)
  leads_to_fault uses t i rule way e back g b first shortest = let r = way_of t way back e g in
      (record { leads = r.leads; own = own_more p tags s way (site_at (class_of_section p s) e.node i) r.own; breaks = b; first = first_called uses way (site_at (class_of_section p s) e.node i) rule first; shortest = shortest }, r.called rule)

-- ---- the search by its code

module _ (p : Program) (uses : Uses) (tags : List Tags) (is : IsProgram p) where
  fault_first : (mi : ℕ) (om : Option MethodInfo) (ot : Option Tags) (mode : Mode) (i : ℕ) → IsFirstFaultOf p uses mi om ot mode (Some i) → 0 < node_fault p uses mi om ot mode i
  fault_first mi (Some m) (Some t) mode i h = let test : nat_lt 0 (node_fault p uses mi (Some m) (Some t) mode i) ≡ true = h.1 in grind (arith, nat_tests)
  fault_first mi (Some m) None mode i h = absurd (cc)
  fault_first mi None ot mode i h = absurd (cc)

  fault_none : (mi : ℕ) (om : Option MethodInfo) (ot : Option Tags) (mode : Mode) → IsFirstFaultOf p uses mi om ot mode None → (i : ℕ) → i < node_size om ot → nat_lt 0 (node_fault p uses mi om ot mode i) ≡ false
  fault_none mi (Some m) (Some t) mode h i l = h i l
  fault_none mi (Some m) None mode h i l = absurd (omega (arith, l))
  fault_none mi None ot mode h i l = absurd (omega (arith, l))

  pub node_is_fault : (class a i : ℕ) → IsFirstFaultOf p uses (a / 3) (slice_get p.methods (a / 3)) (slice_get tags (a / 3)) (mode_at class a) (Some i) → BreaksAt p (tagged_by tags) uses (callee_at class a) i (node_fault_of p uses tags class a i)
  node_is_fault class a i h = fault_breaks p uses tags is class a i (fault_first (a / 3) (slice_get p.methods (a / 3)) (slice_get tags (a / 3)) (mode_at class a) i h)

  node_is_sane : (class a : ℕ) → IsFirstFaultOf p uses (a / 3) (slice_get p.methods (a / 3)) (slice_get tags (a / 3)) (mode_at class a) None → (i r : ℕ) → BreaksAt p (tagged_by tags) uses (callee_at class a) i r → ⊥
  node_is_sane class a h i r b =
      let there = fault_there p uses tags is class a i r b in
      let none : nat_lt 0 (node_fault_of p uses tags class a i) ≡ false = fault_none (a / 3) (slice_get p.methods (a / 3)) (slice_get tags (a / 3)) (mode_at class a) h i there.0 in
      let some : 0 < r = b.some in
      let same : node_fault_of p uses tags class a i ≡ r = there.1 in
      grind (arith, nat_tests)

  fault_before : (mi : ℕ) (om : Option MethodInfo) (ot : Option Tags) (mode : Mode) (i : ℕ) → IsFirstFaultOf p uses mi om ot mode (Some i) → (j : ℕ) → j < i → nat_lt 0 (node_fault p uses mi om ot mode j) ≡ false
  fault_before mi (Some m) (Some t) mode i h j l = h.2 j l
  fault_before mi (Some m) None mode i h j l = absurd (cc)
  fault_before mi None ot mode i h j l = absurd (cc)

  -- before the first fault of a node there is none
  pub none_before : (class a i : ℕ) → IsFirstFaultOf p uses (a / 3) (slice_get p.methods (a / 3)) (slice_get tags (a / 3)) (mode_at class a) (Some i) → (j r : ℕ) → j < i → BreaksAt p (tagged_by tags) uses (callee_at class a) j r → ⊥
  none_before class a i h j r l b =
      let none : nat_lt 0 (node_fault_of p uses tags class a j) ≡ false = fault_before (a / 3) (slice_get p.methods (a / 3)) (slice_get tags (a / 3)) (mode_at class a) i h j l in
      let some : 0 < r = b.some in
      let same : node_fault_of p uses tags class a j ≡ r = (fault_there p uses tags is class a j r b).1 in
      grind (arith, nat_tests)

  visits_are : (om : Option MethodInfo) (ot : Option Tags) (mode : Mode) (w : Search) (caller : ℕ) → node_visits p om ot mode w caller ≡ visits (node_call p om ot mode) w caller (node_size om ot)
  visits_are (Some m) (Some t) mode w caller = refl
  visits_are (Some m) None mode w caller = refl
  visits_are None ot mode w caller = refl

  module _ (s : Section) where
    abbrev class : ℕ
    class = class_of_section p s

    abbrev Searches_on : ℕ → Search → Type 0
    Searches_on k w = Searching p (tagged_by tags) uses s (3 * length p.methods) k w

    module _ (k : ℕ) (w v : Search) (e : Entry) (h : Searches_on k w) (here : slice_get w.queue k ≡ Some e) (made : v ≡ node_visits p (slice_get p.methods (e.node / 3)) (slice_get tags (e.node / 3)) (mode_at class e.node) w (k + 1)) where
      next_is : v ≡ visits (calls_of p tags class e.node) w (suc k) (node_size (slice_get p.methods (e.node / 3)) (slice_get tags (e.node / 3)))
      next_is = made ∙ ap (λ c. node_visits p (slice_get p.methods (e.node / 3)) (slice_get tags (e.node / 3)) (mode_at class e.node) w c) (let one : k + 1 ≡ suc k = omega arith in one)
          ∙ visits_are (slice_get p.methods (e.node / 3)) (slice_get tags (e.node / 3)) (mode_at class e.node) w (suc k)

      pub search_goes_on : IsFirstFaultOf p uses (e.node / 3) (slice_get p.methods (e.node / 3)) (slice_get tags (e.node / 3)) (mode_at class e.node) None → Searches_on (k + 1) v
      search_goes_on none = subst (λ x. Searches_on (k + 1) x) (sym next_is)
          (goes_on p (tagged_by tags) uses s (3 * length p.methods) k w e (calls_of p tags class e.node) (node_size (slice_get p.methods (e.node / 3)) (slice_get tags (e.node / 3))) h here
          (λ i j q. calls_found p uses tags is class e.node i j q) (λ i b q. calls_there p uses tags is class e.node i b q) (node_is_sane class e.node none))

      pub search_lessens : left_of v (k + 1) < left_of w k
      search_lessens = subst (λ x. left_of x (k + 1) < left_of w k) (sym next_is)
          (gets_less p (tagged_by tags) uses s (3 * length p.methods) k w e (calls_of p tags class e.node) (node_size (slice_get p.methods (e.node / 3)) (slice_get tags (e.node / 3))) h here (λ i j q. calls_found p uses tags is class e.node i j q))

    module _ (m : MethodInfo) (t : Tags) (own : List Bool) (at_m : slice_get p.methods s.method ≡ Some m) (at_t : slice_get tags s.method ≡ Some t) (are : AreOwn p (tagged_by tags) s.method s.spot own) where
      pub own_found : (i y : ℕ) → own_call p (section_mode p s) m t.frames own i ≡ Some y → (slice_index_or own i false ≡ true) × (y < 3 * length p.methods) × Calls p (tagged_by tags) (own_callee p s) i (callee_at class y)
      own_found i y e = by_flag (slice_index_or own i false) refl e
        where
          by_flag : (b : Bool) → slice_index_or own i false ≡ b → (if b then node_call p (Some m) (Some t) (own_callee p s).mode i else None) ≡ Some y → (slice_index_or own i false ≡ true) × (y < 3 * length p.methods) × Calls p (tagged_by tags) (own_callee p s) i (callee_at class y)
          by_flag true f k = let r = called_by p uses tags is s.method m t at_m at_t class (own_callee p s).mode i y (section_fits p s) k in (f, r.0, r.1)
          by_flag false f k = absurd (let bad : None ≡ Some y = k in cc)

      own_there : (i : ℕ) (b : Callee) → slice_index_or own i false ≡ true → Calls p (tagged_by tags) (own_callee p s) i b → own_call p (section_mode p s) m t.frames own i ≡ Some (node_of b)
      own_there i b f c = rw f (calls_known p uses tags is s.method m t at_m at_t (own_callee p s).mode i b c)

      pub search_begins : (w v : Search) → w ≡ record { seen = replicate (3 * length p.methods) false; queue = [] } → v ≡ visits (own_call p (section_mode p s) m t.frames own) w 0 (length m.code) → Searches_on 0 v
      search_begins w v e q = subst (λ x. Searches_on 0 x) (sym q)
          (begins p (tagged_by tags) uses s (3 * length p.methods) (own_call p (section_mode p s) m t.frames own) (length m.code) w
          (nothing_yet p (tagged_by tags) uses s (3 * length p.methods) w (ap (λ (x : Search). length x.seen) e ∙ length-replicate (3 * length p.methods) false) (λ j. ap (λ (x : Search). slice_index_or x.seen j false) e ∙ all_same false (3 * length p.methods) j) (ap (λ (x : Search). x.queue) e))
          (none_ordered p (tagged_by tags) uses s (3 * length p.methods) w (ap (λ (x : Search). x.queue) e))
          (λ i j k. let r = own_found i j k in (r.1, (are.only i r.0, r.2)))
          (λ i b o c. (inside_calls p uses tags is s.method m t at_m at_t (own_callee p s).mode i b c, own_there i b (are.all i o) c)))
