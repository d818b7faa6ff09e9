-- Acts that leave the nodes as they are, since what they bring is below the frames there; and the nodes that a visit finds, of
-- which those that do not wait are such that what they do leaves them.
use Rattle.std.proofs.Common.{◌≡◌, ◌≢◌, ◌<◌, ℕ, zero, suc, length, Bool, true, false, List, [], ◌∷◌, ◌++◌, Option, Some, None, Result, Ok, Err, refl, sym, ap, ◌∙◌, subst, arith, ◌==◌, if◌then◌else◌, slice_get, slice_set}
use Rattle.std.specs.{List.AllByRecursion, Option.option_map}
use Rattle.jvm_types.specs.declared.code.Insn.{Insn}
use Rattle.code_table.specs.PcTables.{number_at, Ascend}
use Rattle.checked_program.specs.Visits.{Meeting, Act, Break, Bring, Plan, PlanNode, clashes_with, meeting_clash, edge_brought, edges_brought, unless_meeting_clash, acted}
use Rattle.laws_sections.proofs.{VisitedNodes.{IsFirstOf, Orders, IsBelow, LandsOn, IsActFine, Sound, sound_risen, risen_length, does}, VisitPaths.{IsGoing, first_going, goes_on, sound_cleared}}
use Rattle.code_visits.specs.{Analyses.{Ends, AreUnderVisit, lesser, clash_place}, Level.IsLawfulMeeting, Waiting.{plan_node_at, node_or_none}}
use Rattle.code_visits.proofs.{ActLaws.{then_acted, broken_acted}, BroughtLaws.{at_place, brought_at, place_inside}, ClashLaws.{clash_none, clash_more, clash_at}, StayLaws.stays_there}

-- ---- what an analysis keeps of the nodes, and that those that do not wait are sound

pub ends_going : {A R : Type 0} (p : Plan A R) (Below : A → A → Type 0) (order : Orders p.meeting Below) (IsKept : List (PlanNode A) → Type 0) (work : List (PlanNode A) → ℕ) → Ends p IsKept work
    → Ends p (λ nodes. IsKept nodes × IsGoing p Below order nodes) work
ends_going p Below order IsKept work e = record {
  first = (e.first, first_going p Below order);
  keeps = λ nodes mid i k n v. (e.keeps nodes mid i k.0 n v, goes_on p Below order i nodes mid k.1 v);
  lessens = λ nodes mid i k n v. e.lessens nodes mid i k.0 n v;
}

other_node : {A : Type 0} (nodes : List (PlanNode A)) (i j : ℕ) (node : PlanNode A) → j ≢ i → slice_get (slice_set nodes i node) j ≡ slice_get nodes j
other_node [] i j node n = refl
other_node (x ∷ xs) zero zero node n = absurd (n refl)
other_node (x ∷ xs) zero (suc j) node n = refl
other_node (x ∷ xs) (suc i) zero node n = refl
other_node (x ∷ xs) (suc i) (suc j) node n = other_node xs i j node (λ e. n (ap suc e))

node_is_there : {A : Type 0} (nodes : List (PlanNode A)) (j : ℕ) (f : A) → Some f ≡ (plan_node_at nodes j).frame → slice_get nodes j ≡ Some (plan_node_at nodes j)
node_is_there [] j f e = absurd (cc)
node_is_there (x ∷ xs) zero f e = refl
node_is_there (x ∷ xs) (suc j) f e = node_is_there xs j f e

pub node_within : {A : Type 0} (nodes : List (PlanNode A)) (j : ℕ) → j < length nodes → slice_get nodes j ≡ Some (plan_node_at nodes j)
node_within [] j h = absurd (omega (arith, h))
node_within (x ∷ xs) zero h = refl
node_within (x ∷ xs) (suc j) h = node_within xs j (omega (arith, h))

none_set : {A : Type 0} (nodes : List (PlanNode A)) (i : ℕ) (node : PlanNode A) → slice_get nodes i ≡ None → slice_set nodes i node ≡ nodes
none_set [] i node e = refl
none_set (x ∷ xs) zero node e = absurd (cc)
none_set (x ∷ xs) (suc i) node e = ap (λ l. x ∷ l) (none_set xs i node e)

-- of the nodes that a visit finds another that does not wait is sound
pub taken_sound : {A R : Type 0} (p : Plan A R) (Below : A → A → Type 0) (order : Orders p.meeting Below) (IsKept : List (PlanNode A) → Type 0) (nodes : List (PlanNode A)) (i j : ℕ) (f : A)
    → AreUnderVisit (λ ns. IsKept ns × IsGoing p Below order ns) i nodes → j ≢ i → (plan_node_at nodes j).waits ≡ false → Some f ≡ (plan_node_at nodes j).frame → Sound p.meeting Below order p.code nodes (p.acts j f)
taken_sound {A = A} {R = R} p Below order IsKept nodes i j f t n w e = by_node (slice_get t.0 i) refl
  where
    there : slice_get t.0 j ≡ Some (plan_node_at nodes j)
    there = sym (other_node t.0 i j _ n) ∙ ap (λ ns. slice_get ns j) (sym t.2) ∙ node_is_there nodes j f e

    before : Sound p.meeting Below order p.code t.0 (p.acts j f)
    before = t.1.1 j (plan_node_at nodes j) f there w (sym e)

    by_node : (o : Option (PlanNode A)) → slice_get t.0 i ≡ o → Sound p.meeting Below order p.code nodes (p.acts j f)
    by_node None k = subst (λ ns. Sound p.meeting Below order p.code ns (p.acts j f)) (sym (none_set t.0 i _ k) ∙ sym t.2) before
    by_node (Some node) k =
        subst (λ ns. Sound p.meeting Below order p.code ns (p.acts j f)) (ap (λ (o : Option (PlanNode A)). slice_set t.0 i (record (node_or_none o) { waits = false })) (sym k) ∙ sym t.2)
        (sound_cleared p Below order t.0 i node (p.acts j f) k before)

-- ---- acts that leave the nodes

-- a frame that another is below may meet it, and stays as it is
pub record Absorbs {A : Type 0} (d : Meeting A) (Below : A → A → Type 0) : Type 0 where
  pub apart : (f g : A) → Below f g → d.clashes g f ≡ false
  pub met : (f g : A) → Below f g → d.meet g f ≡ g

first_of : (code : List Insn) (to i : ℕ) → number_at code to ≡ Some i → IsFirstOf code to i
first_of [] to i e = absurd (cc)
first_of (insn ∷ insns) to i e = by_test (insn.pc == to) refl (number_at insns to) i e (first_of insns to)
  where
    by_test : (t : Bool) → (insn.pc == to) ≡ t → (o : Option ℕ) (i : ℕ) → (if t then Some 0 else option_map suc o) ≡ Some i → ((j : ℕ) → o ≡ Some j → IsFirstOf insns to j) → IsFirstOf (insn ∷ insns) to i
    by_test true t o zero e h = t
    by_test true t o (suc i) e h = absurd (cc)
    by_test false t None i e h = absurd (cc)
    by_test false t (Some j) zero e h = absurd (cc)
    by_test false t (Some j) (suc i) e h = (t, h i (cc))

module _ {A : Type 0} (d : Meeting A) (Below : A → A → Type 0) (order : Orders d Below) (absorbs : Absorbs d Below) (width : A → ℕ) (law : IsLawfulMeeting d width) (code : List Insn) (ascend : Ascend 0 code) where
  edge_rests : (nodes : List (PlanNode A)) (to : ℕ) (f : A) → length nodes ≡ length code → LandsOn d Below order code nodes f to → (meeting_clash d code (to ∷ []) f nodes ≡ None) × (edge_brought d code to f nodes ≡ nodes)
  edge_rests nodes to f long lands = by_place (number_at code to) refl
    where
      by_frame : (i : ℕ) → number_at code to ≡ Some i → (o : Option A) → (plan_node_at nodes i).frame ≡ o → IsBelow d Below order (Some f) o → (meeting_clash d code (to ∷ []) f nodes ≡ None) × (edge_brought d code to f nodes ≡ nodes)
      by_frame i e None k h = absurd h
      by_frame i e (Some g) k h = (
        clash_at d 0 code to f nodes ascend ∙ ap (λ o. clash_place d o to f nodes) e ∙ ap (λ (b : Bool). if b then Some to else None) (ap (λ o. clashes_with d o f) k ∙ absorbs.apart f g h),
        brought_at d code to f nodes long ∙ ap (λ o. at_place d o f nodes) e ∙ stays_there d width nodes i g f law (sym k) (absorbs.met f g h),
      )

      by_place : (o : Option ℕ) → number_at code to ≡ o → (meeting_clash d code (to ∷ []) f nodes ≡ None) × (edge_brought d code to f nodes ≡ nodes)
      by_place None e = (clash_at d 0 code to f nodes ascend ∙ ap (λ o. clash_place d o to f nodes) e, brought_at d code to f nodes long ∙ ap (λ o. at_place d o f nodes) e)
      by_place (Some i) e = by_frame i e (plan_node_at nodes i).frame refl (lands i (plan_node_at nodes i) (first_of code to i e) (node_within nodes i (omega (arith, long, place_inside code to i e))))

  edges_rest : (nodes : List (PlanNode A)) (tos : List ℕ) (f : A) → length nodes ≡ length code → AllByRecursion (LandsOn d Below order code nodes f) tos → (meeting_clash d code tos f nodes ≡ None) × (edges_brought d code tos f nodes ≡ nodes)
  edges_rest nodes [] f long h = (clash_none d code f nodes, refl)
  edges_rest nodes (to ∷ tos) f long h =
      let one = edge_rests nodes to f long h.0 in
      let more = edges_rest nodes tos f long h.1 in (
        clash_more d 0 code to tos f nodes ascend ∙ ap (λ o. lesser o (meeting_clash d code tos f nodes)) one.0 ∙ more.0,
        ap (λ ns. edges_brought d code tos f ns) one.1 ∙ more.1,
      )

  acts_rest : {R : Type 0} (nodes : List (PlanNode A)) (acts : List (Act A R)) → length nodes ≡ length code → Sound d Below order code nodes acts → acted d code acts nodes ≡ Ok nodes
  acts_rest nodes [] long s = refl
  acts_rest nodes (Break rule pc ∷ acts) long s = absurd s.0
  acts_rest nodes (Bring rule tos f ∷ acts) long s =
      let e = edges_rest nodes tos f long s.0 in
      ap (λ o. unless_meeting_clash rule o (acted d code acts (edges_brought d code tos f nodes))) e.0 ∙ ap (λ ns. acted d code acts ns) e.1 ∙ acts_rest nodes acts long s.1

  -- what is sound may be left out
  pub rest_first : {R : Type 0} (nodes : List (PlanNode A)) (acts others : List (Act A R)) → length nodes ≡ length code → Sound d Below order code nodes acts → acted d code (acts ++ others) nodes ≡ acted d code others nodes
  rest_first nodes acts others long s = then_acted d code acts others nodes nodes (acts_rest nodes acts long s)

-- behind the same acts what comes to the same does so
pub same_behind : {A R : Type 0} (d : Meeting A) (code : List Insn) (acts xs ys : List (Act A R)) (nodes : List (PlanNode A)) → ((mid : List (PlanNode A)) → acted d code acts nodes ≡ Ok mid → acted d code xs mid ≡ acted d code ys mid)
    → acted d code (acts ++ xs) nodes ≡ acted d code (acts ++ ys) nodes
same_behind {A = A} {R = R} d code acts xs ys nodes h = by_result (acted d code acts nodes) refl
  where
    by_result : (r : Result (List (PlanNode A)) (R × ℕ)) → acted d code acts nodes ≡ r → acted d code (acts ++ xs) nodes ≡ acted d code (acts ++ ys) nodes
    by_result (Ok mid) e = then_acted d code acts xs nodes mid e ∙ h mid e ∙ sym (then_acted d code acts ys nodes mid e)
    by_result (Err fault) e = broken_acted d code acts xs nodes fault e ∙ sym (broken_acted d code acts ys nodes fault e)

-- the second part of acts that are sound, and the first
pub sound_parts : {A R : Type 0} (d : Meeting A) (Below : A → A → Type 0) (order : Orders d Below) (code : List Insn) (nodes : List (PlanNode A)) (acts others : List (Act A R)) → Sound d Below order code nodes (acts ++ others)
    → Sound d Below order code nodes acts × Sound d Below order code nodes others
sound_parts d Below order code nodes [] others s = (tt, s)
sound_parts d Below order code nodes (act ∷ acts) others s = let more = sound_parts d Below order code nodes acts others s.1 in ((s.0, more.0), more.1)

-- and what is sound stays so
pub sound_on : {A R : Type 0} (d : Meeting A) (Below : A → A → Type 0) (order : Orders d Below) (code : List Insn) (acts others : List (Act A R)) (nodes mid : List (PlanNode A)) → acted d code acts nodes ≡ Ok mid
    → Sound d Below order code nodes others → Sound d Below order code mid others
sound_on d Below order code acts others nodes mid e s = sound_risen d Below order code nodes mid others (does d Below order code acts nodes mid e).risen s

pub done_length : {A R : Type 0} (d : Meeting A) (Below : A → A → Type 0) (order : Orders d Below) (code : List Insn) (acts : List (Act A R)) (nodes mid : List (PlanNode A)) → acted d code acts nodes ≡ Ok mid → length nodes ≡ length mid
done_length d Below order code acts nodes mid e = risen_length d Below order nodes mid (does d Below order code acts nodes mid e).risen
