-- Analyses by visits: what one does, what a visit leaves, and what all answer.
use Rattle.std.specs.Prelude.{◌≡◌, ◌<◌, ℕ, min, if◌then◌else◌, List, [], ◌∷◌, Option, Some, None}
use Rattle.std.specs.Prelude.{Result, Ok, Err, false, slice_set}
use Rattle.jvm_types.specs.declared.code.Insn.{Insn}
use Rattle.jvm_types.specs.declared.program.MethodInfo.{MethodInfo}
use Rattle.jvm_types.specs.declared.program.Program.{Program}
use Rattle.checked_program.specs.Visits.{Meeting, Act, Bring, Plan, PlanNode, clashes_with}
use Rattle.checked_program.specs.Visits.{next_waiting, plan_visited, plan_nodes, PlanBreaks}
use Rattle.checked_program.specs.Visits.{IsBroken}
use Rattle.code_visits.specs.Waiting.{plan_node_at}
use Rattle.code_visits.specs.declared.stop.Stop.{Stop}
use Rattle.code_visits.specs.declared.stop.Stop.TheVariants.{Memory, Refused}

-- ---- the plan of an analysis, and what it owes

abbrev pub plan_of : {A R : Type 0} → Meeting A → (MethodInfo → A)
    → (Program → MethodInfo → ℕ → A → List (Act A R)) → Program → MethodInfo → Plan A R
plan_of d first acts p m = record { meeting = d; code = m.code; first = first m; acts = acts p m }

-- its visits keep a fact of the nodes, and each leaves less work
pub record Ends {A R : Type 0} (p : Plan A R) (IsKept : List (PlanNode A) → Type 0)
    (work : List (PlanNode A) → ℕ) : Type 0 where
  pub first : IsKept (plan_nodes p)
  pub keeps : (nodes mid : List (PlanNode A)) (i : ℕ) → IsKept nodes → next_waiting nodes ≡ Some i
      → plan_visited p i nodes ≡ Ok mid → IsKept mid
  pub lessens : (nodes mid : List (PlanNode A)) (i : ℕ) → IsKept nodes → next_waiting nodes ≡ Some i
      → plan_visited p i nodes ≡ Ok mid → work mid < work nodes

-- nodes as the visit of a number finds them: some of which this is kept, but that the one of the
-- number waits no more
abbrev pub AreUnderVisit : {A : Type 0} → (List (PlanNode A) → Type 0) → ℕ → List (PlanNode A)
    → Type 0
AreUnderVisit {A = A} IsKept i nodes =
    (before : List (PlanNode A)) × IsKept before
    × (nodes ≡ slice_set before i (record (plan_node_at before i) { waits = false }))

-- ---- edges

-- the lesser of two pcs, where they are there
abbrev pub lesser : Option ℕ → Option ℕ → Option ℕ
lesser None other = other
lesser (Some pc) None = Some pc
lesser (Some pc) (Some at) = Some (min pc at)

-- the pc that an edge leads to, where the instruction of this number is there and has a frame that
-- may not meet the one brought
abbrev pub clash_place : {A : Type 0} → Meeting A → Option ℕ → ℕ → A → List (PlanNode A) → Option ℕ
clash_place d None to f nodes = None
clash_place d (Some i) to f nodes =
    if clashes_with d (plan_node_at nodes i).frame f then Some to else None

-- ---- what a visit leaves

-- what a visit, or a part of one, leaves of the nodes; or the rule that it breaks; or memory ran
-- out
abbrev pub Leaves : {A B R : Type 0} → Result (List (PlanNode A)) (R × ℕ) → List (PlanNode A)
    → Result B (Stop R) → Type 0
Leaves visit nodes (Ok done) = visit ≡ Ok nodes
Leaves visit nodes (Err Memory) = Unit {0}
Leaves visit nodes (Err (Refused rule pc)) = visit ≡ Err (rule, pc)

-- ---- the answer

-- memory ran out, or some visits from these nodes on lead to this refusal
abbrev pub IsBreak : {A R : Type 0} → Plan A R → List (PlanNode A) → Stop R → Type 0
IsBreak p nodes Memory = Unit {0}
IsBreak p nodes (Refused rule pc) = (visits : List ℕ) × PlanBreaks p nodes visits (rule, pc)

-- memory ran out, or the method is refused so
abbrev pub IsStopped : {A R : Type 0} → Plan A R → Stop R → Type 0
IsStopped p Memory = Unit {0}
IsStopped p (Refused rule pc) = IsBroken p rule pc
