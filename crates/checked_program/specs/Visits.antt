-- Visits of the instructions of a method, for frames of any kind: lock tags, and later others.
-- Verification has its own for types, in the same form (JVMS 4.10.2.2).
use Rattle.std.specs.Prelude.{◌≡◌, IsSomeAnd, ℕ, suc, Bool, true, false, not, ◌&&◌, ◌||◌, ◌==◌}
use Rattle.std.specs.Prelude.{if◌then◌else◌, List, [], ◌∷◌, map, Option, Some, None, Result, Ok}
use Rattle.std.specs.Prelude.{Err, slice_get, slice_set}
use Rattle.jvm_types.specs.Numbers.{has_number}
use Rattle.jvm_types.specs.declared.code.Insn.{Insn}

-- ---- what is visited

-- how frames meet where edges do
pub record Meeting (A : Type 0) : Type 0 where
  pub meet : A → A → A
  pub same : A → A → Bool
  -- two that may not meet
  pub clashes : A → A → Bool

-- what an instruction does: it breaks a rule at a pc, or a frame goes along edges, which breaks the
-- rule where that may not meet the frame that stands there
pub data Act (A R : Type 0) : Type 0 where
  Break : (rule : R) (pc : ℕ) → Act A R
  Bring : (rule : R) (to : List ℕ) (frame : A) → Act A R

-- a method as visits see it: its code, the frame at pc 0, and what the instruction of a number does
-- with a frame
pub record Plan (A R : Type 0) : Type 0 where
  pub meeting : Meeting A
  pub code : List Insn
  pub first : A
  pub acts : ℕ → A → List (Act A R)

-- ---- one visit

-- what is known of an instruction in the course of the visits: the frame that its edges met in, and
-- whether that has changed since it was visited
pub record PlanNode (A : Type 0) : Type 0 where
  pub frame : Option A
  pub waits : Bool

abbrev pub unreached : {A : Type 0} → PlanNode A
unreached = record { frame = None; waits = false }

-- an edge brings a frame
abbrev pub joined : {A : Type 0} → Meeting A → Bool → Option A → A → PlanNode A
joined d waits None f = record { frame = Some f; waits = true }
joined d waits (Some g) f =
    record { frame = Some (d.meet g f); waits = waits || not (d.same g (d.meet g f)) }

abbrev pub edge_brought : {A : Type 0} → Meeting A → List Insn → ℕ → A → List (PlanNode A)
    → List (PlanNode A)
edge_brought d (insn ∷ insns) to f (node ∷ nodes) =
    if insn.pc == to then joined d node.waits node.frame f ∷ nodes
    else node ∷ edge_brought d insns to f nodes
edge_brought d insns to f nodes = nodes

abbrev pub edges_brought : {A : Type 0} → Meeting A → List Insn → List ℕ → A → List (PlanNode A)
    → List (PlanNode A)
edges_brought d code [] f nodes = nodes
edges_brought d code (to ∷ tos) f nodes =
    edges_brought d code tos f (edge_brought d code to f nodes)

-- of the instructions where the frame is brought, the first where it may not meet the one there
abbrev pub clashes_with : {A : Type 0} → Meeting A → Option A → A → Bool
clashes_with d None f = false
clashes_with d (Some g) f = d.clashes g f

abbrev pub meeting_clash : {A : Type 0} → Meeting A → List Insn → List ℕ → A → List (PlanNode A)
    → Option ℕ
meeting_clash d (insn ∷ insns) tos f (node ∷ nodes) =
    if has_number tos insn.pc && clashes_with d node.frame f then Some insn.pc
    else meeting_clash d insns tos f nodes
meeting_clash d insns tos f nodes = None

abbrev pub unless_meeting_clash : {A R : Type 0} → R → Option ℕ → Result (List (PlanNode A)) (R × ℕ)
    → Result (List (PlanNode A)) (R × ℕ)
unless_meeting_clash rule (Some pc) more = Err (rule, pc)
unless_meeting_clash rule None more = more

-- the acts of an instruction in order, up to the first that breaks a rule
abbrev pub acted : {A R : Type 0} → Meeting A → List Insn → List (Act A R) → List (PlanNode A)
    → Result (List (PlanNode A)) (R × ℕ)
acted d code [] nodes = Ok nodes
acted d code (Break rule pc ∷ acts) nodes = Err (rule, pc)
acted d code (Bring rule tos f ∷ acts) nodes =
    unless_meeting_clash rule (meeting_clash d code tos f nodes)
    (acted d code acts (edges_brought d code tos f nodes))

abbrev pub acts_on : {A R : Type 0} → Plan A R → ℕ → Option A → List (Act A R)
acts_on p i None = []
acts_on p i (Some f) = p.acts i f

-- the visit of the instruction of a number, which then waits no more unless an edge to itself
-- changes it
abbrev pub visited_node : {A R : Type 0} → Plan A R → ℕ → Option (PlanNode A) → List (PlanNode A)
    → Result (List (PlanNode A)) (R × ℕ)
visited_node p i None nodes = Ok nodes
visited_node p i (Some node) nodes =
    acted p.meeting p.code (acts_on p i node.frame)
    (slice_set nodes i (record node { waits = false }))

abbrev pub plan_visited : {A R : Type 0} → Plan A R → ℕ → List (PlanNode A)
    → Result (List (PlanNode A)) (R × ℕ)
plan_visited p i nodes = visited_node p i (slice_get nodes i) nodes

-- ---- all visits

-- the instruction that waits and has the least pc, by its number
abbrev pub first_waiting : {A : Type 0} → ℕ → List (PlanNode A) → Option ℕ
first_waiting i [] = None
first_waiting i (node ∷ nodes) = if node.waits then Some i else first_waiting (suc i) nodes

abbrev pub next_waiting : {A : Type 0} → List (PlanNode A) → Option ℕ
next_waiting nodes = first_waiting 0 nodes

-- at the start pc 0 waits with the first frame
abbrev pub nodes_for : {A : Type 0} → A → List Insn → List (PlanNode A)
nodes_for f [] = []
nodes_for f (insn ∷ insns) =
    record { frame = Some f; waits = true } ∷ map (λ other. unreached) insns

abbrev pub plan_nodes : {A R : Type 0} → Plan A R → List (PlanNode A)
plan_nodes p = nodes_for p.first p.code

-- the visits from some nodes on, by the numbers of the instructions, until nothing waits
abbrev pub PlanVisits : {A R : Type 0} → Plan A R → List (PlanNode A) → List ℕ → List (PlanNode A)
    → Type 0
PlanVisits p nodes [] last = (next_waiting nodes ≡ None) × (last ≡ nodes)
PlanVisits {A = A} p nodes (i ∷ is) last =
    (next_waiting nodes ≡ Some i) × (mid : List (PlanNode A)) × (plan_visited p i nodes ≡ Ok mid)
    × PlanVisits p mid is last

-- the visits until one breaks a rule; there is at least that one
abbrev pub PlanBreaks : {A R : Type 0} → Plan A R → List (PlanNode A) → List ℕ → R × ℕ → Type 0
PlanBreaks p nodes [] fault = ⊥
PlanBreaks p nodes (i ∷ []) fault =
    (next_waiting nodes ≡ Some i) × (plan_visited p i nodes ≡ Err fault)
PlanBreaks {A = A} p nodes (i ∷ j ∷ is) fault =
    (next_waiting nodes ≡ Some i) × (mid : List (PlanNode A)) × (plan_visited p i nodes ≡ Ok mid)
    × PlanBreaks p mid (j ∷ is) fault

-- ---- the answer

-- no visit breaks a rule, and these are the last frames; an instruction that no visit reached has
-- none
pub record HasFrames {A R : Type 0} (p : Plan A R) (frames : List (Option A)) : Type 0 where
  pub visits : List ℕ
  pub last : List (PlanNode A)
  pub made : PlanVisits p (plan_nodes p) visits last
  pub are : frames ≡ map (λ node. node.frame) last

-- a rule is broken, at a pc
pub record IsBroken {A R : Type 0} (p : Plan A R) (rule : R) (pc : ℕ) : Type 0 where
  pub visits : List ℕ
  pub broken : PlanBreaks p (plan_nodes p) visits (rule, pc)

-- ---- frames by pc

-- the frame at a pc
abbrev pub frame_at_pc : {A : Type 0} → List Insn → List (Option A) → ℕ → Option A
frame_at_pc (insn ∷ insns) (frame ∷ frames) pc =
    if insn.pc == pc then frame else frame_at_pc insns frames pc
frame_at_pc insns frames pc = None

-- the frame that an edge brings fits the one at its target
abbrev pub EdgeFits : {A : Type 0} → (A → A → Type 0) → List Insn → List (Option A) → A → ℕ → Type 0
EdgeFits below code frames f to = IsSomeAnd (frame_at_pc code frames to) (λ g. below f g)
