-- Nodes as this crate stores them, the numbers of those that wait, and what an edge does to one.
use Rattle.std.specs.Prelude.{◌≡◌, ℕ, suc, Bool, true, false, not, if◌then◌else◌, List, [], ◌∷◌}
use Rattle.std.specs.Prelude.{Option, Some, None, slice_get}
use Rattle.checked_program.specs.Visits.{Meeting, PlanNode, unreached}
use Rattle.code_visits.specs.declared.nodes.StoredNode.{StoredNode}

abbrev pub node_is : {A : Type 0} → StoredNode A → PlanNode A
node_is node = record { frame = node.frame; waits = node.waits }

-- the numbers of the nodes that wait, in order, where the first node has this number
abbrev pub waiting_numbers : {A : Type 0} → ℕ → List (PlanNode A) → List ℕ
waiting_numbers i [] = []
waiting_numbers i (node ∷ nodes) =
    if node.waits then i ∷ waiting_numbers (suc i) nodes else waiting_numbers (suc i) nodes

abbrev pub node_or_none : {A : Type 0} → Option (PlanNode A) → PlanNode A
node_or_none None = unreached
node_or_none (Some node) = node

-- the node of this number; one that is not there is not reached
abbrev pub plan_node_at : {A : Type 0} → List (PlanNode A) → ℕ → PlanNode A
plan_node_at nodes i = node_or_none (slice_get nodes i)

-- the frame of a node when an edge brought one, and whether that changes it
abbrev pub met : {A : Type 0} → Meeting A → Option A → A → A
met d None f = f
met d (Some g) f = d.meet g f

abbrev pub changes : {A : Type 0} → Meeting A → Option A → A → Bool
changes d None f = true
changes d (Some g) f = not (d.same g (d.meet g f))
