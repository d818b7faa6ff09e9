-- Paths in a graph whose nodes have levels, and how high they stay.
use Rattle.std.specs.Prelude.{◌≡◌, ◌<◌, ◌≤◌, ℕ, Bool, true, false, ◌==◌, ◌⊎◌, List, [], Option}
use Rattle.std.specs.Prelude.{Some, None, length, slice_get, slice_index, slice_index_or}
use Rattle.widest_paths.specs.declared.graph.Fan.{Fan}
use Rattle.widest_paths.specs.declared.graph.Graph.{Graph}

-- an edge of a fan leaves a node
abbrev pub IsInFan : Graph → Fan → ℕ → Type 0
IsInFan g fan i = (fan.first ≤ i) × (i < fan.last) × (fan.turn < slice_index g.turns i)

abbrev pub fans_to : Graph → ℕ → List Fan
fans_to g k = slice_index_or g.into.items k []

-- none of them has a fan
abbrev pub AreEmpty : List (List Fan) → Type 0
AreEmpty lists = (k : ℕ) → slice_index_or lists k [] ≡ []

-- an edge leads from one node to another
pub record IsFanEdge (g : Graph) (i k : ℕ) : Type 0 where
  pub t : ℕ
  pub fan : Fan
  pub at : slice_get (fans_to g k) t ≡ Some fan
  pub from : IsInFan g fan i

abbrev pub HasNoEdges : Graph → Type 0
HasNoEdges g = (i k : ℕ) → IsFanEdge g i k → ⊥

-- a graph has the edges of another one and these
pub record AddsEdges (old new : Graph) (Joins : ℕ → ℕ → Type 0) : Type 0 where
  pub levels : new.levels ≡ old.levels
  pub turns : new.turns ≡ old.turns
  pub nodes : length new.into.items ≡ length old.into.items
  pub kept : (i k : ℕ) → IsFanEdge old i k → IsFanEdge new i k
  pub joined : (i k : ℕ) → Joins i k → IsFanEdge new i k
  pub only : (i k : ℕ) → IsFanEdge new i k → IsFanEdge old i k ⊎ Joins i k

abbrev pub is_labelled : (label : ℕ) → Option ℕ → Bool
is_labelled label (Some n) = n == label
is_labelled label None = false

-- a path leads from a node to one with a label, and all its nodes are above a level
pub data LeadsAbove (g : Graph) (labels : List ℕ) (label level : ℕ) : ℕ → Type 0 where
  ends : (i : ℕ) → level < slice_index g.levels i
      → is_labelled label (slice_get labels i) ≡ true → LeadsAbove g labels label level i
  goes : (i k : ℕ) → level < slice_index g.levels i → IsFanEdge g i k
      → LeadsAbove g labels label level k → LeadsAbove g labels label level i

-- of each node how many levels are below a path
pub record AreWidest (g : Graph) (labels : List ℕ) (label : ℕ) (widths : List ℕ) : Type 0 where
  pub leads : (i level : ℕ) → level < slice_index widths i → LeadsAbove g labels label level i
  pub all : (i level : ℕ) → LeadsAbove g labels label level i → level < slice_index widths i
