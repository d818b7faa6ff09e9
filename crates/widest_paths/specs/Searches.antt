-- The course of the search for widest paths.
use Rattle.std.specs.Prelude.{◌≡◌, ◌<◌, ◌≤◌, ◌+◌, ◌-◌, ◌*◌, ℕ, true, List, ◌∷◌, length, ◌⊎◌}
use Rattle.std.specs.Prelude.{Some, slice_get, slice_index}
use Rattle.std.specs.List.{Contains}
use Rattle.std.specs.List.Sorted.{IsPermutation}
use Rattle.widest_paths.specs.WidestPaths.{IsInFan, IsFanEdge, is_labelled, LeadsAbove}
use Rattle.widest_paths.specs.declared.graph.Fan.{Fan}
use Rattle.widest_paths.specs.declared.graph.Graph.{Graph}

-- an edge of one of the first fans leaves a node
abbrev pub IsFromSome : Graph → List Fan → ℕ → ℕ → Type 0
IsFromSome g fans n i =
    (t : ℕ) × (fan : Fan) × (t < n) × (slice_get fans t ≡ Some fan) × IsInFan g fan i

-- a node waits, with some width
abbrev pub NodeWaits : List (ℕ × ℕ) → ℕ → Type 0
NodeWaits waiting k = (width : ℕ) × Contains waiting (width, k)

-- a node that waited, with some width, is taken
abbrev pub IsNodeTaken : List (ℕ × ℕ) → ℕ → List (ℕ × ℕ) → Type 0
IsNodeTaken old k new = (width : ℕ) × IsPermutation old ((width, k) ∷ new)

-- by how much widths can grow
abbrev pub room_left : List ℕ → List ℕ → ℕ
room_left (level ∷ levels) (width ∷ widths) = (level - width) + room_left levels widths
room_left levels widths = 0

-- what is left to do
abbrev pub left_to_widen : Graph → List ℕ → List (ℕ × ℕ) → ℕ
left_to_widen g widths waiting = 2 * room_left g.levels widths + length waiting

-- widths grow by what is brought to nodes, level by level, and each node whose width grows waits
pub record Widens (g : Graph) (Brings : ℕ → ℕ → Type 0) (old : List ℕ) (waiting : List (ℕ × ℕ))
    (new : List ℕ) (later : List (ℕ × ℕ)) : Type 0 where
  pub long : length new ≡ length old
  pub grows : (i : ℕ) → slice_index old i ≤ slice_index new i
  pub only : (i level : ℕ) → level < slice_index new i
      → (level < slice_index old i) ⊎ ((level < slice_index g.levels i) × Brings i level)
  pub brought : (i level : ℕ) → Brings i level → level < slice_index g.levels i
      → level < slice_index new i
  pub waits : (k : ℕ) → NodeWaits waiting k → NodeWaits later k
  pub grown : (k : ℕ) → (slice_index new k ≡ slice_index old k) ⊎ NodeWaits later k
  pub less : left_to_widen g new later ≤ left_to_widen g old waiting

-- an edge to a node is done where its start is as wide as it makes it
abbrev pub IsDone : Graph → List ℕ → ℕ → Type 0
IsDone g widths k =
    (i level : ℕ) → IsFanEdge g i k → level < slice_index g.levels i → level < slice_index widths k
    → level < slice_index widths i

pub record IsWidened (g : Graph) (labels : List ℕ) (label : ℕ) (widths : List ℕ)
    (waiting : List (ℕ × ℕ)) : Type 0 where
  pub long : length widths ≡ length g.levels
  pub leads : (i level : ℕ) → level < slice_index widths i → LeadsAbove g labels label level i
  pub ends : (i level : ℕ) → is_labelled label (slice_get labels i) ≡ true
      → level < slice_index g.levels i → level < slice_index widths i
  pub known : (k : ℕ) → NodeWaits waiting k ⊎ IsDone g widths k
