-- A walk over the own instructions of a block: from its start along edges, with its entry on the
-- held list.
use Rattle.std.specs.Prelude.{◌≡◌, ◌<◌, ◌≤◌, ◌-◌, ◌+◌, ◌*◌, ℕ, Bool, true, false, not, ◌&&◌, ◌==◌}
use Rattle.std.specs.Prelude.{nat_lt, if◌then◌else◌, List, [], ◌∷◌, ◌++◌, length, Option, Some}
use Rattle.std.specs.Prelude.{None, slice_get, slice_set, slice_index}
use Rattle.std.specs.List.{count_by, filter_map}
use Rattle.jvm_types.specs.CodeTable.{can_throw}
use Rattle.jvm_types.specs.Verifying.{edges, covers}
use Rattle.jvm_types.specs.declared.code.Insn.{Insn}
use Rattle.jvm_types.specs.declared.program.Row.{Row}
use Rattle.jvm_types.specs.declared.program.Target.{Target}
use Rattle.jvm_types.specs.declared.program.MethodInfo.{MethodInfo}
use Rattle.code_table.specs.PcTables.{number_at}
use Rattle.checked_program.specs.LockTags.{TagShape}
use Rattle.checked_program.specs.Tagging.{catches_all}
use Rattle.graph_closure.specs.Chains.{IsIn}
use Rattle.guard_analysis.specs.declared.block_walk.Walk.{Walk}

-- ---- where an instruction leads

abbrev pub handler_pcs : ℕ → List Row → List ℕ
handler_pcs pc [] = []
handler_pcs pc (handler ∷ handlers) =
    if covers pc handler
    then (if catches_all handler then handler.handler ∷ []
    else handler.handler ∷ handler_pcs pc handlers) else handler_pcs pc handlers

abbrev pub catch_pcs : MethodInfo → Insn → List ℕ
catch_pcs m insn = if can_throw insn.op then handler_pcs insn.pc m.rows else []

abbrev pub way_pcs : MethodInfo → Insn → List ℕ
way_pcs m insn = edges insn ++ catch_pcs m insn

-- of the instruction of a number
abbrev pub ways_at : MethodInfo → Option Insn → List ℕ
ways_at m None = []
ways_at m (Some insn) = filter_map (λ pc. number_at m.code pc) (way_pcs m insn)

abbrev pub ways_from : MethodInfo → ℕ → List ℕ
ways_from m i = ways_at m (slice_get m.code i)

-- ---- the walk

-- a reached instruction with more held tags than a number
abbrev pub deep_at : ℕ → Option Insn → Option Target → Option (Option TagShape) → Bool
deep_at depth (Some insn) (Some target) (Some (Some f)) = nat_lt depth (length f.held)
deep_at depth insn target f = false

abbrev pub is_deep : MethodInfo → List (Option TagShape) → ℕ → ℕ → Bool
is_deep m frames depth j =
    deep_at depth (slice_get m.code j) (slice_get m.targets j) (slice_get frames j)

abbrev pub walk_visited : Bool → ℕ → Walk → ℕ → Walk
walk_visited deep stamp w j =
    if deep && (nat_lt j (length w.seen) && not (slice_index w.seen j == stamp))
    then record { seen = slice_set w.seen j stamp; own = w.own ++ j ∷ [] } else w

abbrev pub all_visited : MethodInfo → List (Option TagShape) → (depth stamp : ℕ) → List ℕ → Walk
    → Walk
all_visited m frames depth stamp [] w = w
all_visited m frames depth stamp (j ∷ js) w =
    all_visited m frames depth stamp js (walk_visited (is_deep m frames depth j) stamp w j)

-- along such instructions, by numbers
abbrev pub IsPathInBlock : MethodInfo → List (Option TagShape) → (depth i : ℕ) → List ℕ → ℕ → Type 0
IsPathInBlock m frames depth i [] j = (i ≡ j) × (is_deep m frames depth i ≡ true)
IsPathInBlock m frames depth i (k ∷ ks) j =
    (is_deep m frames depth i ≡ true) × IsIn k (ways_from m i) × IsPathInBlock m frames depth k ks j

-- reached from the start of a block
pub record IsInside (m : MethodInfo) (frames : List (Option TagShape)) (depth enter i : ℕ)
    : Type 0 where
  pub first : ℕ
  pub begins : IsIn first (ways_from m enter)
  pub over : List ℕ
  pub stays : IsPathInBlock m frames depth first over i

abbrev pub Has : List ℕ → ℕ → Type 0
Has xs x = (t : ℕ) × (t < length xs) × (slice_index xs t ≡ x)

-- the ways of the first k that were found are walked
pub record Walked (m : MethodInfo) (frames : List (Option TagShape)) (depth stamp enter k : ℕ)
    (w : Walk) : Type 0 where
  pub long : length w.seen ≡ length m.code
  pub low : (j : ℕ) → slice_index w.seen j ≤ stamp
  pub marked : (j : ℕ) → slice_index w.seen j ≡ stamp → Has w.own j
  pub own : (t : ℕ) → t < length w.own → IsInside m frames depth enter (slice_index w.own t)
  pub begun : (j : ℕ) → IsIn j (ways_from m enter) → is_deep m frames depth j ≡ true → Has w.own j
  pub closed : (t j : ℕ) → t < k → IsIn j (ways_from m (slice_index w.own t))
      → is_deep m frames depth j ≡ true → Has w.own j

-- what is left to do
abbrev pub unstamped : ℕ → List ℕ → ℕ
unstamped stamp seen = count_by (λ s. not (s == stamp)) seen

abbrev pub walk_left : ℕ → Walk → ℕ → ℕ
walk_left stamp w k = 2 * unstamped stamp w.seen + length w.own - k

-- exactly the own instructions were found, and the next block may have the next stamp
pub record IsExplored (m : MethodInfo) (frames : List (Option TagShape)) (depth stamp enter : ℕ)
    (w : Walk) : Type 0 where
  pub long : length w.seen ≡ length m.code
  pub low : (j : ℕ) → slice_index w.seen j ≤ stamp
  pub own : (t : ℕ) → t < length w.own → IsInside m frames depth enter (slice_index w.own t)
  pub all : (i : ℕ) → IsInside m frames depth enter i → Has w.own i
