-- The graph of the instructions that stand in blocks, and what they lead to.
use Rattle.std.specs.Prelude.{◌≡◌, ◌<◌, ◌≤◌, ◌+◌, ◌-◌, ℕ, zero, suc, ◌&&◌, ◌==◌, if◌then◌else◌}
use Rattle.std.specs.Prelude.{Bool, true, false, nat_lt, List, [], ◌∷◌, ◌++◌, length, Option}
use Rattle.std.specs.Prelude.{Some, None, slice_get, slice_index}
use Rattle.std.specs.List.{list_any}
use Rattle.jvm_types.specs.CodeTable.{can_throw}
use Rattle.jvm_types.specs.Verifying.{covers, edges}
use Rattle.jvm_types.specs.declared.code.Insn.{Insn}
use Rattle.jvm_types.specs.declared.program.Row.{Row}
use Rattle.jvm_types.specs.declared.program.Target.{Target}
use Rattle.jvm_types.specs.declared.program.MethodInfo.{MethodInfo}
use Rattle.checked_program.specs.LockTags.{TagShape}
use Rattle.checked_program.specs.Tagging.{catches_all}
use Rattle.code_table.specs.PcTables.{number_at}
use Rattle.graph_closure.specs.Chains.{IsIn}
use Rattle.widest_paths.specs.WidestPaths.{IsInFan, IsFanEdge, AreWidest}
use Rattle.widest_paths.specs.declared.graph.Fan.{Fan}
use Rattle.widest_paths.specs.declared.graph.Graph.{Graph}
use Rattle.guard_analysis.specs.BlockWalks.{ways_from}
use Rattle.guard_analysis.specs.declared.block_reach.Reaches.{Reaches}

-- how many monitors are held at an instruction; 0 where it is not reached
abbrev pub level_of : Option Insn → Option Target → Option (Option TagShape) → ℕ
level_of (Some insn) (Some target) (Some (Some f)) = length f.held
level_of insn target f = 0

abbrev pub level_at : MethodInfo → List (Option TagShape) → ℕ → ℕ
level_at m frames i = level_of (slice_get m.code i) (slice_get m.targets i) (slice_get frames i)

abbrev pub levels_before : MethodInfo → List (Option TagShape) → ℕ → List ℕ
levels_before m frames zero = []
levels_before m frames (suc i) = levels_before m frames i ++ level_at m frames i ∷ []

-- how many rows an exception at a pc is compared with: those up to the first that covers the pc and
-- catches all
abbrev pub open_rows : ℕ → List Row → ℕ
open_rows pc [] = 0
open_rows pc (handler ∷ handlers) =
    if catches_all handler && covers pc handler then 1 else suc (open_rows pc handlers)

-- the turns of an instruction at a level: a row is open to it while it has more
abbrev pub turns_at : List Row → Insn → (level : ℕ) → ℕ
turns_at rows insn level =
    if level == 0 then 0 else if can_throw insn.op then 1 + open_rows insn.pc rows else 1

abbrev pub turns_in : List Row → Option Insn → (level : ℕ) → ℕ
turns_in rows None level = 0
turns_in rows (Some insn) level = turns_at rows insn level

abbrev pub turns_before : MethodInfo → List (Option TagShape) → ℕ → List ℕ
turns_before m frames zero = []
turns_before m frames (suc i) =
    turns_before m frames i ++ turns_in m.rows (slice_get m.code i) (level_at m frames i) ∷ []

-- ---- edges

-- an instruction stands at one of the first of some pcs
abbrev pub HasFanAt : List Insn → List ℕ → ℕ → ℕ → Type 0
HasFanAt code pcs n k =
    (t : ℕ) × (t < n) × (number_at code (slice_index pcs t) ≡ Some k)

abbrev pub edges_of : Option Insn → List ℕ
edges_of None = []
edges_of (Some insn) = edges insn

abbrev pub IsOnward : MethodInfo → ℕ → ℕ → Type 0
IsOnward m i k =
    HasFanAt m.code (edges_of (slice_get m.code i)) (length (edges_of (slice_get m.code i))) k

abbrev pub number_else : Option ℕ → ℕ → ℕ
number_else None other = other
number_else (Some i) other = i

-- the instructions that the row of a number covers
abbrev pub fan_of : List Insn → Row → ℕ → Fan
fan_of code handler turn =
    record {
      first = number_else (number_at code handler.start) 0;
      last = number_else (number_at code handler.end) (length code);
      turn = turn;
    }

abbrev pub IsThrown : MethodInfo → Graph → (turn : ℕ) → Option Row → ℕ → ℕ → Type 0
IsThrown m g turn None i k = ⊥
IsThrown m g turn (Some handler) i k =
    (number_at m.code handler.handler ≡ Some k) × IsInFan g (fan_of m.code handler turn) i

-- by one of the first rows
abbrev pub IsThrownBefore : MethodInfo → Graph → ℕ → ℕ → ℕ → Type 0
IsThrownBefore m g n i k = (r : ℕ) × (r < n) × IsThrown m g (r + 1) (slice_get m.rows r) i k

-- an edge of the graph leads along a way of an instruction that stands in a block
pub record IsGraphOf (m : MethodInfo) (frames : List (Option TagShape)) (g : Graph) : Type 0 where
  pub levels : (i : ℕ) → slice_index g.levels i ≡ level_at m frames i
  pub joins : (i k : ℕ) → 0 < level_at m frames i → IsFanEdge g i k → IsIn k (ways_from m i)
  pub edges : (i k : ℕ) → 0 < level_at m frames i → IsIn k (ways_from m i) → IsFanEdge g i k

-- ---- what instructions lead to

-- of each rule from 1 on the widest paths to the instructions that break it
pub record AreReaches (m : MethodInfo) (frames : List (Option TagShape)) (grades : List ℕ)
    (reaches : Reaches) : Type 0 where
  pub graph : Graph
  pub is_graph : IsGraphOf m frames graph
  pub widest : (r : ℕ) → r < 7
      → (widths : List ℕ) × (slice_get reaches.rules r ≡ Some widths)
      × AreWidest graph grades (r + 1) widths

abbrev pub is_led_by : Option (List ℕ) → List ℕ → (depth : ℕ) → Bool
is_led_by None ways depth = false
is_led_by (Some widths) ways depth = list_any (λ k. nat_lt depth (slice_index widths k)) ways

abbrev pub is_led_to : List (List ℕ) → List ℕ → (depth r : ℕ) → Bool
is_led_to rules ways depth r = is_led_by (slice_get rules r) ways depth

-- the first rule that one of some instructions leads to at a depth
pub record IsFirstRule (rules : List (List ℕ)) (ways : List ℕ) (depth n : ℕ) : Type 0 where
  pub some : 0 < n → (n ≤ 7) × (is_led_to rules ways depth (n - 1) ≡ true)
  pub first : (r : ℕ) → r < 7 → is_led_to rules ways depth r ≡ true → (0 < n) × (n ≤ r + 1)
