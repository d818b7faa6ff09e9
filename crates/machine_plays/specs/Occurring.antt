-- Which phases and which instructions occur in worked runs.
use Rattle.std.specs.Prelude.{◌≡◌, ◌==◌, ℕ, zero, suc, pos, true, false, Bool, List, [], ◌∷◌, map}
use Rattle.std.specs.Prelude.{filter, length, replicate, slice_get, slice_set}
use Rattle.std.specs.Prelude.{is_some, Option, Some, None}
use Rattle.jvm_types.specs.CodeTable.{opcode, form_of, Form, Plain, Byte, Short, SignedByte}
use Rattle.jvm_types.specs.CodeTable.{SignedShort, Branch, WideBranch, LocalAndStep, IntArray}
use Rattle.jvm_types.specs.CodeTable.{Table, Lookup}
use Rattle.jvm_types.specs.declared.code.Cmp.TheVariants.{Eq}
use Rattle.jvm_types.specs.declared.code.Op.{Op}
use Rattle.jvm_types.specs.declared.code.Op.TheVariants as ops
use Rattle.checked_program.specs.MarkedProgram.{MarkedProgram}
use Rattle.machine_types.specs.Core.{Core, Happening, Of, NextPart, happened}
use Rattle.machine_types.specs.Frames.{Top, top_of}
use Rattle.machine_types.specs.Schedules.{Stage, First, Turn, turn_at}
use Rattle.machine_types.specs.Threads.{Thread}
use Rattle.machine_types.specs.declared.phase.Phase.{Phase}
use Rattle.machine_types.specs.declared.phase.Phase.TheVariants as phases
use Rattle.machine_plays.specs.WorkedRuns.{Run, first_state, most_events}
use Rattle.machine_plays.specs.WorkedRuns as runs
use Rattle.machine_plays.specs.WorkedInstructions as instructions

-- ---- a number for each phase, and for each instruction

abbrev pub phase_number : Phase → ℕ
phase_number phases.Idle = 0
phase_number phases.Start = 1
phase_number phases.Run = 2
phase_number (phases.Element word stored) = 3
phase_number (phases.Made a word) = 4
phase_number (phases.Throw x class) = 5
phase_number (phases.Enter m tried) = 6
phase_number (phases.Acquire m) = 7
phase_number (phases.Take m count) = 8
phase_number (phases.Flag m u) = 9
phase_number (phases.TakeFat m r) = 10
phase_number (phases.Leave m a) = 11
phase_number (phases.Grow m toward) = 12
phase_number (phases.FlatOut m a) = 13
phase_number (phases.Own m r toward) = 14
phase_number (phases.FatIn m r toward) = 15
phase_number (phases.WaitBit m r) = 16
phase_number (phases.WaitOut m r) = 17
phase_number (phases.WaitLook m r depth) = 18
phase_number (phases.Retake m r depth) = 19
phase_number (phases.NotifyLook m r) = 20
phase_number (phases.NotifyOne m r u) = 21
phase_number (phases.NotifyAll m r) = 22
phase_number (phases.Ending e) = 23
phase_number (phases.Ended e) = 24

-- of an instruction its opcode: the same one of `iconst_m1` to `iconst_5`, `ifeq` to `ifle`, and
-- `if_icmpeq` to `if_icmple`, each of which are one instruction
abbrev pub instruction_number : Op → ℕ
instruction_number (ops.Iconst n) = opcode (ops.Iconst (pos 0))
instruction_number (ops.If c to) = opcode (ops.If Eq to)
instruction_number (ops.IfIcmp c to) = opcode (ops.IfIcmp Eq to)
instruction_number op = opcode op

-- an instruction that a form makes
abbrev pub made_op : Form → Op
made_op (Plain op) = op
made_op (Byte make) = make 0
made_op (Short make) = make 0
made_op (SignedByte make) = make (pos 0)
made_op (SignedShort make) = make (pos 0)
made_op (Branch make) = make 0
made_op (WideBranch make) = make 0
made_op (LocalAndStep make) = make 0 (pos 0)
made_op (IntArray op) = op
made_op Table = ops.Tableswitch 0 (pos 0) []
made_op Lookup = ops.Lookupswitch 0 []

-- whether a number is that of an instruction in the table
abbrev pub has_this_number : ℕ → Option Form → Bool
has_this_number n None = false
has_this_number n (Some form) = instruction_number (made_op form) == n

abbrev pub numbers_from : (n count : ℕ) → List ℕ
numbers_from n zero = []
numbers_from n (suc count) = n ∷ numbers_from (suc n) count

-- of each number to 255, whether it is that of an instruction
abbrev pub instruction_numbers : List Bool
instruction_numbers = map (λ n. has_this_number n (form_of n)) (numbers_from 0 256)

-- ---- the numbers that a step of a run shows

-- of the phases of all threads
abbrev pub phases_at : MarkedProgram → Core → Happening → List ℕ
phases_at c s h = map (λ x. phase_number x.phase) s.threads

-- of the instruction that the event begins
abbrev pub instruction_of : Phase → Option Top → List ℕ
instruction_of phases.Run (Some at) = instruction_number at.insn.op ∷ []
instruction_of phase at = []

abbrev pub instruction_by : MarkedProgram → Option Thread → List ℕ
instruction_by c None = []
instruction_by c (Some x) = instruction_of x.phase (top_of c.program x.frames)

abbrev pub instructions_at : MarkedProgram → Core → Happening → List ℕ
instructions_at c s (Of t) = instruction_by c (slice_get s.threads t)
instructions_at c s NextPart = []

-- ---- along a run, and along some runs: of each number, whether it was shown

abbrev pub with_numbers : List ℕ → List Bool → List Bool
with_numbers [] seen = seen
with_numbers (n ∷ ns) seen = with_numbers ns (slice_set seen n true)

abbrev pub seen_along : (most : ℕ) → (MarkedProgram → Core → Happening → List ℕ) → MarkedProgram
    → Core → Stage → List Bool → List Bool
seen_along zero look c s stage seen = seen
seen_along (suc n) look c s stage seen =
    by_turn (λ after on more. seen_along n look c after on more) (turn_at stage s)
  where
    by_turn : (Core → Stage → List Bool → List Bool) → Option Turn → List Bool
    by_turn more None = with_numbers (look c s NextPart) seen
    by_turn more (Some t) =
        more (happened c s t.happening) t.stage (with_numbers (look c s t.happening) seen)

abbrev pub seen_in : (MarkedProgram → Core → Happening → List ℕ) → List Run → List Bool → List Bool
seen_in look [] seen = seen
seen_in look (r ∷ rs) seen =
    seen_in look rs (seen_along most_events look r.program (first_state r) (First r.order) seen)

-- ---- all of them occur, and no number that is none

abbrev pub AllPhasesOccur : Type 0
AllPhasesOccur =
    seen_in phases_at (runs.fought_grows ∷ runs.fought_stays_flat ∷ runs.elements_throw
    ∷ runs.waiters_wake ∷ runs.deep_waiters_wake ∷ []) (replicate 25 false) ≡ replicate 25 true

-- the table of instructions has as many opcodes as are counted beside the runs
abbrev pub OpcodesAreCounted : Type 0
OpcodesAreCounted =
    length (filter (λ b. is_some (form_of b)) (numbers_from 0 256)) ≡ instructions.opcode_count

abbrev pub AllInstructionsOccur : Type 0
AllInstructionsOccur =
    seen_in instructions_at (instructions.ints_compute ∷ instructions.moves_go
    ∷ runs.elements_throw ∷ runs.torn_counts ∷ runs.spinning_ends ∷ []) (replicate 256 false)
    ≡ instruction_numbers
