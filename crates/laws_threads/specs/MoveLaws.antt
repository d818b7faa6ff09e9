-- What the frames of a thread show when the top one moves within its method, in a marked program.
-- The locking of a method is structured (JVMS 2.11.10): each `monitorexit` leaves the monitor that
-- was entered last.
use Rattle.std.specs.Prelude.{◌≡◌, ℕ, Bool, true, false, List, ◌∷◌, Option, Some, None}
use Rattle.jvm_types.specs.Numbers.{has_number}
use Rattle.jvm_types.specs.Verifying.{edges}
use Rattle.jvm_types.specs.declared.code.Op.{Op}
use Rattle.jvm_types.specs.declared.code.Op.TheVariants as ops
use Rattle.checked_program.specs.MarkedProgram.{MarkedProgram, IsMarked}
use Rattle.machine_types.specs.declared.effect.Effect.{Effect}
use Rattle.machine_types.specs.declared.effect.Effect.TheVariants.{Goes, Reads, Writes, Indexes}
use Rattle.machine_types.specs.declared.effect.Effect.TheVariants.{Measures, Prints, Makes, Enters}
use Rattle.machine_types.specs.declared.effect.Effect.TheVariants.{Leaves, Waits, Notifies}
use Rattle.machine_types.specs.declared.effect.Effect.TheVariants.{NotifiesAll}
use Rattle.machine_types.specs.Frames.{Top, top_of, effect_at, went, went_on, making, pushed}
use Rattle.machine_types.specs.Shown.{Show}
use Rattle.machine_types.specs.Standing.{Whole, Lacking}
use Rattle.machine_types.specs.Structure.{TopIs, TopEnters, is_element_op}
use Rattle.machine_types.specs.Threads.{Frame}

-- ---- moves

abbrev pub is_lock_op : Op → Bool
is_lock_op ops.Monitorenter = true
is_lock_op ops.Monitorexit = true
is_lock_op op = false

-- An instruction that enters and leaves no monitor shows what it did before, along each of its
-- edges, whatever it makes. A `dup` gives its tag a value anew, and that tag is not held.
abbrev pub MovesShow : Type 0
MovesShow =
    (c : MarkedProgram) (fs : List Frame) (shown : List ℕ) (at : Top) (to made : ℕ) → IsMarked c
    → top_of c.program fs ≡ Some at → Show c Whole fs shown → is_lock_op at.insn.op ≡ false
    → has_number (edges at.insn) to ≡ true → Show c Whole (went c.program at to made) shown

-- where an effect leads that leaves the frame at an edge of its instruction
abbrev pub goes_to : (next : ℕ) → Effect → Option ℕ
goes_to next (Goes to made) = Some to
goes_to next (Reads v) = Some next
goes_to next (Writes v word) = Some next
goes_to next (Indexes array index stored) = Some next
goes_to next (Measures array) = Some next
goes_to next (Prints n) = Some next
goes_to next (Waits m) = Some next
goes_to next (Notifies m) = Some next
goes_to next (NotifiesAll m) = Some next
goes_to next e = None

abbrev pub EffectsFollowEdges : Type 0
EffectsFollowEdges =
    (c : MarkedProgram) (fs : List Frame) (shown : List ℕ) (at : Top) (to : ℕ) → IsMarked c
    → top_of c.program fs ≡ Some at → Show c Whole fs shown
    → goes_to at.insn.next (effect_at c.program at) ≡ Some to
    → (is_lock_op at.insn.op ≡ false) × (has_number (edges at.insn) to ≡ true)

-- so what is shown stays
abbrev pub EffectsShow : Type 0
EffectsShow =
    (c : MarkedProgram) (fs : List Frame) (shown : List ℕ) (at : Top) (to made : ℕ) → IsMarked c
    → top_of c.program fs ≡ Some at → Show c Whole fs shown
    → goes_to at.insn.next (effect_at c.program at) ≡ Some to
    → Show c Whole (went c.program at to made) shown

-- and so it does when an element was read or written
abbrev pub ElementsShow : Type 0
ElementsShow =
    (c : MarkedProgram) (fs : List Frame) (shown : List ℕ) (at : Top) (stored : Option ℕ) (made : ℕ)
    → IsMarked c → top_of c.program fs ≡ Some at → Show c Whole fs shown
    → TopIs c (is_element_op stored) fs → Show c Whole (went_on c.program at made) shown

-- ---- new objects

-- the reference is still to be pushed
abbrev pub MakingShows : Type 0
MakingShows =
    (c : MarkedProgram) (fs : List Frame) (shown : List ℕ) (at : Top) (word size : ℕ) → IsMarked c
    → top_of c.program fs ≡ Some at → Show c Whole fs shown
    → effect_at c.program at ≡ Makes word size → Show c Lacking (making c.program at) shown

abbrev pub PushedShows : Type 0
PushedShows =
    (c : MarkedProgram) (fs : List Frame) (shown : List ℕ) (v : ℕ) → Show c Lacking fs shown
    → Show c Whole (pushed v fs) shown

-- ---- monitors

-- behind a `monitorenter` its monitor is shown innermost
abbrev pub EntersShow : Type 0
EntersShow =
    (c : MarkedProgram) (fs : List Frame) (shown : List ℕ) (at : Top) (m : ℕ) → IsMarked c
    → top_of c.program fs ≡ Some at → Show c Whole fs shown → effect_at c.program at ≡ Enters m
    → Show c Whole (went_on c.program at 0) (m ∷ shown) × TopEnters c m (went_on c.program at 0)

-- a `monitorexit` leaves the innermost one
abbrev pub LeavesShow : Type 0
LeavesShow =
    (c : MarkedProgram) (fs : List Frame) (shown : List ℕ) (at : Top) (m : ℕ) → IsMarked c
    → top_of c.program fs ≡ Some at → Show c Whole fs shown → effect_at c.program at ≡ Leaves m
    → (rest : List ℕ) × (shown ≡ m ∷ rest) × Show c Whole (went_on c.program at 0) rest
