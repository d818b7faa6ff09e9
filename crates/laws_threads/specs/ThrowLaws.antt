-- What the frames of a thread show when an exception is thrown, caught, or ends a frame, in a
-- marked program (JVMS 2.10).
use Rattle.std.specs.Prelude.{◌≡◌, ℕ, Bool, true, false, List, [], ◌∷◌, drop, Some, None}
use Rattle.jvm_types.specs.CodeTable.{can_throw}
use Rattle.jvm_types.specs.declared.program.Row.{Row}
use Rattle.checked_program.specs.MarkedProgram.{MarkedProgram, IsMarked}
use Rattle.machine_types.specs.declared.effect.Effect.{Effect}
use Rattle.machine_types.specs.declared.effect.Effect.TheVariants.{Throws, Raises, Indexes, Makes}
use Rattle.machine_types.specs.declared.effect.Effect.TheVariants.{Calls, Waits, Notifies}
use Rattle.machine_types.specs.declared.effect.Effect.TheVariants.{NotifiesAll}
use Rattle.machine_types.specs.Frames.{Top, top_of, frames_of, effect_at, handler_at, caught}
use Rattle.machine_types.specs.Shown.{Show}
use Rattle.machine_types.specs.Standing.{Whole, Thrown}
use Rattle.machine_types.specs.Structure.{TopIs, TopLeaves, any_op}
use Rattle.machine_types.specs.Threads.{Frame}
use Rattle.laws_threads.specs.CallLaws.{IsLeft}

-- ---- what throws

-- always, or where an index is too high, there is no room, or a monitor is not held
abbrev pub may_throw : Effect → Bool
may_throw (Throws x) = true
may_throw (Raises x) = true
may_throw (Indexes array index stored) = true
may_throw (Makes word size) = true
may_throw (Calls number) = true
may_throw (Waits m) = true
may_throw (Notifies m) = true
may_throw (NotifiesAll m) = true
may_throw e = false

-- such an effect is one of an instruction that can throw
abbrev pub EffectsThrow : Type 0
EffectsThrow =
    (c : MarkedProgram) (fs : List Frame) (shown : List ℕ) (at : Top) → IsMarked c
    → top_of c.program fs ≡ Some at → Show c Whole fs shown
    → may_throw (effect_at c.program at) ≡ true → can_throw at.insn.op ≡ true

-- the frames stay as they were
abbrev pub ThrowsShow : Type 0
ThrowsShow =
    (c : MarkedProgram) (fs : List Frame) (shown : List ℕ) (at : Top) → IsMarked c
    → top_of c.program fs ≡ Some at → Show c Whole fs shown → can_throw at.insn.op ≡ true
    → Show c Thrown (frames_of at) shown × TopIs c can_throw (frames_of at)

-- ---- where an exception goes

-- to a handler: what is shown stays
abbrev pub CaughtShows : Type 0
CaughtShows =
    (c : MarkedProgram) (fs : List Frame) (shown : List ℕ) (at : Top) (class x : ℕ) (r : Row)
    → IsMarked c → top_of c.program fs ≡ Some at → Show c Thrown fs shown → TopIs c can_throw fs
    → handler_at class at ≡ Some r → Show c Whole (caught r x at) shown

-- it goes on in the top one of some frames, where there is one
abbrev pub ThrowsOn : MarkedProgram → List Frame → Type 0
ThrowsOn c [] = Unit {0}
ThrowsOn c (f ∷ fs) = TopIs c can_throw (f ∷ fs)

-- out of the frame: the one below stands at a call, which can throw
abbrev pub UnwoundShows : Type 0
UnwoundShows =
    (c : MarkedProgram) (fs : List Frame) (shown : List ℕ) (at : Top) (class : ℕ) → IsMarked c
    → top_of c.program fs ≡ Some at → Show c Thrown fs shown → TopIs c can_throw fs
    → handler_at class at ≡ None → IsLeft c at any_op Thrown at.below shown × ThrowsOn c at.below

-- so it does behind the release of a lock
abbrev pub UnwindsBehindRelease : Type 0
UnwindsBehindRelease =
    (c : MarkedProgram) (fs : List Frame) (shown : List ℕ) (m : ℕ) → IsMarked c
    → Show c Thrown fs shown → TopLeaves c m any_op fs
    → (rest : List ℕ) × (shown ≡ m ∷ rest) × Show c Thrown (drop 1 fs) rest
    × ThrowsOn c (drop 1 fs)
