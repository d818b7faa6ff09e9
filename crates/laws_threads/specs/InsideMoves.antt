-- An attempt stands whatever its thread does inside it: an instruction, an exception, a nested exit
-- or entry, and the entry of the section itself. That is what the frames of marked sections keep,
-- in the words of the machine.
use Rattle.std.specs.Prelude.{◌≡◌, ℕ, suc, ◌+◌, true, List, [], ◌∷◌, length, Option, Some, None}
use Rattle.jvm_types.specs.Numbers.{has_number}
use Rattle.jvm_types.specs.Verifying.{edges}
use Rattle.jvm_types.specs.declared.code.Insn.{Insn}
use Rattle.jvm_types.specs.declared.outcome.Thrown.{Thrown}
use Rattle.checked_program.specs.MarkedProgram.{MarkedProgram, IsMarked}
use Rattle.machine_types.specs.Elision.{enters_marked}
use Rattle.machine_types.specs.Frames.{Top, top_of, effect_at, handler_at, went_on}
use Rattle.laws_threads.specs.InsideEffects.{TakesOwned}
use Rattle.machine_types.specs.HeldMonitors.{held_at}
use Rattle.machine_types.specs.Onward.{Onward, Running, Throwing, Entering, Leaving, RootReturned}
use Rattle.machine_types.specs.Onward.{Uncaught, handed, after, done}
use Rattle.machine_types.specs.ReadyObjects.{class_of}
use Rattle.machine_types.specs.Standing.{Standing}
use Rattle.machine_types.specs.Structure.{Stands, AttemptStands}
use Rattle.machine_types.specs.Threads.{Frame, Attempt}
use Rattle.machine_types.specs.declared.effect.Effect.{Effect}
use Rattle.machine_types.specs.declared.effect.Effect.TheVariants.{Goes}
use Rattle.machine_types.specs.declared.lock.Held.{Held}
use Rattle.machine_types.specs.declared.phase.After.{After}
use Rattle.machine_types.specs.declared.phase.Phase.TheVariants as phases

-- ---- how a thread goes on inside an attempt

-- the attempt stands; its thread neither ends nor returns from its root
abbrev pub GoesOnInside : MarkedProgram → Onward → List Held → Attempt → Type 0
GoesOnInside c (Running fs) held a = AttemptStands c phases.Run fs held a
GoesOnInside c (Throwing x class fs) held a = AttemptStands c (phases.Throw x class) fs held a
GoesOnInside c (Entering m fs) held a = AttemptStands c (phases.Enter m 0) fs held a
GoesOnInside c (Leaving m e fs) held a = AttemptStands c (phases.Leave m e) fs held a
GoesOnInside c RootReturned held a = ⊥
GoesOnInside c (Uncaught class) held a = ⊥

-- the top frame stands at a reached instruction, as each frame does whose entries are shown
abbrev pub TopStands : MarkedProgram → List Frame → Type 0
TopStands c [] = ⊥
TopStands c (f ∷ fs) = Standing c f

abbrev pub OnwardStands : MarkedProgram → Onward → Type 0
OnwardStands c (Running fs) = TopStands c fs
OnwardStands c (Entering m fs) = TopStands c fs
OnwardStands c (Leaving m e fs) = TopStands c fs
OnwardStands c onward = Unit {0}

-- where an instruction says itself where it goes on, that is along an edge
abbrev pub GoesAlong : Insn → Effect → Type 0
GoesAlong insn (Goes to made) = has_number (edges insn) to ≡ true
GoesAlong insn e = Unit {0}

-- ---- the laws

-- an instruction, but for its check
abbrev pub StepsInside : Type 0
StepsInside =
    (c : MarkedProgram) (fs : List Frame) (held : List Held) (a : Attempt) (at : Top) (got : ℕ)
    (onward : Onward) → IsMarked c → AttemptStands c phases.Run fs held a
    → Stands c phases.Run fs held (Some a) → top_of c.program fs ≡ Some at
    → GoesAlong at.insn (effect_at c.program at)
    → done c.program at (effect_at c.program at) got ≡ Some onward → OnwardStands c onward
    → GoesOnInside c onward held a

-- an element is read there, of an array that the monitor's object owns, and none is written; then
-- its thread goes on
pub record ReadsElement (c : MarkedProgram) (stored : Option ℕ) (held : List Held) (a : Attempt)
    (at : Top) : Type 0 where
  pub read : stored ≡ None
  pub owned : TakesOwned c a.monitor at
  pub goes_on : (value : ℕ) → TopStands c (went_on c.program at value)
      → GoesOnInside c (Running (went_on c.program at value)) held a

abbrev pub ElementsInside : Type 0
ElementsInside =
    (c : MarkedProgram) (word : ℕ) (stored : Option ℕ) (fs : List Frame) (held : List Held)
    (a : Attempt) (at : Top) → IsMarked c
    → AttemptStands c (phases.Element word stored) fs held a
    → Stands c (phases.Element word stored) fs held (Some a) → top_of c.program fs ≡ Some at
    → ReadsElement c stored held a at

-- an exception and one frame
abbrev pub ThrowsInside : Type 0
ThrowsInside =
    (c : MarkedProgram) (x : ℕ) (class : Thrown) (fs : List Frame) (held : List Held) (a : Attempt)
    (at : Top) → IsMarked c → AttemptStands c (phases.Throw x class) fs held a
    → Stands c (phases.Throw x class) fs held (Some a) → top_of c.program fs ≡ Some at
    → OnwardStands c (handed c.program x class at (handler_at (class_of class) at))
    → GoesOnInside c (handed c.program x class at (handler_at (class_of class) at)) held a

-- an exit that is not the last one
abbrev pub LeavesInside : Type 0
LeavesInside =
    (c : MarkedProgram) (m : ℕ) (e : After) (fs : List Frame) (held : List Held) (a : Attempt)
    (n : ℕ) (onward : Onward) → IsMarked c → AttemptStands c (phases.Leave m e) fs held a
    → Stands c (phases.Leave m e) fs held (Some a) → a.inner ≡ suc n
    → after c.program fs e ≡ Some onward → OnwardStands c onward
    → GoesOnInside c onward held (record a { inner = n })

-- an entry inside
abbrev pub EntersInside : Type 0
EntersInside =
    (c : MarkedProgram) (m tried : ℕ) (fs : List Frame) (held : List Held) (a : Attempt)
    → AttemptStands c (phases.Enter m tried) fs held a
    → AttemptStands c phases.Run fs held (record a { inner = a.inner + 1 })

-- the entry of a marked section, of which an attempt is made
abbrev pub BeginsAttempt : Type 0
BeginsAttempt =
    (c : MarkedProgram) (m tried noted number : ℕ) (f : Frame) (below : List Frame)
    (held : List Held) → IsMarked c → Stands c (phases.Enter m tried) (f ∷ below) held None
    → held_at held m ≡ None → enters_marked c (f ∷ below) ≡ true
    → AttemptStands c phases.Run (f ∷ below) held (record
    { monitor = m; noted = noted; base = length below; number = number; inner = 0; entry = f })
