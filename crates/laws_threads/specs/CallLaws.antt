-- What the frames of a thread show when a method is called and when it returns, in a marked program
-- (JVMS 2.6).
use Rattle.std.specs.Prelude.{◌≡◌, ℕ, Bool, true, false, List, [], ◌∷◌, ◌++◌, length, Some}
use Rattle.std.specs.Prelude.{slice_get}
use Rattle.jvm_types.specs.Members.{is_static, is_synchronized}
use Rattle.jvm_types.specs.Verifying.{is_return}
use Rattle.jvm_types.specs.declared.code.Op.{Op}
use Rattle.jvm_types.specs.declared.program.MethodInfo.{MethodInfo}
use Rattle.jvm_types.specs.declared.program.Program.{Program}
use Rattle.checked_program.specs.MarkedProgram.{MarkedProgram, IsMarked}
use Rattle.machine_types.specs.declared.effect.Effect.TheVariants.{Calls, Returns}
use Rattle.machine_types.specs.Frames.{Top, top_of, frames_of, effect_at, waiting, entry_frame}
use Rattle.machine_types.specs.Frames.{arguments_of, monitor_of, returned}
use Rattle.machine_types.specs.Onward.{root_arguments}
use Rattle.machine_types.specs.Shown.{Show, own_entry}
use Rattle.machine_types.specs.Standing.{Standing, Operands, Whole}
use Rattle.machine_types.specs.Structure.{TopEnters, TopLeaves}
use Rattle.machine_types.specs.Threads.{Frame}

-- ---- calls

abbrev pub callee_frame : Program → Top → (number : ℕ) → MethodInfo → Frame
callee_frame p at number called = entry_frame number called (arguments_of p at)

-- the called method is one of the program
abbrev pub CalledStand : Type 0
CalledStand =
    (c : MarkedProgram) (fs : List Frame) (shown : List ℕ) (at : Top) (number : ℕ) → IsMarked c
    → top_of c.program fs ≡ Some at → Show c Whole fs shown
    → effect_at c.program at ≡ Calls number
    → (called : MethodInfo) × (slice_get c.program.methods number ≡ Some called)

-- a synchronized method shows its monitor
abbrev pub CallsShow : Type 0
CallsShow =
    (c : MarkedProgram) (fs : List Frame) (shown : List ℕ) (at : Top) (number : ℕ)
    (called : MethodInfo) → IsMarked c → top_of c.program fs ≡ Some at → Show c Whole fs shown
    → effect_at c.program at ≡ Calls number → slice_get c.program.methods number ≡ Some called
    → Show c Whole (callee_frame c.program at number called ∷ waiting c.program at)
    (own_entry c.program called (callee_frame c.program at number called) ++ shown)

abbrev pub CallsEnter : Type 0
CallsEnter =
    (c : MarkedProgram) (fs : List Frame) (at : Top) (number : ℕ) (called : MethodInfo) → IsMarked c
    → top_of c.program fs ≡ Some at → slice_get c.program.methods number ≡ Some called
    → is_synchronized called.flags ≡ true
    → TopEnters c (monitor_of c.program called (callee_frame c.program at number called))
    (callee_frame c.program at number called ∷ waiting c.program at)

-- the frame of a root, a static method without a monitor, shows nothing
abbrev pub RootsShow : Type 0
RootsShow =
    (c : MarkedProgram) (t number : ℕ) (m : MethodInfo) → IsMarked c
    → slice_get c.program.methods number ≡ Some m → is_static m.flags ≡ true
    → is_synchronized m.flags ≡ false
    → Show c Whole (entry_frame number m (root_arguments t m) ∷ []) []

-- ---- the end of a frame

-- The top frame is left, by an instruction that passes a test: it holds no tag, so it shows its own
-- entry and no more. The frames below go on with what they show.
pub record IsLeft (c : MarkedProgram) (at : Top) (test : Op → Bool) (operands : Operands)
    (now : List Frame) (shown : List ℕ) : Type 0 where
  pub none : (k : Standing c at.frame) → k.tags.held ≡ []
  pub leaves : is_synchronized at.method.flags ≡ true
      → TopLeaves c (monitor_of c.program at.method at.frame) test (frames_of at)
  pub rest : List ℕ
  pub own : shown ≡ own_entry c.program at.method at.frame ++ rest
  pub show : Show c operands now rest

-- a return gives the caller what its call is to give
abbrev pub ReturnsShow : Type 0
ReturnsShow =
    (c : MarkedProgram) (fs : List Frame) (shown : List ℕ) (at : Top) → IsMarked c
    → top_of c.program fs ≡ Some at → Show c Whole fs shown → effect_at c.program at ≡ Returns
    → IsLeft c at is_return Whole (returned c.program at) shown

-- the stack of a frame has as many values as the types there; it has where types hold
abbrev pub HasHeight : (c : MarkedProgram) → Frame → Type 0
HasHeight c f = (k : Standing c f) → length f.stack ≡ length k.types.stack

-- so a return does behind the release of a lock
abbrev pub ReturnsBehindRelease : Type 0
ReturnsBehindRelease =
    (c : MarkedProgram) (fs : List Frame) (shown : List ℕ) (at : Top) (m : ℕ) → IsMarked c
    → top_of c.program fs ≡ Some at → Show c Whole fs shown → HasHeight c at.frame
    → TopLeaves c m is_return fs
    → (rest : List ℕ) × (shown ≡ m ∷ rest) × Show c Whole (returned c.program at) rest
