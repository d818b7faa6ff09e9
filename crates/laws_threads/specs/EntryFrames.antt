-- What a thread does inside an attempt leaves the frames below the one that entered the section as
-- they were: so, with that frame put back, its frames are those of the entry. The same holds of any
-- frames and any attempt that they are inside of.
use Rattle.std.specs.Prelude.{◌≡◌, ℕ, ◌<◌, List, [], length, Some}
use Rattle.jvm_types.specs.declared.outcome.Thrown.{Thrown}
use Rattle.jvm_types.specs.declared.program.Program.{Program}
use Rattle.machine_types.specs.Elision.{put_back}
use Rattle.machine_types.specs.Frames.{Top, top_of}
use Rattle.machine_types.specs.Onward.{Onward, Running, Throwing, Entering, Leaving, RootReturned}
use Rattle.machine_types.specs.Onward.{Uncaught, dispatched, after, done}
use Rattle.machine_types.specs.Threads.{Frame, Attempt}
use Rattle.machine_types.specs.declared.effect.Effect.{Effect}
use Rattle.machine_types.specs.declared.phase.After.{After}

abbrev pub frames_in : Onward → List Frame
frames_in (Running fs) = fs
frames_in (Throwing x class fs) = fs
frames_in (Entering m fs) = fs
frames_in (Leaving m e fs) = fs
frames_in RootReturned = []
frames_in (Uncaught class) = []

-- as long as the frame that entered the section, or one above it, is there
abbrev pub KeepsEntry : Attempt → (before : List Frame) → Onward → Type 0
KeepsEntry a before onward =
    a.base < length before → a.base < length (frames_in onward)
    → put_back a (frames_in onward) ≡ put_back a before

abbrev pub StepsKeepEntry : Type 0
StepsKeepEntry =
    (p : Program) (fs : List Frame) (a : Attempt) (at : Top) (e : Effect) (got : ℕ)
    (onward : Onward) → top_of p fs ≡ Some at → done p at e got ≡ Some onward
    → KeepsEntry a fs onward

abbrev pub ThrowsKeepEntry : Type 0
ThrowsKeepEntry =
    (p : Program) (fs : List Frame) (a : Attempt) (x : ℕ) (class : Thrown) (onward : Onward)
    → dispatched p x class fs ≡ Some onward → KeepsEntry a fs onward

abbrev pub LeavesKeepEntry : Type 0
LeavesKeepEntry =
    (p : Program) (fs : List Frame) (a : Attempt) (e : After) (onward : Onward)
    → after p fs e ≡ Some onward → KeepsEntry a fs onward
