-- An attempt whose frame is kept in slots of its own.
use Rattle.std.specs.Prelude.{◌≡◌, ◌<◌, ℕ, ◌+◌, List, length, Option, Some, None, IfSome}
use Rattle.jvm_types.specs.declared.program.Program.{Program}
use Rattle.machine_types.specs.Elision.{put_back}
use Rattle.jvm_types.specs.declared.limits.TheConstants.{MOST_SLOTS}
use Rattle.machine_types.specs.Threads.{Frame, Attempt}
use Rattle.frames.specs.FrameLists.{top, deepest}
use Rattle.frames.specs.Laid.{frame_of, HeadFits}
use Rattle.frames.specs.declared.attempt_entry.AttemptEntry.{AttemptEntry}

abbrev pub attempt_of : List ℕ → AttemptEntry → Attempt
attempt_of kept e = record {
  monitor = e.attempt.monitor;
  noted = e.attempt.noted;
  base = e.attempt.base;
  number = e.attempt.number;
  inner = e.attempt.inner;
  entry = frame_of e.frame kept;
}

pub record IsKept (p : Program) (kept : List ℕ) (attempt : Option AttemptEntry) : Type 0 where
  pub long : length kept ≡ MOST_SLOTS
  pub entry : IfSome attempt (λ e. HeadFits p e.frame)

-- the frame that entered the section is there, whatever became of it
abbrev pub IsBased : List Frame → Attempt → Type 0
IsBased fs a = (a.base < length fs) × (a.entry.method ≡ (top (deepest (a.base + 1) fs)).method)

-- the frames with the kept one put back
abbrev pub restored : Option Attempt → List Frame → List Frame
restored None fs = fs
restored (Some a) fs = put_back a fs

abbrev pub with_inner : (inner : ℕ) → Option Attempt → Option Attempt
with_inner inner None = None
with_inner inner (Some a) = Some (record a { inner = inner })
