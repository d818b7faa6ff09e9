-- Where the frame that entered the section of an attempt stands.
use Rattle.std.specs.Prelude.{◌≡◌, ◌<◌, ◌+◌, ◌-◌, List, ◌∷◌, length, drop, Some}
use Rattle.checked_program.specs.MarkedProgram.{MarkedProgram}
use Rattle.machine_types.specs.Structure.{IsStructured}
use Rattle.machine_types.specs.Threads.{Frame, Attempt, Thread}
use Rattle.machine_types.specs.declared.phase.Phase.{Phase}

-- the frame behind those below the section is there, and is of the method that entered it, whatever
-- else became of it
pub record IsOnBase (a : Attempt) (fs : List Frame) : Type 0 where
  pub based : a.base < length fs
  pub frame : Frame
  pub below : List Frame
  pub at_base : drop (length fs - (a.base + 1)) fs ≡ frame ∷ below
  pub method : a.entry.method ≡ frame.method

abbrev pub AttemptsAreBased : Type 0
AttemptsAreBased =
    (c : MarkedProgram) (was : Phase) (s : Thread) (a : Attempt) → IsStructured c was s
    → s.attempt ≡ Some a → IsOnBase a s.frames
