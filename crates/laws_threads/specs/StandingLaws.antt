-- A frame of a marked program stands at one instruction: that of its pc, with one list of tags and
-- of types.
use Rattle.std.specs.Prelude.{◌≡◌, ℕ, List, ◌∷◌, Some}
use Rattle.checked_program.specs.MarkedProgram.{MarkedProgram, IsMarked}
use Rattle.machine_types.specs.Frames.{Top, top_of, frames_of}
use Rattle.machine_types.specs.Shown.{Show}
use Rattle.machine_types.specs.Standing.{Standing, Operands}
use Rattle.machine_types.specs.Threads.{Frame}

pub record IsSame (c : MarkedProgram) (f : Frame) (k other : Standing c f) : Type 0 where
  pub number : k.number ≡ other.number
  pub method : k.method ≡ other.method
  pub insn : k.insn ≡ other.insn
  pub target : k.target ≡ other.target
  pub all_tags : k.at.frames ≡ other.at.frames
  pub tags : k.tags ≡ other.tags
  pub types : k.types ≡ other.types

abbrev pub OneStanding : Type 0
OneStanding =
    (c : MarkedProgram) (f : Frame) (k other : Standing c f) → IsMarked c → IsSame c f k other

-- the top frame stands at the instruction that is found by its pc
pub record IsTop (c : MarkedProgram) (fs : List Frame) (at : Top) (k : Standing c at.frame)
    : Type 0 where
  pub frames : fs ≡ frames_of at
  pub method : k.method ≡ at.method
  pub insn : k.insn ≡ at.insn
  pub target : k.target ≡ at.target

abbrev pub TopsStand : Type 0
TopsStand =
    (c : MarkedProgram) (fs : List Frame) (operands : Operands) (shown : List ℕ) (at : Top)
    → IsMarked c → Show c operands fs shown → top_of c.program fs ≡ Some at
    → (k : Standing c at.frame) × IsTop c fs at k

-- and there is one
abbrev pub FramesHaveTops : Type 0
FramesHaveTops =
    (c : MarkedProgram) (f : Frame) (below : List Frame) (operands : Operands) (shown : List ℕ)
    → IsMarked c → Show c operands (f ∷ below) shown
    → (at : Top) × (top_of c.program (f ∷ below) ≡ Some at)
