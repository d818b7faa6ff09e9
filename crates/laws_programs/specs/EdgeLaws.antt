-- Where the edges of a method lead to, and the frames there.
use Rattle.std.specs.Prelude.{◌≡◌, ℕ, true, List, Option, Some, slice_get}
use Rattle.jvm_types.specs.Types.{TypeFrame, frame_below}
use Rattle.jvm_types.specs.Verifying.{frame_at, FrameFits, IsLaidOut}
use Rattle.jvm_types.specs.declared.code.Insn.{Insn}
use Rattle.jvm_types.specs.declared.program.MethodInfo.{MethodInfo}

-- the instruction at a pc has a frame, which the one that is brought is at or below
pub record Lands (m : MethodInfo) (frames : List (Option TypeFrame)) (f : TypeFrame) (pc : ℕ)
    : Type 0 where
  pub number : ℕ
  pub insn : Insn
  pub frame : TypeFrame
  pub there : slice_get m.code number ≡ Some insn
  pub starts : insn.pc ≡ pc
  pub has : slice_get frames number ≡ Some (Some frame)
  pub fits : frame_below f frame ≡ true

-- an edge that fits leads to such an instruction
abbrev pub EdgesLand : Type 0
EdgesLand =
    (m : MethodInfo) (frames : List (Option TypeFrame)) (f : TypeFrame) (to : ℕ)
    → FrameFits m.code frames f to → Lands m frames f to

-- the frame at the pc of an instruction is that of its number
abbrev pub FramesAreNumbered : Type 0
FramesAreNumbered =
    (m : MethodInfo) (frames : List (Option TypeFrame)) (i : ℕ) (insn : Insn)
    (frame : Option TypeFrame) → IsLaidOut m → slice_get m.code i ≡ Some insn
    → slice_get frames i ≡ Some frame → frame_at m.code frames insn.pc ≡ frame

-- the frame at a pc is that of an instruction there
pub record FrameStandsAt (m : MethodInfo) (frames : List (Option TypeFrame)) (pc : ℕ)
    (f : TypeFrame) : Type 0 where
  pub number : ℕ
  pub insn : Insn
  pub there : slice_get m.code number ≡ Some insn
  pub starts : insn.pc ≡ pc
  pub has : slice_get frames number ≡ Some (Some f)

abbrev pub FramesAreFound : Type 0
FramesAreFound =
    (m : MethodInfo) (frames : List (Option TypeFrame)) (pc : ℕ) (f : TypeFrame)
    → frame_at m.code frames pc ≡ Some f → FrameStandsAt m frames pc f
