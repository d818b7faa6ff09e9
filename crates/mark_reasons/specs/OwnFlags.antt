-- The own instructions of a section as flags, one for each instruction of its method.
use Rattle.std.specs.Prelude.{◌≡◌, ℕ, zero, suc, Bool, true, false, nat_lt, if◌then◌else◌, List, []}
use Rattle.std.specs.Prelude.{◌∷◌, ◌++◌, length, replicate, Option, Some, None, slice_get}
use Rattle.std.specs.Prelude.{slice_set, slice_index, slice_index_or}
use Rattle.jvm_types.specs.declared.code.Insn.{Insn}
use Rattle.jvm_types.specs.declared.program.Target.{Target}
use Rattle.jvm_types.specs.declared.program.MethodInfo.{MethodInfo}
use Rattle.jvm_types.specs.declared.program.Program.{Program}
use Rattle.checked_program.specs.LockTags.{TagShape}
use Rattle.checked_program.specs.TaggedCode.{Tagged}
use Rattle.checked_program.specs.Sections.{IsOwn}
use Rattle.checked_program.specs.Marks.{IsOnOwn}
use Rattle.checked_program.specs.declared.section.Spot.{Spot}
use Rattle.jvm_types.specs.declared.code.Op.{Op}
use Rattle.jvm_types.specs.declared.code.Op.TheVariants as ops
use Rattle.guard_analysis.specs.BlockWalks.{IsInside}
use Rattle.guard_analysis.specs.SectionGrades.{entry_depth_at}

pub record AreOwn (p : Program) (tags : Tagged) (mi : ℕ) (spot : Spot) (flags : List Bool)
    : Type 0 where
  pub only : (i : ℕ) → slice_index_or flags i false ≡ true → IsOwn p tags mi spot i
  pub all : (i : ℕ) → IsOwn p tags mi spot i → slice_index_or flags i false ≡ true

-- None: the section is not on this
abbrev pub OwnOrElsewhere : Program → Tagged → ℕ → Spot → Option (List Bool) → Type 0
OwnOrElsewhere p tags mi spot None = IsOnOwn p tags mi spot → ⊥
OwnOrElsewhere p tags mi spot (Some flags) = AreOwn p tags mi spot flags

-- ---- reached instructions

abbrev pub reached_at : Option Insn → Option Target → Option (Option TagShape) → Bool
reached_at (Some insn) (Some target) (Some (Some f)) = true
reached_at insn target f = false

abbrev pub is_reached : MethodInfo → List (Option TagShape) → ℕ → Bool
is_reached m frames i = reached_at (slice_get m.code i) (slice_get m.targets i) (slice_get frames i)

-- of the first instructions
abbrev pub reached_before : MethodInfo → List (Option TagShape) → ℕ → List Bool
reached_before m frames zero = []
reached_before m frames (suc i) = reached_before m frames i ++ is_reached m frames i ∷ []

-- ---- some numbers as flags

abbrev pub flag_set : List Bool → ℕ → List Bool
flag_set flags i = if nat_lt i (length flags) then slice_set flags i true else flags

-- with the first of the numbers
abbrev pub flagged : List ℕ → (len k : ℕ) → List Bool
flagged own len zero = replicate len false
flagged own len (suc k) = flag_set (flagged own len k) (slice_index own k)

-- ---- the own instructions of a block, by the walk that finds them

pub record IsFlagged (m : MethodInfo) (frames : List (Option TagShape)) (depth enter : ℕ)
    (flags : List Bool) : Type 0 where
  pub only : (i : ℕ) → slice_index_or flags i false ≡ true → IsInside m frames depth enter i
  pub all : (i : ℕ) → IsInside m frames depth enter i → slice_index_or flags i false ≡ true

abbrev pub IsDepthAnswer : MethodInfo → List (Option TagShape) → (enter : ℕ) → Option ℕ
    → Option (List Bool) → Type 0
IsDepthAnswer m frames enter None found = found ≡ None
IsDepthAnswer m frames enter (Some depth) None = ⊥
IsDepthAnswer m frames enter (Some depth) (Some flags) = IsFlagged m frames depth enter flags

abbrev pub IsOpAnswer : MethodInfo → List (Option TagShape) → (enter : ℕ) → Op → Option (List Bool)
    → Type 0
IsOpAnswer m frames enter ops.Monitorenter found =
    IsDepthAnswer m frames enter (entry_depth_at m frames enter) found
IsOpAnswer m frames enter op found = found ≡ None

abbrev pub IsBlockAnswer : MethodInfo → List (Option TagShape) → (enter : ℕ) → Option Insn
    → Option (List Bool) → Type 0
IsBlockAnswer m frames enter None found = found ≡ None
IsBlockAnswer m frames enter (Some insn) found = IsOpAnswer m frames enter insn.op found
