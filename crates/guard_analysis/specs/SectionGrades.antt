-- The mark of a section from the first rules that forbid its own instructions.
use Rattle.std.specs.Prelude.{◌≡◌, ◌<◌, ◌≤◌, ℕ, zero, suc, ◌==◌, nat_lt, if◌then◌else◌, List, []}
use Rattle.std.specs.Prelude.{◌∷◌, length, map, drop, slice_get, slice_index, slice_index_or, ◌++◌}
use Rattle.std.specs.Prelude.{Option, Some, None}
use Rattle.jvm_types.specs.declared.code.Insn.{Insn}
use Rattle.jvm_types.specs.declared.program.Target.{Target}
use Rattle.jvm_types.specs.declared.program.MethodInfo.{MethodInfo}
use Rattle.jvm_types.specs.declared.program.Program.{Program}
use Rattle.checked_program.specs.LockTags.{TagShape, is_this}
use Rattle.checked_program.specs.TaggedCode.{Tagged}
use Rattle.checked_program.specs.Sections.{Section, block_at}
use Rattle.checked_program.specs.Marks.{Callee, callee, Calls, BreaksAt, IsMarkOf}
use Rattle.checked_program.specs.declared.tag.Tag.TheVariants.{Untagged}
use Rattle.jvm_types.specs.Members.{is_synchronized}
use Rattle.checked_program.specs.declared.section.Spot.{Spot}
use Rattle.checked_program.specs.declared.section.Spot.TheVariants.{Method}
use Rattle.checked_program.specs.declared.section.SectionMark.{SectionMark}
use Rattle.checked_program.specs.declared.section.Mode.{Mode}
use Rattle.checked_program.specs.declared.section.Uses.{Uses}
use Rattle.std.specs.List.{AllZip, filter_map}
use Rattle.std.specs.Option.{option_to_list}
use Rattle.guard_analysis.specs.BlockWalks.{IsInside}
use Rattle.guard_analysis.specs.Faults.{LeadsToBreak, LeadsToItself}

-- of two rules the one that is tested first; 0 is none
abbrev pub earlier : ℕ → ℕ → ℕ
earlier n k = if k == 0 then n else if n == 0 then k else if nat_lt k n then k else n

-- the first rule of the first of some
abbrev pub earliest_before : (ℕ → ℕ) → ℕ → ℕ
earliest_before rule zero = 0
earliest_before rule (suc t) = earlier (earliest_before rule t) (rule t)

-- where an instruction is reached with `this` on the top of the stack: how many monitors its method
-- has entered there
abbrev pub depth_on_this : Option Insn → Option Target → Option (Option TagShape) → Option ℕ
depth_on_this (Some insn) (Some target) (Some (Some f)) =
    if is_this (slice_index_or f.stack 0 Untagged) then Some (length f.held) else None
depth_on_this insn target f = None

-- a rule forbids the section of a method that runs it so by one instruction: it breaks the rule, or
-- it calls what does or recurs
pub data Forbids (p : Program) (tags : Tagged) (uses : Uses) (mode : Mode) (mi i : ℕ) : ℕ
    → Type 0 where
  breaks : (n : ℕ) → BreaksAt p tags uses (callee mi mode) i n → Forbids p tags uses mode mi i n
  calls : (first : Callee) → Calls p tags (callee mi mode) i first → LeadsToBreak p tags uses first
      → Forbids p tags uses mode mi i 6
  recurs : (first : Callee) → Calls p tags (callee mi mode) i first → LeadsToItself p tags first
      → Forbids p tags uses mode mi i 7

-- the first such rule; 0 where there is none
pub record IsGrade (p : Program) (tags : Tagged) (uses : Uses) (mode : Mode) (mi i n : ℕ)
    : Type 0 where
  pub forbids : 0 < n → Forbids p tags uses mode mi i n
  pub first : (k : ℕ) → Forbids p tags uses mode mi i k → (0 < n) × (n ≤ k)

pub record AreGrades (p : Program) (tags : Tagged) (uses : Uses) (mode : Mode) (mi : ℕ)
    (m : MethodInfo) (grades : List ℕ) : Type 0 where
  pub long : length grades ≡ length m.code
  pub each : (i : ℕ) → i < length m.code → IsGrade p tags uses mode mi i (slice_index grades i)

-- a section of a method
abbrev pub section_in : ℕ → Spot → Section
section_in mi spot = record { method = mi; spot = spot }

-- ---- blocks

-- n is the first rule from 1 to 7 of some, or 0
pub record IsFirstOf (IsOne : ℕ → Type 0) (rule : ℕ → ℕ) (n : ℕ) : Type 0 where
  pub some : 0 < n → (i : ℕ) × (IsOne i) × (rule i ≡ n)
  pub first : (i : ℕ) → IsOne i → 0 < rule i → rule i ≤ 7 → (0 < n) × (n ≤ rule i)

-- what the block of a `monitorenter` has for its mark: 8 where it is not on this, else the first
-- rule that forbids one of its own instructions
abbrev pub IsBlockMark : MethodInfo → List (Option TagShape) → List ℕ → (enter : ℕ) → Option ℕ → ℕ
    → Type 0
IsBlockMark m frames grades enter None n = n ≡ 8
IsBlockMark m frames grades enter (Some depth) n =
    IsFirstOf (IsInside m frames depth enter) (λ i. slice_index grades i) n

abbrev pub entry_depth_at : MethodInfo → List (Option TagShape) → ℕ → Option ℕ
entry_depth_at m frames i =
    depth_on_this (slice_get m.code i) (slice_get m.targets i) (slice_get frames i)

-- ---- marks, section by section

-- what marks the sections that are left completes the marks of all
abbrev pub Continues : Program → Tagged → Uses → (all rest : List Section) → List SectionMark
    → Type 0
Continues p tags uses all rest marks =
    (more : List SectionMark) → AllZip (IsMarkOf p tags uses) rest more
    → AllZip (IsMarkOf p tags uses) all (marks ++ more)

-- some sections are marked, whatever was before them and is behind them
abbrev pub Marks : Program → Tagged → Uses → List Section → (old new : List SectionMark) → Type 0
Marks p tags uses some old new =
    (all rest : List Section) → Continues p tags uses all (some ++ rest) old
    → Continues p tags uses all rest new

abbrev pub sections_at : ℕ → Option Insn → List Section
sections_at mi None = []
sections_at mi (Some insn) = map (section_in mi) (option_to_list (block_at insn.pc insn.op))

abbrev pub whole_of : MethodInfo → List Spot
whole_of m = if is_synchronized m.flags then Method ∷ [] else []

-- the blocks that begin at the first instructions of a code are marked
abbrev pub MarksUpTo : Program → Tagged → Uses → ℕ → List Insn → ℕ → (old new : List SectionMark)
    → Type 0
MarksUpTo p tags uses mi code i old new =
    (all rest : List Section)
    → Continues p tags uses all
    (map (section_in mi) (filter_map (λ insn. block_at insn.pc insn.op) code) ++ rest) old
    → Continues p tags uses all
    (map (section_in mi) (filter_map (λ insn. block_at insn.pc insn.op) (drop i code)) ++ rest)
    new
