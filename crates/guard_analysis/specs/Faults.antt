-- What the instructions of a method break, one after the other, and what the methods break that
-- they call.
use Rattle.std.specs.Prelude.{◌≡◌, ◌<◌, ◌↔◌, ◌/◌, ℕ, zero, suc, Bool, true, false, ◌||◌, nat_lt}
use Rattle.std.specs.Prelude.{if◌then◌else◌, List, [], ◌∷◌, ◌++◌, length, Option, Some, None}
use Rattle.std.specs.Prelude.{slice_get, slice_index_or}
use Rattle.jvm_types.specs.Members.{is_synchronized}
use Rattle.jvm_types.specs.declared.code.Insn.{Insn}
use Rattle.jvm_types.specs.declared.program.Target.{Target}
use Rattle.jvm_types.specs.declared.program.MethodInfo.{MethodInfo}
use Rattle.jvm_types.specs.declared.program.Program.{Program}
use Rattle.checked_program.specs.LockTags.{TagShape}
use Rattle.checked_program.specs.TaggedCode.{Tagged}
use Rattle.checked_program.specs.OwnedArrays.{reads_owned}
use Rattle.checked_program.specs.Sections.{mode_of_method}
use Rattle.checked_program.specs.Marks.{Callee, CallsThrough, CallsItself, BreaksAt, section_fault}
use Rattle.checked_program.specs.declared.tag.Tags.{Tags}
use Rattle.checked_program.specs.declared.section.Mode.{Mode}
use Rattle.checked_program.specs.declared.section.Mode.TheVariants.{OnClass}
use Rattle.checked_program.specs.declared.section.Uses.{Uses}
use Rattle.guard_analysis.specs.CallGraph.{node_of, mode_at, call_at}

-- ---- rules that a method breaks

abbrev pub fault_at : Program → Uses → (mi i : ℕ) → Mode → Option Insn → Option Target
    → Option (Option TagShape) → ℕ
fault_at p uses mi i mode (Some insn) (Some target) (Some (Some f)) =
    section_fault p uses.fields mode insn.op target f.stack (reads_owned uses mi i)
fault_at p uses mi i mode insn target f = 0

abbrev pub breaks_before : Program → Uses → (mi : ℕ) → MethodInfo → List (Option TagShape) → Mode
    → ℕ → Bool
breaks_before p uses mi m frames mode zero = false
breaks_before p uses mi m frames mode (suc i) =
    breaks_before p uses mi m frames mode i
    || nat_lt 0 (fault_at p uses mi i mode (slice_get m.code i) (slice_get m.targets i)
    (slice_get frames i))

abbrev pub node_breaks : Program → Uses → (mi : ℕ) → Option MethodInfo → Option Tags → Mode → Bool
node_breaks p uses mi (Some m) (Some t) mode =
    breaks_before p uses mi m t.frames mode (length m.code)
node_breaks p uses mi m t mode = false

abbrev pub breaking_nodes : Program → Uses → List Tags → (class : ℕ) → ℕ → List Bool
breaking_nodes p uses tags class zero = []
breaking_nodes p uses tags class (suc a) =
    breaking_nodes p uses tags class a
    ++ node_breaks p uses (a / 3) (slice_get p.methods (a / 3)) (slice_get tags (a / 3))
    (mode_at class a) ∷ []

-- ---- what calls lead to

-- a chain of calls leads to a method that breaks a rule
pub record LeadsToBreak (p : Program) (tags : Tagged) (uses : Uses) (first : Callee) : Type 0 where
  pub called : Callee
  pub over : List Callee
  pub through : CallsThrough p tags first over called
  pub i : ℕ
  pub n : ℕ
  pub breaks : BreaksAt p tags uses called i n

-- a chain of calls leads to a method that calls itself
pub record LeadsToItself (p : Program) (tags : Tagged) (first : Callee) : Type 0 where
  pub called : Callee
  pub over : List Callee
  pub through : CallsThrough p tags first over called
  pub recurs : CallsItself p tags called.method

-- a node stands for the methods that sections on this class call
abbrev pub IsModeFor : (class : ℕ) → Mode → Type 0
IsModeFor class (OnClass c) = c ≡ class
IsModeFor class mode = Unit {0}

-- of each node, by its number
pub record AreCallees (p : Program) (tags : Tagged) (uses : Uses) (class : ℕ)
    (breaks recurs : List Bool) : Type 0 where
  pub broken : (b : Callee) → IsModeFor class b.mode → b.method < length p.methods
      → (slice_index_or breaks (node_of b) false ≡ true) ↔ LeadsToBreak p tags uses b
  pub again : (b : Callee) → b.method < length p.methods
      → (slice_index_or recurs (node_of b) false ≡ true) ↔ LeadsToItself p tags b

-- the section of a synchronized method runs it as the nodes stand for
abbrev pub FitsMethod : (class : ℕ) → MethodInfo → Type 0
FitsMethod class m = is_synchronized m.flags ≡ true → IsModeFor class (mode_of_method (Some m))

-- ---- the first rule that forbids an instruction of a section, or 0

abbrev pub grade_of : ℕ → Option ℕ → List Bool → List Bool → ℕ
grade_of zero None breaks recurs = 0
grade_of zero (Some b) breaks recurs =
    if slice_index_or breaks b false then 6 else if slice_index_or recurs b false then 7 else 0
grade_of (suc n) call breaks recurs = suc n

abbrev pub grade_at : Program → Uses → List Bool → List Bool → Mode → (mi : ℕ) → MethodInfo
    → List (Option TagShape) → ℕ → ℕ
grade_at p uses breaks recurs mode mi m frames i =
    grade_of (fault_at p uses mi i mode (slice_get m.code i) (slice_get m.targets i)
    (slice_get frames i))
    (call_at p mode (slice_get m.code i) (slice_get m.targets i) (slice_get frames i)) breaks
    recurs

abbrev pub grades_before : Program → Uses → List Bool → List Bool → Mode → (mi : ℕ) → MethodInfo
    → List (Option TagShape) → ℕ → List ℕ
grades_before p uses breaks recurs mode mi m frames zero = []
grades_before p uses breaks recurs mode mi m frames (suc i) =
    grades_before p uses breaks recurs mode mi m frames i
    ++ grade_at p uses breaks recurs mode mi m frames i ∷ []
