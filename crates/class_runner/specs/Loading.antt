-- What files are loaded to, and why files are refused: first as classes, file by file; then their
-- methods as code; then their names, in linking; and then their methods, in verifying and in
-- tagging.
use Rattle.std.specs.Prelude.{◌≡◌, ◌⊎◌, ℕ, ◌+◌, List, [], ◌∷◌, Option, Some, None}
use Rattle.std.specs.List.{AllZip}
use Rattle.std.specs.Option.{option_map, option_or}
use Rattle.jvm_types.specs.ClassGrammar.{Spells}
use Rattle.jvm_types.specs.ReadingClass.{class_fault}
use Rattle.jvm_types.specs.CodeFault.{code_fault}
use Rattle.jvm_types.specs.Members.{Declared, declared_methods}
use Rattle.jvm_types.specs.Linked.{code_of}
use Rattle.jvm_types.specs.Linkable.{IsDecoded}
use Rattle.jvm_types.specs.LinkFaults.{link_fault, in_file, in_method, IsLinked}
use Rattle.jvm_types.specs.Verifying.{IsTypingOf, IsRefused}
use Rattle.checked_program.specs.CheckedProgram.{AreTypings}
use Rattle.checked_program.specs.MarkedProgram.{MarkedProgram, AreTaggings}
use Rattle.checked_program.specs.Marks.{AreMarks}
use Rattle.checked_program.specs.TaggedCode.{tagged_by}
use Rattle.checked_program.specs.Tagging.{IsTaggingOf, IsTagRefused}
use Rattle.checked_program.specs.declared.tag.Tags.{Tags}
use Rattle.jvm_types.specs.declared.class_file.ClassFile.{ClassFile}
use Rattle.jvm_types.specs.declared.code.Insn.{Insn}
use Rattle.jvm_types.specs.declared.program.MethodInfo.{MethodInfo}
use Rattle.jvm_types.specs.declared.program.Program.{Program}
use Rattle.jvm_types.specs.declared.typing.Typing.{Typing}
use Rattle.jvm_types.specs.declared.refusal.Rule.{Rule}
use Rattle.jvm_types.specs.declared.refusal.Rule.TheVariants as rules
use Rattle.jvm_types.specs.declared.refusal.LRule.{LRule}
use Rattle.jvm_types.specs.declared.refusal.VRule.{VRule}
use Rattle.jvm_types.specs.declared.refusal.SRule.{SRule}
use Rattle.jvm_types.specs.declared.refusal.Place.{Place}
use Rattle.class_runner.specs.declared.loading.FileError.{FileError}
use Rattle.class_runner.specs.declared.loading.FileError.TheVariants as errors

-- ---- what is loaded

-- the bytes of some files spell these classes, whose methods have these instructions, in order of
-- files and methods
pub record AreRead (files : List (List ℕ)) (classes : List ClassFile) (code : List (List Insn))
    : Type 0 where
  pub spelled : AllZip Spells files classes
  pub decoded : AllZip IsDecoded (declared_methods classes) code

-- they are linked to a program, and each method of that has its typing and its lock tags
pub record ArePassed (classes : List ClassFile) (code : List (List Insn)) (heap workers : ℕ)
    (p : Program) (typings : List Typing) (tags : List Tags) : Type 0 where
  pub linked : IsLinked classes code heap workers p
  pub typed : AreTypings p p.methods typings
  pub tagged : AreTaggings p p.methods tags

-- and each section of it has its mark
pub record AreChecked (classes : List ClassFile) (code : List (List Insn)) (heap workers : ℕ)
    (c : MarkedProgram) : Type 0 where
  pub passed : ArePassed classes code heap workers c.program c.typings c.tags
  pub marked : AreMarks c.program (tagged_by c.tags) c.marks

-- what some files are loaded to
pub record IsLoaded (files : List (List ℕ)) (heap workers : ℕ) (c : MarkedProgram) : Type 0 where
  pub classes : List ClassFile
  pub code : List (List Insn)
  pub read : AreRead files classes code
  pub checked : AreChecked classes code heap workers c

-- all rules let the files pass
pub record IsAccepted (files : List (List ℕ)) (heap workers : ℕ) : Type 0 where
  pub classes : List ClassFile
  pub code : List (List Insn)
  pub program : Program
  pub typings : List Typing
  pub tags : List Tags
  pub read : AreRead files classes code
  pub passed : ArePassed classes code heap workers program typings tags

-- ---- why files are refused

-- the first file that spells no class: its first fault, and the file, counted from a number on
abbrev pub read_fault : ℕ → List (List ℕ) → Option (Rule × Place)
read_fault file [] = None
read_fault file (bytes ∷ files) =
    option_or (option_map (λ f. (rules.C f.0, in_file file f.1)) (class_fault bytes))
    (read_fault (file + 1) files)

-- the first method that has no code: its first fault
abbrev pub decode_fault : List Declared → Option (Rule × Place)
decode_fault [] = None
decode_fault (d ∷ ds) =
    option_or (option_map (λ f. (rules.K f.0, in_method d.file d.place f.1))
    (code_fault (code_of d.member.attrs).bytes (code_of d.member.attrs).rows)) (decode_fault ds)

-- the first method that a check refuses, by a rule at a pc; those before it have what the check
-- finds
abbrev pub IsFirstRefused : {T R : Type 0}
    → (has : MethodInfo → T → Type 0) (refuses : MethodInfo → R → ℕ → Type 0) → R → List Declared
    → List MethodInfo → Place → Type 0
IsFirstRefused {T = T} has refuses rule (d ∷ ds) (m ∷ ms) place =
    (refuses m rule place.at × (place ≡ in_method d.file d.place place.at))
    ⊎ ((t : T) × has m t × IsFirstRefused has refuses rule ds ms place)
IsFirstRefused has refuses rule ds ms place = ⊥

-- the first method that has no typing: the rule that a visit breaks, and the pc
abbrev pub IsFirstUntyped : Program → List Declared → List MethodInfo → VRule → Place → Type 0
IsFirstUntyped p ds ms rule place = IsFirstRefused (IsTypingOf p) (IsRefused p) rule ds ms place

-- the first method that has no lock tags, in the same way
abbrev pub IsFirstUntagged : Program → List Declared → List MethodInfo → SRule → Place → Type 0
IsFirstUntagged p ds ms rule place =
    IsFirstRefused (IsTaggingOf p) (IsTagRefused p) rule ds ms place

-- linking refuses them
pub record IsUnlinked (files : List (List ℕ)) (heap workers : ℕ) (rule : LRule) (place : Place)
    : Type 0 where
  pub classes : List ClassFile
  pub code : List (List Insn)
  pub read : AreRead files classes code
  pub fault : link_fault classes code heap workers ≡ Some (rule, place)

-- the methods of their program are not all typed
pub record IsUntyped (files : List (List ℕ)) (heap workers : ℕ) (rule : VRule) (place : Place)
    : Type 0 where
  pub classes : List ClassFile
  pub code : List (List Insn)
  pub program : Program
  pub read : AreRead files classes code
  pub linked : IsLinked classes code heap workers program
  pub first : IsFirstUntyped program (declared_methods classes) program.methods rule place

-- the methods of their program are all typed, and not all tagged
pub record IsUntagged (files : List (List ℕ)) (heap workers : ℕ) (rule : SRule) (place : Place)
    : Type 0 where
  pub classes : List ClassFile
  pub code : List (List Insn)
  pub program : Program
  pub typings : List Typing
  pub read : AreRead files classes code
  pub linked : IsLinked classes code heap workers program
  pub typed : AreTypings program program.methods typings
  pub first : IsFirstUntagged program (declared_methods classes) program.methods rule place

-- The rule that refuses some files, and the place that it names. Each stage is looked at only where
-- those before it let the files pass.
abbrev pub IsRefusedBy : List (List ℕ) → (heap workers : ℕ) → Rule → Place → Type 0
IsRefusedBy files heap workers (rules.C rule) place =
    read_fault 0 files ≡ Some (rules.C rule, place)
IsRefusedBy files heap workers (rules.K rule) place =
    (classes : List ClassFile) × AllZip Spells files classes
    × (decode_fault (declared_methods classes) ≡ Some (rules.K rule, place))
IsRefusedBy files heap workers (rules.L rule) place = IsUnlinked files heap workers rule place
IsRefusedBy files heap workers (rules.V rule) place = IsUntyped files heap workers rule place
IsRefusedBy files heap workers (rules.S rule) place = IsUntagged files heap workers rule place
IsRefusedBy files heap workers (rules.A rule) place = ⊥

-- memory ran out, or this refuses the files
abbrev pub IsNotLoaded : List (List ℕ) → (heap workers : ℕ) → FileError → Type 0
IsNotLoaded files heap workers errors.Memory = Unit {0}
IsNotLoaded files heap workers (errors.Refused rule place) =
    IsRefusedBy files heap workers rule place
