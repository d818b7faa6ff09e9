-- The stages of loading: what each of them answers, and how far its loops are.
use Rattle.std.specs.Prelude.{◌≡◌, ℕ, ◌+◌, List, ◌++◌, length, drop, Option, Some, IsSomeAnd}
use Rattle.std.specs.List.{AllZip}
use Rattle.std.specs.Option.{option_map}
use Rattle.jvm_types.specs.ReadingClass.{class_fault}
use Rattle.jvm_types.specs.ClassGrammar.{Spells}
use Rattle.jvm_types.specs.CodeFault.{code_fault}
use Rattle.jvm_types.specs.Members.{Declared, declared_from, declared_methods}
use Rattle.jvm_types.specs.Linkable.{IsDecoded}
use Rattle.jvm_types.specs.LinkFaults.{in_file, in_method, link_fault, IsLinked}
use Rattle.jvm_types.specs.Verifying.{IsTypingOf, IsRefused}
use Rattle.checked_program.specs.Tagging.{IsTaggingOf, IsTagRefused}
use Rattle.checked_program.specs.declared.tag.Tags.{Tags}
use Rattle.jvm_types.specs.declared.class_file.Code.{Code}
use Rattle.jvm_types.specs.declared.class_file.ClassFile.{ClassFile}
use Rattle.jvm_types.specs.declared.code.Insn.{Insn}
use Rattle.jvm_types.specs.declared.program.MethodInfo.{MethodInfo}
use Rattle.jvm_types.specs.declared.program.Program.{Program}
use Rattle.jvm_types.specs.declared.typing.Typing.{Typing}
use Rattle.jvm_types.specs.declared.refusal.Rule.{Rule}
use Rattle.jvm_types.specs.declared.refusal.Rule.TheVariants as rules
use Rattle.jvm_types.specs.declared.refusal.LRule.{LRule}
use Rattle.jvm_types.specs.declared.refusal.Place.{Place}
use Rattle.class_runner.specs.Loading.{read_fault, decode_fault, IsFirstRefused, IsFirstUntyped}
use Rattle.class_runner.specs.Loading.{IsFirstUntagged}
use Rattle.class_runner.specs.declared.loading.FileError.{FileError}
use Rattle.class_runner.specs.declared.loading.FileError.TheVariants as errors

-- ---- C: reading

-- the fault of one file
abbrev pub file_fault : ℕ → List ℕ → Option (Rule × Place)
file_fault file bytes = option_map (λ f. (rules.C f.0, in_file file f.1)) (class_fault bytes)

-- memory ran out, or this is the fault
abbrev pub IsClassUnread : Option (Rule × Place) → FileError → Type 0
IsClassUnread fault errors.Memory = Unit {0}
IsClassUnread fault (errors.Refused (rules.C rule) place) = fault ≡ Some (rules.C rule, place)
IsClassUnread fault e = ⊥

-- the files before this one spell these classes
pub record AreReadSoFar (files : List (List ℕ)) (file : ℕ) (classes : List ClassFile) : Type 0 where
  pub whole : (rest : List ClassFile) → AllZip Spells (drop file files) rest
      → AllZip Spells files (classes ++ rest)
  pub fault : read_fault file (drop file files) ≡ read_fault 0 files

-- ---- K: decoding

-- the methods of one class
abbrev pub own_methods : ℕ → ClassFile → List Declared
own_methods file c = declared_from file c.constants 0 c.methods

-- the fault of one method's code
abbrev pub method_code_fault : (file place : ℕ) → Code → Option (Rule × Place)
method_code_fault file place code =
    option_map (λ f. (rules.K f.0, in_method file place f.1)) (code_fault code.bytes code.rows)

-- memory ran out, or this is the fault
abbrev pub IsUndecoded : Option (Rule × Place) → FileError → Type 0
IsUndecoded fault errors.Memory = Unit {0}
IsUndecoded fault (errors.Refused (rules.K rule) place) = fault ≡ Some (rules.K rule, place)
IsUndecoded fault e = ⊥

-- the methods before those that are left have these instructions
pub record AreDecodedSoFar (left all : List Declared) (code : List (List Insn)) : Type 0 where
  pub whole : (rest : List (List Insn)) → AllZip IsDecoded left rest
      → AllZip IsDecoded all (code ++ rest)
  pub fault : decode_fault left ≡ decode_fault all

-- ---- L: linking

-- the classes have code, and are linked to a program
pub record IsLinkedFrom (classes : List ClassFile) (heap workers : ℕ) (p : Program) : Type 0 where
  pub code : List (List Insn)
  pub decoded : AllZip IsDecoded (declared_methods classes) code
  pub linked : IsLinked classes code heap workers p

-- they have code, and linking refuses them
pub record IsRefusedLink (classes : List ClassFile) (heap workers : ℕ) (rule : LRule)
    (place : Place) : Type 0 where
  pub code : List (List Insn)
  pub decoded : AllZip IsDecoded (declared_methods classes) code
  pub fault : link_fault classes code heap workers ≡ Some (rule, place)

-- memory ran out, or the classes have no code, or linking refuses them
abbrev pub IsUnlinkedFrom : List ClassFile → (heap workers : ℕ) → FileError → Type 0
IsUnlinkedFrom classes heap workers errors.Memory = Unit {0}
IsUnlinkedFrom classes heap workers (errors.Refused (rules.K rule) place) =
    decode_fault (declared_methods classes) ≡ Some (rules.K rule, place)
IsUnlinkedFrom classes heap workers (errors.Refused (rules.L rule) place) =
    IsRefusedLink classes heap workers rule place
IsUnlinkedFrom classes heap workers e = ⊥

-- ---- checks of methods, one by one

-- the methods before those that are left have these
pub record AreFoundSoFar {T R : Type 0} (has : MethodInfo → T → Type 0)
    (refuses : MethodInfo → R → ℕ → Type 0) (methods : List MethodInfo) (left all : List Declared)
    (found : List T) : Type 0 where
  pub whole : (rest : List T) → AllZip has (drop (length found) methods) rest
      → AllZip has methods (found ++ rest)
  pub refused : (rule : R) (place : Place)
      → IsFirstRefused has refuses rule left (drop (length found) methods) place
      → IsFirstRefused has refuses rule all methods place
  pub long : length found + length left ≡ length methods

-- ---- V: verifying

-- the typing of a method that is there
abbrev pub IsTypedAt : Program → Option MethodInfo → Typing → Type 0
IsTypedAt p m t = IsSomeAnd m (λ x. IsTypingOf p x t)

-- memory ran out, or the method, which has this number in its class in this file, has no typing
abbrev pub IsUntypedAt : Program → Option MethodInfo → (file number : ℕ) → FileError → Type 0
IsUntypedAt p m file number errors.Memory = Unit {0}
IsUntypedAt p m file number (errors.Refused (rules.V rule) place) =
    IsSomeAnd m (λ x. IsRefused p x rule place.at) × (place ≡ in_method file number place.at)
IsUntypedAt p m file number e = ⊥

-- memory ran out, or this is the first of these methods that has no typing
abbrev pub IsUnverified : Program → List Declared → List MethodInfo → FileError → Type 0
IsUnverified p ds ms errors.Memory = Unit {0}
IsUnverified p ds ms (errors.Refused (rules.V rule) place) = IsFirstUntyped p ds ms rule place
IsUnverified p ds ms e = ⊥

-- the methods before those that are left have these typings
abbrev pub AreTypedSoFar : Program → (left all : List Declared) → List Typing → Type 0
AreTypedSoFar p left all typings =
    AreFoundSoFar (IsTypingOf p) (IsRefused p) p.methods left all typings

-- ---- S: tagging

-- the lock tags of a method that is there
abbrev pub IsTaggedAt : Program → Option MethodInfo → Tags → Type 0
IsTaggedAt p m t = IsSomeAnd m (λ x. IsTaggingOf p x t)

-- memory ran out, or the method, which has this number in its class in this file, has no tags
abbrev pub IsUntaggedAt : Program → Option MethodInfo → (file number : ℕ) → FileError → Type 0
IsUntaggedAt p m file number errors.Memory = Unit {0}
IsUntaggedAt p m file number (errors.Refused (rules.S rule) place) =
    IsSomeAnd m (λ x. IsTagRefused p x rule place.at) × (place ≡ in_method file number place.at)
IsUntaggedAt p m file number e = ⊥

-- memory ran out, or this is the first of these methods that has no tags
abbrev pub IsNotTagged : Program → List Declared → List MethodInfo → FileError → Type 0
IsNotTagged p ds ms errors.Memory = Unit {0}
IsNotTagged p ds ms (errors.Refused (rules.S rule) place) = IsFirstUntagged p ds ms rule place
IsNotTagged p ds ms e = ⊥

-- the methods before those that are left have these tags
abbrev pub AreTaggedSoFar : Program → (left all : List Declared) → List Tags → Type 0
AreTaggedSoFar p left all tags =
    AreFoundSoFar (IsTaggingOf p) (IsTagRefused p) p.methods left all tags
