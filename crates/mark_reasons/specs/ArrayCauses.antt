-- What keeps a section from an element that an instruction reads, where that breaks M5: the first
-- instruction that counts against the field from which the array was read.
use Rattle.std.specs.Prelude.{◌≡◌, ◌<◌, ℕ, Bool, true, false, ◌==◌, List, length, Option, Some}
use Rattle.std.specs.Prelude.{None, slice_get}
use Rattle.jvm_types.specs.declared.program.FieldInfo.{FieldInfo}
use Rattle.jvm_types.specs.declared.program.MethodInfo.{MethodInfo}
use Rattle.jvm_types.specs.declared.program.Program.{Program}
use Rattle.checked_program.specs.FrozenPlaces.{IsFrozenClass}
use Rattle.checked_program.specs.LockTags.{TagShape}
use Rattle.checked_program.specs.TaggedCode.{Tagged}
use Rattle.checked_program.specs.declared.section.Mode.{Mode}
use Rattle.checked_program.specs.declared.section.Mode.TheVariants.{OnThis}
use Rattle.frozen_classes.specs.FrozenClasses.{IsFirstOut}
use Rattle.guard_analysis.specs.ArrayFaults.{IsFirstAgainst, IsReadFrom}
use Rattle.guard_analysis.specs.declared.array_faults.Against.{Against}
use Rattle.guard_analysis.specs.declared.array_faults.Misuse.{Misuse}
use Rattle.mark_reasons.specs.declared.cause.Cause.{Cause}
use Rattle.mark_reasons.specs.declared.cause.Cause.TheVariants as causes
use Rattle.mark_reasons.specs.declared.cause_memo.FieldMemo.{FieldMemo}

-- ---- what counts against a field of a class, in a method of that class

abbrev pub IsMisuseIf : (own : Bool) → Program → (fi : ℕ) → MethodInfo → List (Option TagShape)
    → Option Against → Type 0
IsMisuseIf true p fi m tags found = IsFirstAgainst p m tags fi found
IsMisuseIf false p fi m tags found = found ≡ None

abbrev pub IsMisuseOf : Program → (class fi : ℕ) → Option MethodInfo
    → Option (List (Option TagShape)) → Option Against → Type 0
IsMisuseOf p class fi (Some m) (Some tags) found = IsMisuseIf (m.class == class) p fi m tags found
IsMisuseOf p class fi m tags found = found ≡ None

abbrev pub IsMisuseIn : Program → Tagged → (class fi mi : ℕ) → Option Against → Type 0
IsMisuseIn p tags class fi mi found =
    IsMisuseOf p class fi (slice_get p.methods mi) (slice_get tags mi) found

-- the first in the order of methods and of instructions
pub record IsFirstMisuse (p : Program) (tags : Tagged) (class fi mi at : ℕ) (misuse : Misuse)
    : Type 0 where
  pub here : IsMisuseIn p tags class fi mi (Some (record { at = at; misuse = misuse }))
  pub earlier : (u : ℕ) → u < mi → IsMisuseIn p tags class fi u None

abbrev pub IsNeverMisused : Program → Tagged → (class fi : ℕ) → Type 0
IsNeverMisused p tags class fi =
    (u : ℕ) → u < length p.methods → IsMisuseIn p tags class fi u None

abbrev pub IsMisuseFound : Program → Tagged → (class fi : ℕ) → Option Cause → Type 0
IsMisuseFound p tags class fi None = IsNeverMisused p tags class fi
IsMisuseFound p tags class fi (Some (causes.Misused misuse mi at)) =
    IsFirstMisuse p tags class fi mi at misuse
IsMisuseFound p tags class fi (Some cause) = ⊥

-- ---- an element

-- of an array that was read from a field: a constructor of its class, or what counts against it
abbrev pub KeepsArrays : Program → Tagged → (fi : ℕ) → Option FieldInfo → Cause → Type 0
KeepsArrays p tags fi (Some field) (causes.Constructor mi) =
    IsFirstOut p tags field.class (Some mi)
KeepsArrays p tags fi (Some field) (causes.Misused misuse mi at) =
    IsFrozenClass p tags field.class × IsFirstMisuse p tags field.class fi mi at misuse
KeepsArrays p tags fi field cause = ⊥

abbrev pub KeepsArrayFrom : Program → Tagged → Option ℕ → Cause → Type 0
KeepsArrayFrom p tags None cause = cause ≡ causes.Element
KeepsArrayFrom p tags (Some fi) cause = KeepsArrays p tags fi (slice_get p.fields fi) cause

-- of an array that was read from some field, or from none that is known
pub record KeepsElementOfThis (p : Program) (tags : Tagged) (m : MethodInfo) (i : ℕ) (cause : Cause)
    : Type 0 where
  pub from : Option ℕ
  pub read : IsReadFrom p m i from
  pub keeps : KeepsArrayFrom p tags from cause

-- a section on its class, and a method that is called off `this`, have no array of their own
abbrev pub KeepsElement : Program → Tagged → Mode → MethodInfo → (i : ℕ) → Cause → Type 0
KeepsElement p tags OnThis m i cause = KeepsElementOfThis p tags m i cause
KeepsElement p tags mode m i cause = cause ≡ causes.Element

-- ---- what was found so far: of each field what keeps its arrays, or that nobody asked

pub record IsArrayMemo (p : Program) (tags : Tagged) (memo : FieldMemo) : Type 0 where
  pub long : length memo.causes.items ≡ length p.fields
  pub each : (fi : ℕ) (cause : Cause) → slice_get memo.causes.items fi ≡ Some (Some cause)
      → KeepsArrays p tags fi (slice_get p.fields fi) cause
