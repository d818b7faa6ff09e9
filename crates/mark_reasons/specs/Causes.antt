-- What keeps a section from a place that an instruction reads, where that breaks M5.
use Rattle.std.specs.Prelude.{◌≡◌, ◌<◌, ◌⊎◌, ℕ, Bool, true, false, ◌==◌, List, length, Option, Some}
use Rattle.std.specs.Prelude.{None, slice_get, slice_index_or}
use Rattle.jvm_types.specs.Members.{is_private, is_static, is_final}
use Rattle.jvm_types.specs.declared.code.Insn.{Insn}
use Rattle.jvm_types.specs.declared.code.Op.{Op}
use Rattle.jvm_types.specs.declared.code.Op.TheVariants as ops
use Rattle.jvm_types.specs.declared.program.FieldInfo.{FieldInfo}
use Rattle.jvm_types.specs.declared.program.MethodInfo.{MethodInfo}
use Rattle.jvm_types.specs.declared.program.Program.{Program}
use Rattle.jvm_types.specs.declared.program.Target.{Target}
use Rattle.jvm_types.specs.declared.program.Target.TheVariants as targets
use Rattle.checked_program.specs.FrozenPlaces.{IsFrozenClass, IsGuardedUse, PutsGuarded, PutsStatic}
use Rattle.checked_program.specs.LockTags.{TagShape}
use Rattle.checked_program.specs.Marks.{Callee, is_own_object, is_own_class, class_of_field}
use Rattle.checked_program.specs.TaggedCode.{Tagged, IsAt}
use Rattle.checked_program.specs.declared.tag.Tag.{Tag}
use Rattle.checked_program.specs.declared.tag.Tag.TheVariants.{Untagged}
use Rattle.checked_program.specs.declared.tag.Tags.{Tags}
use Rattle.checked_program.specs.declared.section.Mode.{Mode}
use Rattle.frozen_classes.specs.FrozenClasses.{IsFirstOut}
use Rattle.guard_analysis.specs.FieldUses.{unguarded_at}
use Rattle.mark_reasons.specs.ArrayCauses.{IsArrayMemo, KeepsElement}
use Rattle.mark_reasons.specs.Firsts.{IsFirst}
use Rattle.mark_reasons.specs.declared.cause.Cause.{Cause}
use Rattle.mark_reasons.specs.declared.cause.Cause.TheVariants as causes
use Rattle.mark_reasons.specs.declared.cause.ReadPlace.{ReadPlace}
use Rattle.mark_reasons.specs.declared.cause.ReadPlace.TheVariants as places
use Rattle.mark_reasons.specs.declared.cause_memo.{CauseMemo.CauseMemo, FieldMemo.FieldMemo}

-- ---- the place that an instruction reads

abbrev pub place_read : Op → Target → Option ReadPlace
place_read ops.Iaload target = Some places.Element
place_read (ops.Getstatic i) (targets.Field fi) = Some (places.Static fi)
place_read (ops.Getfield i) (targets.Field fi) = Some (places.Field fi)
place_read op target = None

abbrev pub place_at : Option Insn → Option Target → Option ReadPlace
place_at (Some insn) (Some target) = place_read insn.op target
place_at insn target = None

abbrev pub site_place : Option MethodInfo → ℕ → Option ReadPlace
site_place None i = None
site_place (Some m) i = place_at (slice_get m.code i) (slice_get m.targets i)

-- ---- writes without the guard of a field

-- a reached instruction writes a field where it may not be written
pub record WritesUnguarded (p : Program) (tags : Tagged) (fi mi i : ℕ) : Type 0 where
  pub field : FieldInfo
  pub is : slice_get p.fields fi ≡ Some field
  pub m : MethodInfo
  pub insn : Insn
  pub target : Target
  pub f : TagShape
  pub at : IsAt p tags mi i m insn target f
  pub unguarded : PutsGuarded fi m insn.op target f × PutsStatic fi field.class m insn.op target → ⊥

-- the first such write, by the numbers of methods and of instructions
pub record IsFirstWrite (p : Program) (tags : Tagged) (fi mi at : ℕ) : Type 0 where
  pub writes : WritesUnguarded p tags fi mi at
  pub before : (j : ℕ) → j < at → WritesUnguarded p tags fi mi j → ⊥
  pub earlier : (u i : ℕ) → u < mi → WritesUnguarded p tags fi u i → ⊥

-- ---- what keeps a place from being read

-- a field of a frozen class that only its flags or its writes keep from being guarded
pub record IsMutableField (p : Program) (tags : Tagged) (field : FieldInfo) : Type 0 where
  pub instance : is_static field.flags ≡ false
  pub frozen : IsFrozenClass p tags field.class
  pub changes : is_final field.flags ≡ false

-- and a static field
pub record IsMutableStatic (field : FieldInfo) : Type 0 where
  pub static : is_static field.flags ≡ true
  pub changes : is_final field.flags ≡ false

abbrev pub IsMutable : Program → Tagged → FieldInfo → Type 0
IsMutable p tags field = IsMutableField p tags field ⊎ IsMutableStatic field

-- a field is read of no object and of no class: the first of these that holds of it
abbrev pub BarsField : Program → Tagged → ℕ → FieldInfo → Cause → Type 0
BarsField p tags fi field (causes.Constructor mi) =
    (is_static field.flags ≡ false) × IsFirstOut p tags field.class (Some mi)
BarsField p tags fi field causes.Shared = IsMutable p tags field × (is_private field.flags ≡ false)
BarsField p tags fi field (causes.Write mi at) =
    IsMutable p tags field × (is_private field.flags ≡ true) × IsFirstWrite p tags fi mi at
BarsField p tags fi field cause = ⊥

abbrev pub Bars : Program → Tagged → ℕ → Cause → Type 0
Bars p tags fi cause =
    (field : FieldInfo) × (slice_get p.fields fi ≡ Some field) × BarsField p tags fi field cause

-- of the section's own object or of another one, where it is guarded
abbrev pub KeepsField : Program → Tagged → ℕ → (own : Bool) → Cause → Type 0
KeepsField p tags fi own causes.Other = (own ≡ false) × IsGuardedUse p tags fi
KeepsField p tags fi own cause = Bars p tags fi cause

-- a static field, of the section's own class or not
abbrev pub KeepsStatic : Program → Tagged → ℕ → (own : Bool) → Cause → Type 0
KeepsStatic p tags fi own causes.Static = own ≡ false
KeepsStatic p tags fi own cause = (own ≡ true) × Bars p tags fi cause

-- in a method that is called so, with these tags of its stack
abbrev pub KeepsPlace : Program → Tagged → Mode → MethodInfo → (i : ℕ) → List Tag → Option ReadPlace
    → Cause → Type 0
KeepsPlace p tags mode m i stack (Some places.Element) cause = KeepsElement p tags mode m i cause
KeepsPlace p tags mode m i stack (Some (places.Static fi)) cause =
    KeepsStatic p tags fi (is_own_class mode (class_of_field (slice_get p.fields fi))) cause
KeepsPlace p tags mode m i stack (Some (places.Field fi)) cause =
    KeepsField p tags fi (is_own_object mode (slice_index_or stack 0 Untagged)) cause
KeepsPlace p tags mode m i stack None cause = ⊥

-- what the instruction i of a method reads is kept from being read by this
pub record IsCause (p : Program) (tags : Tagged) (a : Callee) (i : ℕ) (cause : Cause) : Type 0 where
  pub m : MethodInfo
  pub insn : Insn
  pub target : Target
  pub f : TagShape
  pub at : IsAt p tags a.method i m insn target f
  pub keeps : KeepsPlace p tags a.mode m i f.stack (place_read insn.op target) cause

-- ---- how it is found

abbrev pub is_number : Option ℕ → ℕ → Bool
is_number None n = false
is_number (Some k) n = k == n

-- an instruction writes a field without its guard
abbrev pub writes_at : Program → MethodInfo → List (Option TagShape) → (fi i : ℕ) → Bool
writes_at p m frames fi i =
    is_number (unguarded_at p m (slice_get m.code i) (slice_get m.targets i) (slice_get frames i))
    fi

-- the first such instruction of a method with its tags
abbrev pub IsFirstWriteOf : Program → ℕ → Option MethodInfo → Option Tags → Option ℕ → Type 0
IsFirstWriteOf p fi (Some m) (Some t) found =
    IsFirst (writes_at p m t.frames fi) (length m.code) found
IsFirstWriteOf p fi m t found = found ≡ None

-- of all methods
abbrev pub IsWriteFound : Program → Tagged → ℕ → Option Cause → Type 0
IsWriteFound p tags fi None = (mi i : ℕ) → WritesUnguarded p tags fi mi i → ⊥
IsWriteFound p tags fi (Some (causes.Write mi at)) = IsFirstWrite p tags fi mi at
IsWriteFound p tags fi (Some cause) = ⊥

-- ---- what was found so far: of each field what keeps it from being read, or that nobody asked

pub record IsFieldMemo (p : Program) (tags : Tagged) (memo : FieldMemo) : Type 0 where
  pub long : length memo.causes.items ≡ length p.fields
  pub each : (fi : ℕ) (cause : Cause) → slice_get memo.causes.items fi ≡ Some (Some cause)
      → Bars p tags fi cause

-- and of each what keeps its arrays
pub record IsCauseMemo (p : Program) (tags : Tagged) (memo : CauseMemo) : Type 0 where
  pub arrays : IsArrayMemo p tags memo.arrays
  pub fields : IsFieldMemo p tags memo.fields
