-- Frozen classes and frozen fields, and fields that are guarded by the monitor of their object or
-- of their class.
use Rattle.std.specs.Prelude.{◌≡◌, ◌<◌, ◌⊎◌, ℕ, Bool, true, false, not, ◌&&◌, ◌||◌, ◌==◌, List}
use Rattle.std.specs.Prelude.{length, Option, Some, None, slice_get, slice_index_or}
use Rattle.std.specs.List.{list_any}
use Rattle.jvm_types.specs.declared.class_numbers.TheConstants.{OBJECT_CLASS}
use Rattle.jvm_types.specs.CodeTable.{is_init}
use Rattle.jvm_types.specs.Members.{is_private, is_static, is_final, is_synchronized}
use Rattle.jvm_types.specs.Members.{is_class_init_name}
use Rattle.jvm_types.specs.declared.code.Insn.{Insn}
use Rattle.jvm_types.specs.declared.code.Op.{Op}
use Rattle.jvm_types.specs.declared.code.Op.TheVariants as ops
use Rattle.jvm_types.specs.declared.program.Target.{Target}
use Rattle.jvm_types.specs.declared.program.Target.TheVariants as targets
use Rattle.jvm_types.specs.declared.program.FieldInfo.{FieldInfo}
use Rattle.jvm_types.specs.declared.program.MethodInfo.{MethodInfo}
use Rattle.jvm_types.specs.declared.program.Program.{Program}
use Rattle.checked_program.specs.LockTags.{TagShape, is_this, entry_tags}
use Rattle.checked_program.specs.TaggedCode.{Tagged, IsAt, Goes, row_of}
use Rattle.checked_program.specs.declared.tag.Tag.{Tag}
use Rattle.checked_program.specs.declared.tag.Tag.TheVariants.{Untagged, This}
use Rattle.checked_program.specs.declared.section.FieldUse.{FieldUse}
use Rattle.checked_program.specs.declared.section.FieldUse.TheVariants.{Frozen, Guarded, Open}

-- ---- frozen classes: no constructor lets its object out

abbrev pub is_field_of : ℕ → Option FieldInfo → Bool
is_field_of c None = false
is_field_of c (Some field) = field.class == c

-- an instruction of an `<init>` of the class may take `this` at a place counted from the top of the
-- stack
abbrev pub may_take : Program → ℕ → Op → Target → ℕ → Bool
may_take p c (ops.Stack move) target k = true
may_take p c (ops.Getfield i) (targets.Field fi) k =
    (k == 0) && is_field_of c (slice_get p.fields fi)
may_take p c (ops.Putfield i) (targets.Field fi) k =
    (k == 1) && is_field_of c (slice_get p.fields fi)
may_take p c (ops.Invokespecial i) (targets.Init class) k = (k == 0) && (class == OBJECT_CLASS)
may_take p c op target k = false

-- an instruction takes what its row pops
abbrev pub TakesWell : Program → MethodInfo → Insn → Target → TagShape → Type 0
TakesWell p m insn target f =
    (k : ℕ) → k < length (row_of p m insn target).takes → slice_index_or f.stack k Untagged ≡ This
    → may_take p m.class insn.op target k ≡ true

-- no place with `this` is joined to one without
abbrev pub KeepThis : List Tag → List Tag → Type 0
KeepThis ts us = (k : ℕ) → slice_index_or ts k Untagged ≡ This → slice_index_or us k Untagged ≡ This

pub record KeepsThis (f g : TagShape) : Type 0 where
  pub stack : KeepThis f.stack g.stack
  pub locals : KeepThis f.locals g.locals

-- a final field of the class is written on `this` alone
abbrev pub is_final_of : ℕ → Option FieldInfo → Bool
is_final_of c None = false
is_final_of c (Some field) = field.class == c && is_final field.flags

abbrev pub PutsOnThis : Program → MethodInfo → Op → Target → TagShape → Type 0
PutsOnThis p m (ops.Putfield i) (targets.Field fi) f =
    is_final_of m.class (slice_get p.fields fi) ≡ true → slice_index_or f.stack 1 Untagged ≡ This
PutsOnThis p m op target f = Unit {0}

-- an `<init>` that lets its object nowhere; its entry counts as an edge to pc 0
pub record KeepsInside (p : Program) (tags : Tagged) (mi : ℕ) (m : MethodInfo) : Type 0 where
  pub taken : (i : ℕ) (insn : Insn) (target : Target) (f : TagShape)
      → IsAt p tags mi i m insn target f → TakesWell p m insn target f
  pub entered : (insn : Insn) (target : Target) (f : TagShape) → IsAt p tags mi 0 m insn target f
      → KeepsThis (entry_tags m) f
  pub joined : (i j : ℕ) (insn other : Insn) (target next : Target) (f g h : TagShape)
      → IsAt p tags mi i m insn target f → IsAt p tags mi j m other next g
      → Goes p m insn target f other h → KeepsThis h g
  pub finals : (i : ℕ) (insn : Insn) (target : Target) (f : TagShape)
      → IsAt p tags mi i m insn target f → PutsOnThis p m insn.op target f

abbrev pub IsFrozenClass : Program → Tagged → ℕ → Type 0
IsFrozenClass p tags c =
    (mi : ℕ) (m : MethodInfo) → slice_get p.methods mi ≡ Some m → m.class ≡ c → is_init m ≡ true
    → KeepsInside p tags mi m

-- ---- fields

-- a final instance field of a frozen class
pub record IsFrozenField (p : Program) (tags : Tagged) (fi : ℕ) : Type 0 where
  pub field : FieldInfo
  pub is : slice_get p.fields fi ≡ Some field
  pub final : is_final field.flags ≡ true
  pub instance : is_static field.flags ≡ false
  pub frozen : IsFrozenClass p tags field.class

-- a final static field: the `<clinit>` of its class alone writes it (JVMS 6.5, `putstatic`)
pub record IsFrozenStatic (p : Program) (fi : ℕ) : Type 0 where
  pub field : FieldInfo
  pub is : slice_get p.fields fi ≡ Some field
  pub final : is_final field.flags ≡ true
  pub static : is_static field.flags ≡ true

-- a method whose frames hold the monitor of their receiver, or that of their class (JVMS 2.11.10)
abbrev pub locks_this : MethodInfo → Bool
locks_this m = is_synchronized m.flags && not (is_static m.flags)

abbrev pub locks_class : MethodInfo → Bool
locks_class m = is_synchronized m.flags && is_static m.flags

-- an instruction of an `<init>`, of a synchronized instance method, or where the monitor of `this`
-- is held
abbrev pub stands_guarded : MethodInfo → TagShape → Bool
stands_guarded m f = is_init m || (list_any is_this f.held || locks_this m)

-- where a field may be written: on `this`, by such an instruction
abbrev pub WritesGuarded : MethodInfo → TagShape → Type 0
WritesGuarded m f = (slice_index_or f.stack 1 Untagged ≡ This) × (stands_guarded m f ≡ true)

abbrev pub PutsGuarded : ℕ → MethodInfo → Op → Target → TagShape → Type 0
PutsGuarded fi m (ops.Putfield i) (targets.Field other) f = other ≡ fi → WritesGuarded m f
PutsGuarded fi m op target f = Unit {0}

-- a private instance field of a frozen class, not final, with such writes alone
pub record IsGuardedField (p : Program) (tags : Tagged) (fi : ℕ) : Type 0 where
  pub field : FieldInfo
  pub is : slice_get p.fields fi ≡ Some field
  pub private : is_private field.flags ≡ true
  pub changes : is_final field.flags ≡ false
  pub instance : is_static field.flags ≡ false
  pub frozen : IsFrozenClass p tags field.class
  pub written : (mi i : ℕ) (m : MethodInfo) (insn : Insn) (target : Target) (f : TagShape)
      → IsAt p tags mi i m insn target f → PutsGuarded fi m insn.op target f

-- where a static field of a class may be written: in its `<clinit>`, or in a static synchronized
-- method of it
abbrev pub writes_class : (class : ℕ) → MethodInfo → Bool
writes_class class m = (m.class == class) && (is_class_init_name m.name || locks_class m)

abbrev pub PutsStatic : (fi class : ℕ) → MethodInfo → Op → Target → Type 0
PutsStatic fi class m (ops.Putstatic i) (targets.Field other) =
    other ≡ fi → writes_class class m ≡ true
PutsStatic fi class m op target = Unit {0}

-- a private static field, not final, with such writes alone
pub record IsGuardedStatic (p : Program) (tags : Tagged) (fi : ℕ) : Type 0 where
  pub field : FieldInfo
  pub is : slice_get p.fields fi ≡ Some field
  pub private : is_private field.flags ≡ true
  pub changes : is_final field.flags ≡ false
  pub static : is_static field.flags ≡ true
  pub written : (mi i : ℕ) (m : MethodInfo) (insn : Insn) (target : Target) (f : TagShape)
      → IsAt p tags mi i m insn target f → PutsStatic fi field.class m insn.op target

-- what a section may read of every object and class, and what of its own alone
abbrev pub IsFrozenUse : Program → Tagged → ℕ → Type 0
IsFrozenUse p tags fi = IsFrozenField p tags fi ⊎ IsFrozenStatic p fi

abbrev pub IsGuardedUse : Program → Tagged → ℕ → Type 0
IsGuardedUse p tags fi = IsGuardedField p tags fi ⊎ IsGuardedStatic p tags fi

abbrev pub IsUse : Program → Tagged → ℕ → FieldUse → Type 0
IsUse p tags fi Frozen = IsFrozenUse p tags fi
IsUse p tags fi Guarded = IsGuardedUse p tags fi
IsUse p tags fi Open = (IsFrozenUse p tags fi → ⊥) × (IsGuardedUse p tags fi → ⊥)

-- how each field of the program may be read
pub record AreFieldUses (p : Program) (tags : Tagged) (uses : List FieldUse) : Type 0 where
  pub long : length uses ≡ length p.fields
  pub each : (fi : ℕ) (u : FieldUse) → slice_get uses fi ≡ Some u → IsUse p tags fi u
