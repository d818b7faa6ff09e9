-- How each field may be read: what its class, its flags and the writes of all instructions say.
use Rattle.std.specs.Prelude.{◌-◌, ℕ, zero, suc, Bool, true, false, not, ◌&&◌, ◌||◌, nat_lt}
use Rattle.std.specs.Prelude.{if◌then◌else◌, List, [], ◌∷◌, ◌++◌, length, replicate, Option, Some}
use Rattle.std.specs.Prelude.{None, slice_get, slice_set, slice_index_or}
use Rattle.jvm_types.specs.ClassNames.{file_class}
use Rattle.jvm_types.specs.Members.{is_private, is_static, is_final}
use Rattle.jvm_types.specs.declared.code.Insn.{Insn}
use Rattle.jvm_types.specs.declared.code.Op.{Op}
use Rattle.jvm_types.specs.declared.code.Op.TheVariants as ops
use Rattle.jvm_types.specs.declared.program.Target.{Target}
use Rattle.jvm_types.specs.declared.program.Target.TheVariants as targets
use Rattle.jvm_types.specs.declared.program.FieldInfo.{FieldInfo}
use Rattle.jvm_types.specs.declared.program.MethodInfo.{MethodInfo}
use Rattle.jvm_types.specs.declared.program.Program.{Program}
use Rattle.checked_program.specs.LockTags.{TagShape, is_this}
use Rattle.checked_program.specs.FrozenPlaces.{stands_guarded, writes_class}
use Rattle.checked_program.specs.declared.tag.Tag.TheVariants.{Untagged}
use Rattle.checked_program.specs.declared.tag.Tags.{Tags}
use Rattle.checked_program.specs.declared.section.FieldUse.{FieldUse}
use Rattle.checked_program.specs.declared.section.FieldUse.TheVariants.{Frozen, Guarded, Open}

-- ---- writes

abbrev pub writes_guarded : MethodInfo → TagShape → Bool
writes_guarded m f = is_this (slice_index_or f.stack 1 Untagged) && stands_guarded m f

-- a static field of a class; none of none
abbrev pub writes_class_of : Option FieldInfo → MethodInfo → Bool
writes_class_of None m = false
writes_class_of (Some field) m = writes_class field.class m

abbrev pub unless_guarded : Bool → ℕ → Option ℕ
unless_guarded true fi = None
unless_guarded false fi = Some fi

-- the field that an instruction writes without its guard
abbrev pub unguarded_write : Program → MethodInfo → Op → Target → TagShape → Option ℕ
unguarded_write p m (ops.Putfield i) (targets.Field fi) f = unless_guarded (writes_guarded m f) fi
unguarded_write p m (ops.Putstatic i) (targets.Field fi) f =
    unless_guarded (writes_class_of (slice_get p.fields fi) m) fi
unguarded_write p m op target f = None

-- the same of an instruction with its target and its tags
abbrev pub unguarded_at : Program → MethodInfo → Option Insn → Option Target
    → Option (Option TagShape) → Option ℕ
unguarded_at p m (Some insn) (Some target) (Some (Some f)) = unguarded_write p m insn.op target f
unguarded_at p m insn target f = None

-- a field noted among all
abbrev pub field_noted : List Bool → Option ℕ → List Bool
field_noted flags None = flags
field_noted flags (Some fi) = if nat_lt fi (length flags) then slice_set flags fi true else flags

-- with the fields that the first instructions of a method write so
abbrev pub noted_before : Program → MethodInfo → List (Option TagShape) → List Bool → ℕ → List Bool
noted_before p m frames flags zero = flags
noted_before p m frames flags (suc i) =
    field_noted (noted_before p m frames flags i)
    (unguarded_at p m (slice_get m.code i) (slice_get m.targets i) (slice_get frames i))

abbrev pub noted_in : Program → Option MethodInfo → Option Tags → List Bool → List Bool
noted_in p (Some m) (Some t) flags = noted_before p m t.frames flags (length m.code)
noted_in p m t flags = flags

-- those that the first methods write so
abbrev pub unguarded_before : Program → List Tags → ℕ → List Bool
unguarded_before p tags zero = replicate (length p.fields) false
unguarded_before p tags (suc u) =
    noted_in p (slice_get p.methods u) (slice_get tags u) (unguarded_before p tags u)

-- ---- uses

abbrev pub use_by : FieldInfo → (frozen unguarded : Bool) → FieldUse
use_by field frozen unguarded =
    if not (is_static field.flags) && not frozen then Open else if is_final field.flags then Frozen
    else if is_private field.flags && not unguarded then Guarded else Open

-- whether a class is one of the flagged files
abbrev pub class_flag : List Bool → ℕ → Bool
class_flag flags class =
    if nat_lt class (file_class 0) then false else slice_index_or flags (class - file_class 0) false

abbrev pub use_at : Option FieldInfo → List Bool → Bool → FieldUse
use_at None frozen unguarded = Open
use_at (Some field) frozen unguarded = use_by field (class_flag frozen field.class) unguarded

-- those of the first fields
abbrev pub uses_before : List FieldInfo → (frozen unguarded : List Bool) → ℕ → List FieldUse
uses_before fields frozen unguarded zero = []
uses_before fields frozen unguarded (suc fi) =
    uses_before fields frozen unguarded fi
    ++ use_at (slice_get fields fi) frozen (slice_index_or unguarded fi false) ∷ []
