-- Array fields whose arrays never leave their objects: the object made each array, no place and no
-- method has it besides, and its elements are written under the object's monitor.
use Rattle.std.specs.Prelude.{◌≡◌, ◌<◌, ◌↔◌, ℕ, suc, Bool, true, false, ◌||◌, ◌==◌, List, []}
use Rattle.std.specs.Prelude.{length, Some, slice_get, slice_index_or}
use Rattle.std.specs.List.{list_any, AllZip}
use Rattle.jvm_types.specs.Numbers.{has_number}
use Rattle.jvm_types.specs.CodeTable.{branches_to}
use Rattle.jvm_types.specs.Members.{is_private, is_static}
use Rattle.jvm_types.specs.declared.class_numbers.TheConstants.{INT_ARRAY_CLASS}
use Rattle.jvm_types.specs.declared.code.Insn.{Insn}
use Rattle.jvm_types.specs.declared.code.Op.{Op}
use Rattle.jvm_types.specs.declared.code.Op.TheVariants as ops
use Rattle.jvm_types.specs.declared.program.Kind.TheVariants as kinds
use Rattle.jvm_types.specs.declared.program.Target.{Target}
use Rattle.jvm_types.specs.declared.program.Target.TheVariants as targets
use Rattle.jvm_types.specs.declared.program.FieldInfo.{FieldInfo}
use Rattle.jvm_types.specs.declared.program.MethodInfo.{MethodInfo}
use Rattle.jvm_types.specs.declared.program.Program.{Program}
use Rattle.checked_program.specs.LockTags.{TagShape}
use Rattle.checked_program.specs.TaggedCode.{Tagged, IsAt, row_of}
use Rattle.checked_program.specs.FrozenPlaces.{IsFrozenClass, PutsGuarded, stands_guarded}
use Rattle.checked_program.specs.FrozenPlaces.{AreFieldUses}
use Rattle.checked_program.specs.Colours.{ColourShape, is_coloured, IsColouring}
use Rattle.checked_program.specs.declared.tag.Tag.TheVariants.{Untagged, This}
use Rattle.checked_program.specs.declared.section.Uses.{Uses}

-- ---- the field is read and written on `this` alone; a write is guarded besides (`PutsGuarded`)

abbrev pub GetsOnThis : (fi : ℕ) → Op → Target → TagShape → Type 0
GetsOnThis fi (ops.Getfield i) (targets.Field other) f =
    other ≡ fi → slice_index_or f.stack 0 Untagged ≡ This
GetsOnThis fi op target f = Unit {0}

-- ---- a new array is stored, and nothing else: the instruction stands right after a `newarray`,
-- and control comes to it from there alone. Branches of code that is not reached count too.

abbrev pub is_branched_to : MethodInfo → (pc : ℕ) → Bool
is_branched_to m pc =
    list_any (λ insn. has_number (branches_to insn.op) pc) m.code
    || list_any (λ handler. handler.handler == pc) m.rows

pub record StoresNew (m : MethodInfo) (i pc : ℕ) : Type 0 where
  pub before : ℕ
  pub follows : i ≡ suc before
  pub insn : Insn
  pub is : slice_get m.code before ≡ Some insn
  pub makes : insn.op ≡ ops.Newarray
  pub only : is_branched_to m pc ≡ false

abbrev pub PutsNew : (fi : ℕ) → MethodInfo → (i pc : ℕ) → Op → Target → Type 0
PutsNew fi m i pc (ops.Putfield n) (targets.Field other) = other ≡ fi → StoresNew m i pc
PutsNew fi m i pc op target = Unit {0}

-- ---- what was read from the field is used for its elements and its length alone

-- an instruction may take it at a place counted from the top of the stack
abbrev pub may_take_array : Op → (k : ℕ) → Bool
may_take_array ops.Iaload k = k == 1
may_take_array ops.Iastore k = k == 2
may_take_array ops.Arraylength k = true
may_take_array (ops.Stack move) k = true
may_take_array op k = false

-- an instruction takes what its row pops
abbrev pub TakesArrayWell : Program → MethodInfo → Insn → Target → ColourShape → Type 0
TakesArrayWell p m insn target colours =
    (k : ℕ) → k < length (row_of p m insn target).takes → is_coloured colours.stack k ≡ true
    → may_take_array insn.op k ≡ true

-- and an element is written where the field may be written
abbrev pub StoresGuarded : MethodInfo → Op → TagShape → ColourShape → Type 0
StoresGuarded m ops.Iastore f colours =
    is_coloured colours.stack 2 ≡ true → stands_guarded m f ≡ true
StoresGuarded m op f colours = Unit {0}

pub record UsesArrayWell (p : Program) (tags : Tagged) (mi fi : ℕ) : Type 0 where
  pub colours : ℕ → ColourShape
  pub colouring : IsColouring p tags mi fi colours
  pub taken : (i : ℕ) (m : MethodInfo) (insn : Insn) (target : Target) (f : TagShape)
      → IsAt p tags mi i m insn target f → TakesArrayWell p m insn target (colours i)
  pub stored : (i : ℕ) (m : MethodInfo) (insn : Insn) (target : Target) (f : TagShape)
      → IsAt p tags mi i m insn target f → StoresGuarded m insn.op f (colours i)

-- ---- the fields

-- a private instance field of type `int[]` of a frozen class, with such uses alone
pub record IsOwnedArrayField (p : Program) (tags : Tagged) (fi : ℕ) : Type 0 where
  pub field : FieldInfo
  pub is : slice_get p.fields fi ≡ Some field
  pub private : is_private field.flags ≡ true
  pub instance : is_static field.flags ≡ false
  pub array : field.kind ≡ kinds.Ref INT_ARRAY_CLASS
  pub frozen : IsFrozenClass p tags field.class
  pub read : (mi i : ℕ) (m : MethodInfo) (insn : Insn) (target : Target) (f : TagShape)
      → IsAt p tags mi i m insn target f → GetsOnThis fi insn.op target f
  pub written : (mi i : ℕ) (m : MethodInfo) (insn : Insn) (target : Target) (f : TagShape)
      → IsAt p tags mi i m insn target f → PutsGuarded fi m insn.op target f
  pub new : (mi i : ℕ) (m : MethodInfo) (insn : Insn) (target : Target) (f : TagShape)
      → IsAt p tags mi i m insn target f → PutsNew fi m i insn.pc insn.op target
  pub used : (mi : ℕ) (m : MethodInfo) → slice_get p.methods mi ≡ Some m → m.class ≡ field.class
      → UsesArrayWell p tags mi fi

-- a place of the stack before an instruction is coloured for such a field: it holds a value that
-- was read from it, on `this`
pub record IsOwnedAt (p : Program) (tags : Tagged) (mi i k : ℕ) : Type 0 where
  pub fi : ℕ
  pub owned : IsOwnedArrayField p tags fi
  pub colours : ℕ → ColourShape
  pub colouring : IsColouring p tags mi fi colours
  pub coloured : is_coloured (colours i).stack k ≡ true

-- ---- what sections may read

-- the instruction i of a method is reached, and reads an element of such an array
pub record ReadsOwned (p : Program) (tags : Tagged) (mi i : ℕ) : Type 0 where
  pub m : MethodInfo
  pub insn : Insn
  pub target : Target
  pub f : TagShape
  pub at : IsAt p tags mi i m insn target f
  pub reads : insn.op ≡ ops.Iaload
  pub owned : IsOwnedAt p tags mi i 1

abbrev pub reads_owned : Uses → (mi i : ℕ) → Bool
reads_owned uses mi i = slice_index_or (slice_index_or uses.elements mi []) i false

abbrev pub owns_arrays : Uses → (fi : ℕ) → Bool
owns_arrays uses fi = slice_index_or uses.owners fi false

-- how each field, which fields own their arrays, and which elements: a flag for each instruction of
-- each method
pub record AreUses (p : Program) (tags : Tagged) (uses : Uses) : Type 0 where
  pub fields : AreFieldUses p tags uses.fields
  pub few : length uses.owners ≡ length p.fields
  pub owners : (fi : ℕ) → (owns_arrays uses fi ≡ true) ↔ IsOwnedArrayField p tags fi
  pub long : AllZip (λ (m : MethodInfo) (flags : List Bool). length flags ≡ length m.code) p.methods
      uses.elements
  pub elements : (mi i : ℕ) → (reads_owned uses mi i ≡ true) ↔ ReadsOwned p tags mi i
