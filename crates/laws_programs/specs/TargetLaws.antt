-- What the constant of an instruction names is there, and the row of the instruction is the one of
-- what is named: never the empty row that the table has where nothing fits.
use Rattle.std.specs.Prelude.{◌≡◌, ℕ, Bool, true, false, [], ◌∷◌, Option, Some, slice_get}
use Rattle.jvm_types.specs.declared.class_numbers.TheConstants.{OBJECT_CLASS, PRINT_STREAM_CLASS}
use Rattle.jvm_types.specs.ClassNames.{can_be_made, has_built_in_init}
use Rattle.jvm_types.specs.CodeTable.{an_int, stack_row, get_static_row, put_static_row, get_row}
use Rattle.jvm_types.specs.CodeTable.{put_row, virtual_row, special_row, static_row, row}
use Rattle.jvm_types.specs.declared.op_row.Want.TheVariants.{AnInt, AnObject, ToStart}
use Rattle.jvm_types.specs.declared.op_row.Given.TheVariants.{Fresh}
use Rattle.jvm_types.specs.declared.op_row.OpRow.{OpRow}
use Rattle.jvm_types.specs.Members.{is_static, MethodSite, fits_call}
use Rattle.jvm_types.specs.declared.call.Call.{Call}
use Rattle.jvm_types.specs.declared.call.Call.TheVariants.{Virtual, Special, Static}
use Rattle.jvm_types.specs.ProgramInvariant.{IsClassOf, IsTargetOf, site_in}
use Rattle.jvm_types.specs.declared.code.Op.{Op}
use Rattle.jvm_types.specs.declared.code.Op.TheVariants.{Ldc, LdcW, Getstatic, Putstatic, Getfield}
use Rattle.jvm_types.specs.declared.code.Op.TheVariants.{Putfield, Invokevirtual, Invokespecial}
use Rattle.jvm_types.specs.declared.code.Op.TheVariants.{Invokestatic, New}
use Rattle.jvm_types.specs.declared.program.FieldInfo.{FieldInfo}
use Rattle.jvm_types.specs.declared.program.MethodInfo.{MethodInfo}
use Rattle.jvm_types.specs.declared.program.Program.{Program}
use Rattle.jvm_types.specs.declared.program.Target.{Target}
use Rattle.jvm_types.specs.declared.program.Target.TheVariants as targets
use Rattle.jvm_types.specs.declared.typing.VType.TheVariants as types

-- whether an instruction has a constant
abbrev pub has_constant : Op → Bool
has_constant (Ldc i) = true
has_constant (LdcW i) = true
has_constant (Getstatic i) = true
has_constant (Putstatic i) = true
has_constant (Getfield i) = true
has_constant (Putfield i) = true
has_constant (Invokevirtual i) = true
has_constant (Invokespecial i) = true
has_constant (Invokestatic i) = true
has_constant (New i) = true
has_constant op = false

-- there is a field with this number, static or not, and this is its row
pub record NamesField (p : Program) (number : ℕ) (static : Bool) (row_of : Option FieldInfo → OpRow)
    (r : OpRow) : Type 0 where
  pub field : FieldInfo
  pub there : slice_get p.fields number ≡ Some field
  pub sort : is_static field.flags ≡ static
  pub its : r ≡ row_of (Some field)

-- there is a method with this number, which such a call may name, and this is its row
pub record NamesMethod (p : Program) (site : MethodSite) (number : ℕ) (call : Call) (static : Bool)
    (row_of : Option MethodInfo → OpRow) (r : OpRow) : Type 0 where
  pub method : MethodInfo
  pub there : slice_get p.methods number ≡ Some method
  pub fits : fits_call call site method.class method.name method.flags ≡ true
  pub sort : is_static method.flags ≡ static
  pub its : r ≡ row_of (Some method)

-- the row of an instruction of a site, at a pc, by what its constant names; no other target goes
-- with an instruction
abbrev pub HasRow : Program → MethodSite → (pc : ℕ) → Target → Op → OpRow → Type 0
HasRow p site pc (targets.Value n) (Ldc i) r = r ≡ stack_row [] (an_int ∷ [])
HasRow p site pc (targets.Value n) (LdcW i) r = r ≡ stack_row [] (an_int ∷ [])
HasRow p site pc (targets.Class class) (New i) r =
    (r ≡ stack_row [] (Fresh (types.New pc) ∷ [])) × IsClassOf p class × (can_be_made class ≡ true)
HasRow p site pc (targets.Field number) (Getstatic i) r = NamesField p number true get_static_row r
HasRow p site pc (targets.Field number) (Putstatic i) r = NamesField p number true put_static_row r
HasRow p site pc (targets.Field number) (Getfield i) r = NamesField p number false get_row r
HasRow p site pc (targets.Field number) (Putfield i) r = NamesField p number false put_row r
HasRow p site pc (targets.Method number) (Invokevirtual i) r =
    NamesMethod p site number Virtual false virtual_row r
HasRow p site pc (targets.Method number) (Invokespecial i) r =
    NamesMethod p site number Special false special_row r
HasRow p site pc (targets.Method number) (Invokestatic i) r =
    NamesMethod p site number Static true static_row r
HasRow p site pc (targets.Init class) (Invokespecial i) r =
    (r ≡ stack_row (ToStart class ∷ []) []) × (has_built_in_init class ≡ true)
HasRow p site pc targets.Out (Getstatic i) r =
    r ≡ stack_row [] (Fresh (types.Ref PRINT_STREAM_CLASS) ∷ [])
HasRow p site pc targets.Println (Invokevirtual i) r =
    r ≡ stack_row (AnInt ∷ AnObject PRINT_STREAM_CLASS ∷ []) []
HasRow p site pc targets.Wait (Invokevirtual i) r = r ≡ stack_row (AnObject OBJECT_CLASS ∷ []) []
HasRow p site pc targets.Notify (Invokevirtual i) r = r ≡ stack_row (AnObject OBJECT_CLASS ∷ []) []
HasRow p site pc targets.NotifyAll (Invokevirtual i) r =
    r ≡ stack_row (AnObject OBJECT_CLASS ∷ []) []
HasRow p site pc targets.Nothing op r = has_constant op ≡ false
HasRow p site pc target op r = ⊥

-- what a target that fits its instruction names is there, and the row is the one of that
abbrev pub TargetsHaveRows : Type 0
TargetsHaveRows =
    (p : Program) (m : MethodInfo) (pc : ℕ) (target : Target) (op : Op)
    → IsTargetOf p (site_in m) op target
    → HasRow p (site_in m) pc target op (row p m pc target op)
