-- The fields that instructions of a program name: one for static fields names such a field, one for instance fields does not.
use Rattle.std.proofs.{Common.{◌≡◌, ℕ, Bool, true, false, Option, Some, sym, ◌∙◌, subst, slice_get}, lemmas.Option.same_Some}
use Rattle.jvm_types.specs.{CodeTable.{get_row, get_static_row, put_row, put_static_row}, Members.is_static, ProgramInvariant.{IsProgram, IsTargetOf, site_in}, declared.code.Insn.Insn}
use Rattle.jvm_types.specs.declared.{op_row.OpRow.OpRow, program.{FieldInfo.FieldInfo, MethodInfo.MethodInfo, Program.Program, Target.Target}}
use Rattle.laws_programs.{specs.TargetLaws.NamesField, proofs.{CodeOrder.have_targets, TargetRows.targets_rows}}
use Rattle.checked_program.specs.{LockTags.TagShape, TaggedCode.{Tagged, IsAt}}
use Rattle.jvm_types.specs.declared.code.Op.TheVariants as ops
use Rattle.jvm_types.specs.declared.program.Target.TheVariants as targets

pub target_named : (p : Program) (tags : Tagged) (mi i : ℕ) (m : MethodInfo) (insn : Insn) (target : Target) (f : TagShape) → IsProgram p → IsAt p tags mi i m insn target f → IsTargetOf p (site_in m) insn.op target
target_named p tags mi i m insn target f program at =
    let fits = have_targets p mi i m insn program at.in_program at.in_code in
    subst (λ (t : Target). IsTargetOf p (site_in m) insn.op t) (same_Some fits.0 target (sym fits.1 ∙ at.names)) fits.2

-- a field is static, or it is not
abbrev pub HasSort : Program → ℕ → Bool → Type 0
HasSort p fi static = (field : FieldInfo) → slice_get p.fields fi ≡ Some field → is_static field.flags ≡ static

has_sort : (p : Program) (fi : ℕ) (static : Bool) (row_of : Option FieldInfo → OpRow) (r : OpRow) → NamesField p fi static row_of r → HasSort p fi static
has_sort p fi static row_of r n field e = subst (λ (x : FieldInfo). is_static x.flags ≡ static) (same_Some n.field field (sym n.there ∙ e)) n.sort

pub sort_read : (p : Program) (m : MethodInfo) (i fi : ℕ) → IsTargetOf p (site_in m) (ops.Getfield i) (targets.Field fi) → HasSort p fi false
sort_read p m i fi named = has_sort p fi false get_row _ (targets_rows p m 0 (targets.Field fi) (ops.Getfield i) named)

pub sort_read_static : (p : Program) (m : MethodInfo) (i fi : ℕ) → IsTargetOf p (site_in m) (ops.Getstatic i) (targets.Field fi) → HasSort p fi true
sort_read_static p m i fi named = has_sort p fi true get_static_row _ (targets_rows p m 0 (targets.Field fi) (ops.Getstatic i) named)

pub sort_written : (p : Program) (m : MethodInfo) (i fi : ℕ) → IsTargetOf p (site_in m) (ops.Putfield i) (targets.Field fi) → HasSort p fi false
sort_written p m i fi named = has_sort p fi false put_row _ (targets_rows p m 0 (targets.Field fi) (ops.Putfield i) named)

pub sort_written_static : (p : Program) (m : MethodInfo) (i fi : ℕ) → IsTargetOf p (site_in m) (ops.Putstatic i) (targets.Field fi) → HasSort p fi true
sort_written_static p m i fi named = has_sort p fi true put_static_row _ (targets_rows p m 0 (targets.Field fi) (ops.Putstatic i) named)
