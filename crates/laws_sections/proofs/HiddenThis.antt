-- What an `<init>` of a frozen class does with `this`: an instruction takes it nowhere but where it stays known.
use Rattle.std.proofs.Common.{◌≡◌, ℕ, suc, ◌<◌, true, false, List, [], ◌∷◌, ◌++◌, length, Option, Some, None, refl, sym, ◌∙◌, subst, arith, length-append, reverse, slice_get, slice_index_or, IsSomeAnd}
use Rattle.std.proofs.lemmas.List.{length-map, length-reverse}
use Rattle.jvm_types.specs.{CodeTable.{row, want_of, arguments, put_row, put_static_row, virtual_row, special_row, static_row}, Members.{field_rule, call_rule}, ProgramInvariant.{IsTargetOf, site_in}}
use Rattle.jvm_types.specs.declared.{call.Call.TheVariants.{Virtual, Special}, code.Op.Op, op_row.Want.Want, program.{FieldInfo.FieldInfo, MethodInfo.MethodInfo, Program.Program, Target.Target}}
use Rattle.laws_programs.proofs.CodeOrder.{have_targets}
use Rattle.checked_program.specs.{FrozenPlaces.may_take, Marks.args_of, ObjectLaws.{HidesThis, FrozenLaw}, declared.tag.Tag.{Tag, TheVariants.{Untagged, This}}}
use Rattle.jvm_types.specs.declared.code.Op.TheVariants as ops
use Rattle.jvm_types.specs.declared.program.Target.TheVariants as targets

-- ---- how many values a row takes

pub long_arguments : (called : MethodInfo) → length (arguments called) ≡ length called.args
long_arguments called = length-map (reverse called.args) want_of ∙ length-reverse called.args

-- the values taken, with the receiver behind them
pub with_receiver : (called : MethodInfo) (receiver : Want) → length (arguments called ++ receiver ∷ []) ≡ suc (length called.args)
with_receiver called receiver = omega (arith, length-append (arguments called) (receiver ∷ []), long_arguments called)

put_takes : (o : Option FieldInfo) (P : FieldInfo → Type 0) → IsSomeAnd o P → length (put_row o).takes ≡ 2
put_takes None P h = absurd h
put_takes (Some field) P h = refl

put_static_takes : (o : Option FieldInfo) (P : FieldInfo → Type 0) → IsSomeAnd o P → length (put_static_row o).takes ≡ 1
put_static_takes None P h = absurd h
put_static_takes (Some field) P h = refl

virtual_takes : (o : Option MethodInfo) (P : MethodInfo → Type 0) → IsSomeAnd o P → length (virtual_row o).takes ≡ suc (args_of o)
virtual_takes None P h = absurd h
virtual_takes (Some called) P h = with_receiver called _

special_takes : (o : Option MethodInfo) (P : MethodInfo → Type 0) → IsSomeAnd o P → length (special_row o).takes ≡ suc (args_of o)
special_takes None P h = absurd h
special_takes (Some called) P h = with_receiver called _

static_takes : (o : Option MethodInfo) → length (static_row o).takes ≡ args_of o
static_takes None = refl
static_takes (Some called) = long_arguments called

-- ---- one instruction

module _ (p : Program) (m : MethodInfo) (pc : ℕ) (stack : List Tag) where
  abbrev Takes : Op → Target → Type 0
  Takes op target = (k : ℕ) → k < length (row p m pc target op).takes → slice_index_or stack k Untagged ≡ This → may_take p m.class op target k ≡ true

  hides : (op : Op) (target : Target) → IsTargetOf p (site_in m) op target → Takes op target → HidesThis p op target stack
  hides (ops.Putfield i) (targets.Field fi) t w = λ e. let two = put_takes (slice_get p.fields fi) (λ f. field_rule false true (site_in m) f.class f.flags ≡ None) t in let bad : false ≡ true = w 0 (omega (arith, two)) e in cc
  hides (ops.Putfield i) target t w = absurd t
  hides (ops.Putstatic i) (targets.Field fi) t w = λ e. let one = put_static_takes (slice_get p.fields fi) (λ f. field_rule true true (site_in m) f.class f.flags ≡ None) t in let bad : false ≡ true = w 0 (omega (arith, one)) e in cc
  hides (ops.Putstatic i) target t w = absurd t
  hides (ops.Astore i) target t w = λ e. let bad : false ≡ true = w 0 (omega arith) e in cc
  hides (ops.Invokevirtual i) (targets.Method u) t w = λ k l e. let n = virtual_takes (slice_get p.methods u) (λ called. call_rule Virtual (site_in m) called.class called.name called.flags ≡ None) t in let bad : false ≡ true = w k (omega (arith, n, l)) e in cc
  hides (ops.Invokevirtual i) targets.Println t w = λ e. let bad : false ≡ true = w 0 (omega arith) e in cc
  hides (ops.Invokevirtual i) targets.Wait t w = λ e. let bad : false ≡ true = w 0 (omega arith) e in cc
  hides (ops.Invokevirtual i) targets.Notify t w = λ e. let bad : false ≡ true = w 0 (omega arith) e in cc
  hides (ops.Invokevirtual i) targets.NotifyAll t w = λ e. let bad : false ≡ true = w 0 (omega arith) e in cc
  hides (ops.Invokevirtual i) target t w = absurd t
  hides (ops.Invokespecial i) (targets.Method u) t w = λ k l e. let n = special_takes (slice_get p.methods u) (λ called. call_rule Special (site_in m) called.class called.name called.flags ≡ None) t in let bad : false ≡ true = w k (omega (arith, n, l)) e in cc
  hides (ops.Invokestatic i) (targets.Method u) t w = λ k l e. let n = static_takes (slice_get p.methods u) in let bad : false ≡ true = w k (omega (arith, n, l)) e in cc
  hides ops.Areturn target t w = λ e. let bad : false ≡ true = w 0 (omega arith) e in cc
  hides ops.Athrow target t w = λ e. let bad : false ≡ true = w 0 (omega arith) e in cc
  hides ops.Monitorenter target t w = λ e. let bad : false ≡ true = w 0 (omega arith) e in cc
  hides ops.Monitorexit target t w = λ e. let bad : false ≡ true = w 0 (omega arith) e in cc
  hides (ops.IfAcmpeq to) target t w = ((λ e. let bad : false ≡ true = w 0 (omega arith) e in cc), (λ e. let bad : false ≡ true = w 1 (omega arith) e in cc))
  hides (ops.IfAcmpne to) target t w = ((λ e. let bad : false ≡ true = w 0 (omega arith) e in cc), (λ e. let bad : false ≡ true = w 1 (omega arith) e in cc))
  hides op target t w = tt

pub frozen_law : FrozenLaw
frozen_law p tags mi i m insn target f program at init frozen =
    let fits : (t : Target) × (slice_get m.targets i ≡ Some t) × IsTargetOf p (site_in m) insn.op t = have_targets p mi i m insn program at.in_program at.in_code in
    let same : fits.0 ≡ target = (let e : Some fits.0 ≡ Some target = sym fits.1 ∙ at.names in cc) in
    hides p m insn.pc f.stack insn.op target (subst (λ t. IsTargetOf p (site_in m) insn.op t) same fits.2) ((frozen mi m at.in_program refl init).taken i insn target f at)
