use Rattle.std.proofs.{Common.{Err, sym, subst, ap, ◌∙◌, slice_get}, lemmas.Result.err_from_is_err_and}
use Rattle.jvm_types.specs.{CodeTable.row, declared.program.MethodInfo.MethodInfo}
use Rattle.monitor_tags.{specs.Visiting.TagsPrepared, proofs.VisitLaws.{unprepared, leaves_at}}
use Rattle.monitor_tags.proofs.visit.visit.Goals as goal

pub returns-in_err-going-clause-left : goal.returns-in_err-going-clause-left
returns-in_err-going-clause-left c =
    let e = err_from_is_err_and c.from_residual-in_err-going.result c.from_residual-in_err-going.ensures.1 in
    rw (e.1, e.2) (leaves_at c.args.p.now c.args.m.now c.args.i c.args.nodes.now c.args.nodes.now (Err c.in_err-going.field-0.0) c.in-Some-Some.insn.now c.in-Some-Some.target.now c.in-Some.frame.now c.in_ok-row.row
    (sym (c.in-Some-Some.ensures.value ∙ ap (λ (m : MethodInfo). slice_get m.code c.args.i) c.method-method.ensures.is)) (sym (c.in-Some-Some.ensures'.value ∙ ap (λ (m : MethodInfo). slice_get m.targets c.args.i) c.method-method.ensures.is)) (sym c.in-Some.ensures)
    (c.in_ok-row.ensures ∙ ap (λ (m : MethodInfo). row c.args.p.now m c.in-Some-Some.insn.now.pc c.in-Some-Some.target.now c.in-Some-Some.insn.now.op) c.method-method.ensures.is)
    (unprepared c.args.m.now c.in-Some-Some.insn.now c.in_ok-row.row c.in-Some.frame.now c.in_err-going.field-0.0 c.args.nodes.now c.args.nodes.now
    (subst (λ (m : MethodInfo). TagsPrepared m c.in-Some-Some.insn.now c.in_ok-row.row c.in-Some.frame.now (Err c.in_err-going.field-0.0)) c.method-method.ensures.is c.in_err-going.ensures)))
