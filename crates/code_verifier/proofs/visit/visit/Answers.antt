use Rattle.std.proofs.{Common.{Err, sym, ap, ◌∙◌, slice_get}, lemmas.Result.err_from_is_err_and}
use Rattle.jvm_types.specs.{CodeTable.row, declared.program.MethodInfo.MethodInfo}
use Rattle.code_verifier.proofs.VisitLaws.{after_wide, kept_wide, found_wide, prepared, unprepared, leaves_at}
use Rattle.code_verifier.proofs.visit.visit.Goals as goal

pub go_on-requires-clause-locals : goal.go_on-requires-clause-locals
go_on-requires-clause-locals c = kept_wide c.args.m.now c.in-Some-Some.insn.now.pc c.in-Some.frame.now c.in_ok-after.kept c.in_ok-after.ensures.keeps
    (found_wide c.args.m.now c.args.nodes.now c.args.i c.in-Some.frame.now c.requires.level c.in-Some.ensures)

pub go_on-requires-clause-locals_after : goal.go_on-requires-clause-locals_after
go_on-requires-clause-locals_after c = after_wide c.args.m.now c.in-Some-Some.insn.now c.in_ok-row.row c.in-Some.frame.now c.in_ok-after.after c.in_ok-after.kept c.in_ok-after.ensures
    (found_wide c.args.m.now c.args.nodes.now c.args.i c.in-Some.frame.now c.requires.level c.in-Some.ensures)

pub returns-in_err-after-clause-left : goal.returns-in_err-after-clause-left
returns-in_err-after-clause-left c =
    let e = err_from_is_err_and c.from_residual-in_err-after.result c.from_residual-in_err-after.ensures.1 in
    rw (e.1, e.2) (leaves_at c.args.p.now c.args.m.now c.args.i c.args.nodes.now c.args.nodes.now (Err c.in_err-after.field-0.0) c.in-Some-Some.insn.now c.in-Some-Some.target.now c.in-Some.frame.now c.in_ok-row.row
    (sym (c.in-Some-Some.ensures.value ∙ ap (λ (m : MethodInfo). slice_get m.code c.args.i) c.method-method.ensures.is)) (sym (c.in-Some-Some.ensures'.value ∙ ap (λ (m : MethodInfo). slice_get m.targets c.args.i) c.method-method.ensures.is)) (sym c.in-Some.ensures)
    (c.in_ok-row.ensures ∙ ap (λ (m : MethodInfo). row c.args.p.now m c.in-Some-Some.insn.now.pc c.in-Some-Some.target.now c.in-Some-Some.insn.now.op) c.method-method.ensures.is)
    (unprepared c.args.m.now c.in-Some-Some.insn.now c.in_ok-row.row c.in-Some.frame.now c.in_err-after.field-0.0 c.args.nodes.now c.args.nodes.now c.in_err-after.ensures))

pub returns-clause-left : goal.returns-clause-left
returns-clause-left c = leaves_at c.args.p.now c.args.m.now c.args.i c.args.nodes.now c.go_on.new.nodes c.go_on.result c.in-Some-Some.insn.now c.in-Some-Some.target.now c.in-Some.frame.now c.in_ok-row.row
    (sym (c.in-Some-Some.ensures.value ∙ ap (λ (m : MethodInfo). slice_get m.code c.args.i) c.method-method.ensures.is)) (sym (c.in-Some-Some.ensures'.value ∙ ap (λ (m : MethodInfo). slice_get m.targets c.args.i) c.method-method.ensures.is)) (sym c.in-Some.ensures)
    (c.in_ok-row.ensures ∙ ap (λ (m : MethodInfo). row c.args.p.now m c.in-Some-Some.insn.now.pc c.in-Some-Some.target.now c.in-Some-Some.insn.now.op) c.method-method.ensures.is)
    (prepared c.args.m.now c.in-Some-Some.insn.now c.in_ok-row.row c.in-Some.frame.now c.in_ok-after.after c.in_ok-after.kept c.args.nodes.now c.go_on.new.nodes c.go_on.result c.in_ok-after.ensures
    (c.go_on.ensures.left c.in-Some.frame.now c.in_ok-after.ensures.keeps))
