use Rattle.std.proofs.Common.{◌≡◌, ◌∙◌, ap, sym, Some, slice_get}
use Rattle.checked_program.specs.TaggedCode.{tagged_by}
use Rattle.guard_analysis.proofs.{BlockMarks.block_marked, MarkLists.marks_block}
use Rattle.guard_analysis.proofs.marking.mark_at.Goals as goal

pub returns-in_ok-push-in-Monitorenter-clause-marks : goal.returns-in_ok-push-in-Monitorenter-clause-marks
returns-in_ok-push-in-Monitorenter-clause-marks c =
    let at : slice_get c.args.m.now.code c.args.i ≡ Some c.in-Some.insn.now = ap (λ x. slice_get x.code c.args.i) (sym c.method.ensures.is) ∙ sym c.in-Some.ensures.value in
    marks_block c.args.p.now (tagged_by c.args.tags.now) c.args.uses.now c.args.method (slice_get c.args.m.now.code c.args.i) c.in-Some.insn.now c.args.marks.now c.push.new.self c.in_ok-mark-in-Monitorenter.mark at c.in-Monitorenter.is c.in_ok-push-in-Monitorenter.ensures.ok
    (block_marked c.args.p.now c.args.tags.now c.requires.program c.args.method c.args.m.now c.args.t.now c.requires.there c.requires.tagged c.args.i c.in-Some.insn.now at c.in-Monitorenter.is c.args.uses.now c.args.grades.now c.requires.grades c.in_ok-mark-in-Monitorenter.mark c.in_ok-mark-in-Monitorenter.ensures.mark)
