use Rattle.std.proofs.Common.{subst, sym, ◌∙◌}
use Rattle.step_core.{specs.MarkOrder.AscendFrom, proofs.MarkOrderLaws.{marks_ascend, rest_ascends}}
use Rattle.step_core.proofs.marked.is_marked.Goals as goal

pub marks_before-first-requires : goal.marks_before-first-requires
marks_before-first-requires c = subst (AscendFrom 0 0) (sym (c.as_slice-marks.ensures ∙ c.marks.ensures.marks)) (marks_ascend c.args.p.now c.marks.ensures.marked)

pub is_marked_by-requires : goal.is_marked_by-requires
is_marked_by-requires c = rest_ascends c.if-marks-le-FEW.first c.as_slice-marks.result.now (subst (AscendFrom 0 0) (sym (c.as_slice-marks.ensures ∙ c.marks.ensures.marks)) (marks_ascend c.args.p.now c.marks.ensures.marked))
