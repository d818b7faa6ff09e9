use Rattle.std.proofs.{Common.{◌∙◌, ap}, lemmas.Result.IfOk-weaker}
use Rattle.guard_analysis.{specs.SectionGrades.entry_depth_at, proofs.MarkLists.first_mark}
use Rattle.guard_analysis.proofs.marking.mark_block.Goals as goal

pub returns-in-Some-clause-mark : goal.returns-in-Some-clause-mark
returns-in-Some-clause-mark c = IfOk-weaker c.mark_inside.result _ _
    (λ n k. first_mark c.args.m.now c.args.tags.now.frames c.in-Some.depth c.args.i c.args.grades.now n (entry_depth_at c.args.m.now c.args.tags.now.frames c.args.i) k (c.in-Some.ensures ∙ ap (λ x. entry_depth_at x c.args.tags.now.frames c.args.i) c.method.ensures.is))
    c.mark_inside.ensures.mark
