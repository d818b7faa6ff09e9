use Rattle.std.proofs.Common.{sym, ◌∙◌, arith}
use Rattle.step_core.proofs.MarkOrderLaws.{none_at}
use Rattle.step_core.proofs.marked.is_marked_by.Goals as goal

pub returns-then-stands_before : goal.returns-then-stands_before
returns-then-stands_before c =
    let behind = rw (c.rank.ensures, c.rank-in-loop-mark.ensures) at (sym c.stands_before.ensures ∙ c.if-stands_before.true) in
    sym (none_at c.args.method c.args.spot c.loop-mark.mark-index c.args.marks.now c.requires (omega (arith, c.loop-mark-test.true)) behind) ∙ c.loop-mark.invariant
