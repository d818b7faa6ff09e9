use Rattle.std.proofs.Common.{arith, sym, ◌∙◌, ◌+◌, ◌-◌, ◌/◌, ◌<◌}
use Rattle.step_core.proofs.MarkOrderLaws.{past_one}
use Rattle.step_core.proofs.marked.marks_before.Goals as goal

pub loop-low-preserved-then-stands_before : goal.loop-low-preserved-then-stands_before
loop-low-preserved-then-stands_before c =
    let middle = c.loop-low.low + (c.loop-low.high - c.loop-low.low) / 2 in
    let below : middle < c.loop-low.high = omega (arith, c.loop-low-test.true) in
    let before = rw (c.rank.ensures, c.rank-in-loop-low.ensures) at (sym c.stands_before.ensures ∙ c.if-stands_before.true) in (
      omega (arith, below),
      c.loop-low.invariant.1,
      past_one c.args.method c.args.spot middle c.args.marks.now c.requires (omega (arith, below, c.loop-low.invariant.1)) before,
    )
