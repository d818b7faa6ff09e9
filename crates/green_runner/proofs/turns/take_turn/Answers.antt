use Rattle.std.proofs.Common.{sym, ◌∙◌, arith}
use Rattle.green_runner.proofs.Turning.{mid_more, turn_over}
use Rattle.green_runner.proofs.turns.take_turn.Goals as goal

pub loop-made-preserved : goal.loop-made-preserved
loop-made-preserved c =
    let live = sym c.event.ensures.live ∙ c.if-not-event.false in
    mid_more c.args.machine.now c.loop-made.machine c.event.new.self c.args.t c.loop-made.made c.requires.worker c.loop-made.invariant
    live c.event.ensures.event (c.event.ensures.less live)

pub returns-then-not-event-clause-gives : goal.returns-then-not-event-clause-gives
returns-then-not-event-clause-gives c =
    (turn_over c.args.machine.now c.loop-made.machine c.event.new.self c.args.t c.args.turn c.loop-made.made (omega (arith, c.loop-made-test.true)) c.loop-made.invariant
    (sym c.event.ensures.live ∙ c.if-not-event.true) (c.event.ensures.still c.if-not-event.true)).gives
