use Rattle.std.proofs.Common.{◌+◌, sym, subst, arith}
use Rattle.green_runner.proofs.Turning.{MidRound, round_dead, round_on}
use Rattle.green_runner.proofs.turns.take_round.Goals as goal

pub loop-i-preserved : goal.loop-i-preserved
loop-i-preserved c =
    let turn = c.take_turn-live.ensures in
    subst (λ b. MidRound c.args.machine.now c.args.turn (c.loop-i.i + 1) b c.take_turn-live.new.machine) (sym c.either-some.ensures)
    (round_on c.args.machine.now c.loop-i.machine c.take_turn-live.new.machine c.args.turn c.loop-i.i c.loop-i.some c.take_turn-live.result c.loop-i.invariant
    (record { live_is = turn.live; gives = turn.gives; still = turn.still; less = turn.less }))

pub returns-clause-dead : goal.returns-clause-dead
returns-clause-dead c = λ e. round_dead c.args.machine.now c.loop-i.machine c.args.turn c.loop-i.i (omega (arith, c.loop-i-test.false, c.workers-count.ensures.count, c.loop-i.auto.i-end)) (subst (λ b. MidRound c.args.machine.now c.args.turn c.loop-i.i b c.loop-i.machine) e c.loop-i.invariant)
