use Rattle.green_runner.proofs.Turning.{in_turns}
use Rattle.green_runner.proofs.turns.run_in_turns.Goals as goal

pub returns : goal.returns
returns c =
    let some = c.run_parts.ensures in
    in_turns c.args.p.now c.args.cfg.now c.args.turn some.0 c.in_ok-machine.machine c.run_parts.new.machine c.outcome.result c.in_ok-machine.ensures some.1 c.outcome.ensures
