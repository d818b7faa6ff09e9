use Rattle.green_runner.{specs.Turns.rounds, proofs.Turning.workers_ran}
use Rattle.green_runner.proofs.turns.run_workers.Goals as goal

pub returns : goal.returns
returns c =
    let some = c.run_rounds.ensures.gives in
    (some.0, workers_ran c.args.machine.now c.run_rounds.new.machine c.run_done.new.machine (rounds c.args.turn c.args.p.now.program.workers some.0) some.1 c.run_done.ensures)
