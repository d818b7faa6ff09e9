use Rattle.green_runner.proofs.Turning.{turned_end}
use Rattle.green_runner.proofs.green.run_green.Goals as goal

pub returns-then-workers-eq1-clause-end : goal.returns-then-workers-eq1-clause-end
returns-then-workers-eq1-clause-end g c = turned_end c.schedules_end_over.ensures c.args.p.now c.args.cfg.now c.args.turn c.run_in_turns.result c.run_in_turns.ensures
