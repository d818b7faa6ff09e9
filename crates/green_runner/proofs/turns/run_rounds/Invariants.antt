use Rattle.std.proofs.Common.{ℕ}
use Rattle.laws_states.specs.WorkLeft.{all_work}
use Rattle.green_runner.specs.{Turning.IsLedByOrder, Turns.rounds}
use Rattle.green_runner.proofs.turns.run_rounds.Given as goal

abbrev pub invariant-loop : goal.invariant-loop
invariant-loop l = (n : ℕ) × IsLedByOrder l.fn.machine (rounds l.turn l.p.program.workers n) l.machine

abbrev pub decreases-loop : goal.decreases-loop
decreases-loop l = all_work l.machine.core
