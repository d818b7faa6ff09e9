use Rattle.std.proofs.Common.{◌≡◌}
use Rattle.history_tests.proofs.playing.make.Given as goal

abbrev pub invariant-loop : goal.invariant-loop
invariant-loop g l = l.plain.program ≡ l.fn.plain.program
