use Rattle.std.proofs.Common.{◌≡◌}
use Rattle.history_tests.proofs.playing.make_all.Given as goal

abbrev pub invariant-loop-steps : goal.invariant-loop-steps
invariant-loop-steps g l = l.plain.program ≡ l.fn.plain.program
