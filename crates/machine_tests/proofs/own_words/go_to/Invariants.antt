use Rattle.std.proofs.Common.{◌≡◌}
use Rattle.machine_types.specs.Lawful.{IsLawful}
use Rattle.machine_tests.proofs.own_words.go_to.Given as goal

abbrev pub invariant-loop : goal.invariant-loop
invariant-loop g l = (l.p ≡ l.s.program) × IsLawful l.p l.s
