use Rattle.std.proofs.Common.{arith}
use Rattle.machine_tests.proofs.SureWords.{first_is_lawful}
use Rattle.machine_tests.proofs.own_words.first.Goals as goal

pub returns-clause-lawful : goal.returns-clause-lawful
returns-clause-lawful c = first_is_lawful c.args.p.now _ c.in_ok-s.s c.in_ok-s.ensures (record { steps = omega arith; turns = omega arith; prints = omega arith; few_prints = omega arith; range = omega arith })
