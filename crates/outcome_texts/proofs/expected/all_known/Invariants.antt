use Rattle.std.proofs.Common.{◌≡◌, ◌++◌, drop}
use Rattle.outcome_texts.specs.Expected.{all_known}
use Rattle.outcome_texts.proofs.expected.all_known.Given as goal

abbrev pub invariant-loop-x : goal.invariant-loop-x
invariant-loop-x l = l.known ++ all_known l.p.program (drop l.x-index l.listed) ≡ all_known l.p.program l.listed
