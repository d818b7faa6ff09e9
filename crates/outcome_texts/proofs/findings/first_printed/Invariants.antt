use Rattle.std.{proofs.Common.{◌≡◌, drop}, specs.List.position_from}
use Rattle.outcome_texts.specs.Findings.{is_printed}
use Rattle.outcome_texts.proofs.findings.first_printed.Given as goal

abbrev pub invariant-loop-i : goal.invariant-loop-i
invariant-loop-i l = position_from (is_printed l.what) l.i (drop l.i l.printed) ≡ position_from (is_printed l.what) 0 l.printed
