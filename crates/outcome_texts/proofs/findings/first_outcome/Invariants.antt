use Rattle.std.{proofs.Common.{◌≡◌, ◌+◌, drop}, specs.List.position_from}
use Rattle.outcome_texts.specs.Findings.{shows}
use Rattle.outcome_texts.proofs.findings.first_outcome.Given as goal

abbrev pub invariant-loop-i : goal.invariant-loop-i
invariant-loop-i l =
    position_from (λ x. shows l.p.program l.what x.at.plain.state) (l.i + 1) (drop l.i l.listed)
    ≡ position_from (λ x. shows l.p.program l.what x.at.plain.state) 1 l.listed
