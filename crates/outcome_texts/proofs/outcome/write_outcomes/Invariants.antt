use Rattle.std.proofs.Common.{◌≡◌, ◌+◌, ◌++◌, drop}
use Rattle.outcome_texts.specs.OutcomeFacts.{outcome_texts}
use Rattle.outcome_texts.proofs.outcome.write_outcomes.Given as goal

abbrev pub invariant-loop-i : goal.invariant-loop-i
invariant-loop-i l =
    l.out.items ++ outcome_texts l.form l.p.program l.sources (l.i + 1) (drop l.i l.listed)
    ≡ l.fn.out.items ++ outcome_texts l.form l.p.program l.sources 1 l.listed
