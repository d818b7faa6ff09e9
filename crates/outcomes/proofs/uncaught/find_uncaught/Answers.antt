use Rattle.std.proofs.Common.{◌≡◌, ◌∙◌, true, false, sym}
use Rattle.outcomes.proofs.uncaught.find_uncaught.Goals as goal

pub returns-in_ok-at-in-Some-clause-uncaught : goal.returns-in_ok-at-in-Some-clause-uncaught
returns-in_ok-at-in-Some-clause-uncaught c = record { reached = c.in_ok-at-in-Some.ensures.reached; ended = c.in-Some.ensures.1 _ c.in_ok-at-in-Some.ensures.state }

pub returns-in-None-clause-all : goal.returns-in-None-clause-all
returns-in-None-clause-all c = λ k q e h. let no : false ≡ true = sym (c.in-None.ensures k q e) ∙ h in absurd (cc)
