use Rattle.std.proofs.Common.{◌≡◌, ◌≤◌, ◌++◌, drop}
use Rattle.outcome_texts.specs.StepFacts.{acts_from}
use Rattle.outcome_texts.proofs.steps.acts_texts.Given as goal

-- those so far, with those that are left, are all
abbrev pub invariant-loop-act : goal.invariant-loop-act
invariant-loop-act l = record {
  texts : l.texts ++ acts_from l.n (drop l.act-index l.acts) ≡ acts_from 0 l.acts;
  few : l.n ≤ l.act-index;
}
