use Rattle.std.proofs.Common.{◌≡◌, ◌++◌, ◌∷◌, [], drop}
use Rattle.outcome_texts.specs.StepFacts.{stretches_behind}
use Rattle.outcome_texts.proofs.steps.add_stretches.Given as goal

-- those so far, with those that are left, are all
abbrev pub invariant-loop-step : goal.invariant-loop-step
invariant-loop-step l =
    l.facts ++ stretches_behind l.thread l.acts (drop l.step-index l.steps)
    ≡ l.fn.facts ++ stretches_behind l.fn.first.thread (l.fn.first.act ∷ []) l.steps
