use Rattle.history_rule.proofs.SmallSteps.{step_small}
use Rattle.history_rule.proofs.plain.plain_step.Goals as goal

pub invariant_of-q-then-made : goal.invariant_of-q-then-made
invariant_of-q-then-made c =
    let step = rw c.if-made.true at c.in_ok-made.ensures in
    step_small c.args.p.now.program c.program-checked.ensures.marked.checked.program c.q.inside.steps c.q.inside.state c.step.new.self c.args.step.now c.q.invariant step
