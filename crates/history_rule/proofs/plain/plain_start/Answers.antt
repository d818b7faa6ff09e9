use Rattle.std.proofs.Common.{subst, sym}
use Rattle.history_rule.{specs.Small.IsSmall, proofs.SmallSteps.start_small}
use Rattle.history_rule.proofs.plain.plain_start.Goals as goal

pub invariant_of-result : goal.invariant_of-result
invariant_of-result c = subst (IsSmall 0) (sym c.in_ok-start.ensures) (start_small c.args.p.now.program c.program-checked.ensures.marked.checked.program)
