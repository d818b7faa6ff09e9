use Rattle.std.proofs.Common.{subst, sym}
use Rattle.history_rule.{specs.Small.MakesSmall, proofs.SmallEffects.top_small}
use Rattle.history_rule.proofs.plain_state.PlainState.instructed_by.Goals as goal

pub did-requires-clause-small : goal.did-requires-clause-small
did-requires-clause-small c = subst MakesSmall (sym c.effect_at-effect.ensures) (top_small c.args.p.now.program c.program-checked.ensures.marked.checked.program c.args.at.now)
