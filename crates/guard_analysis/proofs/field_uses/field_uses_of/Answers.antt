use Rattle.guard_analysis.proofs.FieldUsesFound.{uses_shown}
use Rattle.guard_analysis.proofs.field_uses.field_uses_of.Goals as goal

pub returns : goal.returns
returns c = uses_shown c.args.p.now c.args.tags.now c.requires.program c.args.frozen.now c.requires.frozen c.in_ok-uses.uses c.as_slice.result.now c.as_slice-2.result.now c.in_ok-unguarded.unguarded c.in_ok-uses.ensures c.as_slice.ensures c.as_slice-2.ensures c.in_ok-unguarded.ensures
