use Rattle.std.proofs.Common.{sym, ◌∙◌}
use Rattle.plain_memory.proofs.ApartLaws.{position_at_none, position_at_some}
use Rattle.plain_memory.proofs.finding.number_apart.Goals as goal

pub returns-then-has_value : goal.returns-then-has_value
returns-then-has_value c =
    let found = c.in-Some.ensures.lookup in
    sym (position_at_some _ _ _ _ _ c.number_of-number.ensures found.3.0 found.1 (sym c.has_value.ensures ∙ c.if-has_value.true))

pub returns-else-has_value : goal.returns-else-has_value
returns-else-has_value c =
    let found = c.in-Some.ensures.lookup in
    sym (position_at_some _ _ _ _ _ c.number_of-number.ensures found.3.0 found.1 (sym c.has_value.ensures ∙ c.if-has_value.false))

pub returns-in-None : goal.returns-in-None
returns-in-None c = sym (position_at_none _ _ _ c.number_of-number.ensures c.in-None.ensures.lookup.3)
