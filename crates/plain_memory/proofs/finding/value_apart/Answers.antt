use Rattle.std.proofs.Common.{sym, ◌∙◌}
use Rattle.plain_memory.proofs.ApartLaws.{value_at_none, value_at_some}
use Rattle.plain_memory.proofs.finding.value_apart.Goals as goal

pub returns-in-Some : goal.returns-in-Some
returns-in-Some c =
    let found = c.in-Some.ensures.lookup in
    c.value_in.ensures ∙ sym (value_at_some _ _ _ _ c.number_of.ensures found.3.0 found.1)

pub returns-in-None : goal.returns-in-None
returns-in-None c = sym (value_at_none _ _ _ c.number_of.ensures c.in-None.ensures.lookup.3)
