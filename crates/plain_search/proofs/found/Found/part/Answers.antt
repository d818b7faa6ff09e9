use Rattle.plain_search.proofs.AllFound.{told_part}
use Rattle.plain_search.proofs.found.Found.part.Goals as goal

pub invariant_of-result : goal.invariant_of-result
invariant_of-result c = told_part c.args.p.now c.of.result.told c.args.s c.of.ensures c.requires

pub returns-clause-searched : goal.returns-clause-searched
returns-clause-searched c = told_part c.args.p.now c.of.result.told c.args.s c.of.ensures c.requires
