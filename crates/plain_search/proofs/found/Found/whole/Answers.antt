use Rattle.plain_search.proofs.AllFound.{told_whole}
use Rattle.plain_search.proofs.found.Found.whole.Goals as goal

pub invariant_of-result : goal.invariant_of-result
invariant_of-result c = told_whole c.args.p.now c.of.result.told c.args.s c.of.ensures c.requires.sound c.requires.taken

pub returns-clause-searched : goal.returns-clause-searched
returns-clause-searched c = told_whole c.args.p.now c.of.result.told c.args.s c.of.ensures c.requires.sound c.requires.taken
