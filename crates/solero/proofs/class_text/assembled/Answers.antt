use Rattle.solero.proofs.OneFile.{short_file}
use Rattle.solero.proofs.class_text.assembled.Goals as goal

pub assembled_text-requires : goal.assembled_text-requires
assembled_text-requires c = short_file c.only.result.now (rw c.only.ensures at c.requires.short)

pub returns-clause-ok : goal.returns-clause-ok
returns-clause-ok c = rw c.only.ensures c.assembled_text.ensures.ok

pub returns-clause-refused : goal.returns-clause-refused
returns-clause-refused c = rw c.only.ensures c.assembled_text.ensures.refused
