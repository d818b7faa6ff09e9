use Rattle.assembler.proofs.AssembleLaws.{told}
use Rattle.assembler.proofs.assembling.is_spelled.Goals as goal

pub returns : goal.returns
returns c = told c.args.c.now c.write_class-answer.result c.is_written.result c.write_class-answer.ensures c.is_written.ensures
