use Rattle.code_verifier.proofs.RowsRest.{few_rows}
use Rattle.code_verifier.proofs.handlers.handle.Goals as goal

pub loop-behind-init : goal.loop-behind-init
loop-behind-init c = record {
  left = few_rows c.args.m.now c.args.pc c.args.from c.args.f.now c.args.m.now.rows c.args.nodes.now c.laid_out.ensures.ascend c.requires.level.long c.requires.rest;
  level = c.requires.level;
}
