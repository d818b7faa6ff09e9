use Rattle.std.proofs.Common.{◌∙◌}
use Rattle.assembler.proofs.{AssembleLaws.{drafted_error, only_memory}, ListingLaws.{draft_is, formed}}
use Rattle.assembler.proofs.assembling.assemble.Goals as goal

pub assembled-requires : goal.assembled-requires
assembled-requires c = record {
  formed = formed c.args.text.now c.in-Ok.draft c.in-Ok.ensures;
  only = λ d l. c.class_of.ensures ∙ draft_is c.args.text.now c.in-Ok.draft d c.in-Ok.ensures l;
}

pub returns-in-Err-clause-is : goal.returns-in-Err-clause-is
returns-in-Err-clause-is c = drafted_error c.args.text.now c.in-Err.error c.in-Err.ensures

pub returns-in-Err-clause-listed : goal.returns-in-Err-clause-listed
returns-in-Err-clause-listed c d l = only_memory c.args.text.now c.in-Err.error c.in-Err.ensures d l
