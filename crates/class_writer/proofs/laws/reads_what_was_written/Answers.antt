use Rattle.class_writer.proofs.LawProofs.{reads_back}
use Rattle.class_writer.proofs.laws.reads_what_was_written.Goals as goal

pub returns : goal.returns
returns c = reads_back
