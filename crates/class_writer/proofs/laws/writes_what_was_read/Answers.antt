use Rattle.class_writer.proofs.LawProofs.{writes_back}
use Rattle.class_writer.proofs.laws.writes_what_was_read.Goals as goal

pub returns : goal.returns
returns c = writes_back
