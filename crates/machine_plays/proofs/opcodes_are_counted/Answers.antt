use Rattle.machine_plays.proofs.Occurrences.{opcodes_are_counted}
use Rattle.machine_plays.proofs.opcodes_are_counted.Goals as goal

pub returns : goal.returns
returns c = opcodes_are_counted
