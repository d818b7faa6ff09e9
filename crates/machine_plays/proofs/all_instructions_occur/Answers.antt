use Rattle.machine_plays.proofs.Occurrences.{all_instructions_occur}
use Rattle.machine_plays.proofs.all_instructions_occur.Goals as goal

pub returns : goal.returns
returns c = all_instructions_occur
