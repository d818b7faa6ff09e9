use Rattle.machine_plays.proofs.Occurrences.{all_phases_occur}
use Rattle.machine_plays.proofs.all_phases_occur.Goals as goal

pub returns : goal.returns
returns c = all_phases_occur
