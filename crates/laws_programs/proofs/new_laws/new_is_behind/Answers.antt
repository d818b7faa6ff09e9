use Rattle.laws_programs.proofs.NewVisits.{new_behind}
use Rattle.laws_programs.proofs.new_laws.new_is_behind.Goals as goal

pub returns : goal.returns
returns c = new_behind
