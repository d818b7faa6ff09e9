use Rattle.machine_types.proofs.PlainPartLaws.{instructions_change_memory}
use Rattle.machine_types.proofs.laws.instructions_change_memory.Goals as goal

pub returns : goal.returns
returns c = instructions_change_memory
