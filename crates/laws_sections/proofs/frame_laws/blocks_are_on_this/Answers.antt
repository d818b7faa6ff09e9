use Rattle.laws_sections.proofs.MonitorExits.{block_law}
use Rattle.laws_sections.proofs.frame_laws.blocks_are_on_this.Goals as goal

pub returns : goal.returns
returns c = block_law
