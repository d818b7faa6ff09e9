use Rattle.laws_sections.proofs.MonitorExits.{held_law}
use Rattle.laws_sections.proofs.frame_laws.edges_bring_held.Goals as goal

pub returns : goal.returns
returns c = held_law
