use Rattle.laws_sections.proofs.MonitorExits.{exit_law}
use Rattle.laws_sections.proofs.frame_laws.own_monitor_is_left.Goals as goal

pub returns : goal.returns
returns c = exit_law
