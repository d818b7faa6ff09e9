use Rattle.laws_refinement.proofs.ScheduleEnds.{schedules_end_over}
use Rattle.laws_refinement.proofs.over_laws.schedules_end_over.Goals as goal

pub returns : goal.returns
returns c = schedules_end_over c.given_is_kept.ensures
