use Rattle.std.proofs.Common.{Some}
use Rattle.step_core.specs.Sharing.{leaving_at}
use Rattle.table_runner.specs.Onward.{event_on}
use Rattle.table_runner.proofs.sectioning.leave.Given as goal

abbrev pub ghosts-access_leaving : goal.ghosts-access_leaving
ghosts-access_leaving a = record { event = Some (event_on a.table.now a._t (leaving_at a._s.now a._at.now a._place.now a._exit.monitor a._exit.after)) }
