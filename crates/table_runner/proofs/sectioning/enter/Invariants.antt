use Rattle.std.proofs.Common.{Some}
use Rattle.step_core.specs.Sections.{entering}
use Rattle.step_core.specs.Sharing.{taking}
use Rattle.table_runner.specs.Onward.{event_on}
use Rattle.table_runner.proofs.sectioning.enter.Given as goal

abbrev pub ghosts-access_entering : goal.ghosts-access_entering
ghosts-access_entering a = record { event = Some (event_on a.table.now a._t (entering a._s.now a._at.now.frames a._at.now.count a._monitor)) }

abbrev pub ghosts-access_taking : goal.ghosts-access_taking
ghosts-access_taking a = record { event = Some (event_on a.table.now a._t (taking a._s.now a._at.now.frames a._at.now.count a._monitor a._noted)) }
