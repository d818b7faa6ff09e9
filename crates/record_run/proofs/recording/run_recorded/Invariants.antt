use Rattle.std.proofs.Common.{Some}
use Rattle.record_run.proofs.recording.run_recorded.Given as goal

-- the run of the machine whose workers have begun
abbrev pub ghosts-record_named : goal.ghosts-record_named
ghosts-record_named g a = record { run = Some (record { program = a.machine.program; cfg = a.machine.cfg; most = a.most }) }
