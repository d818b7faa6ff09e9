use Rattle.std.proofs.Common.{Some}
use Rattle.replay_runner.proofs.locking.run_locked.Given as goal

-- the run of the machine that was just made
abbrev pub ghosts-run_named : goal.ghosts-run_named
ghosts-run_named g a = record { run = Some (record { program = a.machine.program; cfg = a.machine.cfg }) }
