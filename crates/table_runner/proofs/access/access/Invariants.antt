use Rattle.std.proofs.Common.{Some}
use Rattle.table_runner.proofs.access.access.Given as goal

abbrev pub ghosts-access_of : goal.ghosts-access_of
ghosts-access_of a = record { event = Some (record { program = a._p.now; cfg = a.table.now.cfg; number = a._t; state = a._s.now }) }
