use Rattle.std.proofs.Common.{Some}
use Rattle.table_runner.proofs.sharing.begin.Given as goal

abbrev pub ghosts-begin_by : goal.ghosts-begin_by
ghosts-begin_by a = record { part = Some (record { program = a.table.now.program; cfg = a.table.now.cfg; threads = a._threads.now }) }
