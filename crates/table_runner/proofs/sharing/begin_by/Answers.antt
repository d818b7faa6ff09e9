use Rattle.std.proofs.Common.{[]}
use Rattle.table_runner.proofs.SharedViews.{begins}
use Rattle.table_runner.proofs.sharing.begin_by.Goals as goal

pub load-nothing-requires : goal.load-nothing-requires
load-nothing-requires g c =
    let table = c.args.table.now in
    record { at = c.requires.table; inside = c.requires.words; allowed = begins table.program table.cfg table.table_id.slots c.args.seat.now.id (c.args.seat.now.view, []) c.args._threads.now g.B.Starting.part c.requires.begins c.requires.part }
