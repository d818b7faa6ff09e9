use Rattle.table_runner.proofs.StartHands.{alone_at_start, here_at_start}
use Rattle.table_runner.proofs.running.run_init.Goals as goal

pub begin_workers-requires-clause-here : goal.begin_workers-requires-clause-here
begin_workers-requires-clause-here c =
    let table = c.args.table.now in
    here_at_start table.table_id table.program table.cfg c.args.hands.now c.requires.start

pub begin_workers-requires-clause-alone : goal.begin_workers-requires-clause-alone
begin_workers-requires-clause-alone c =
    let table = c.args.table.now in
    alone_at_start table.table_id table.program table.cfg c.args.hands.now c.requires.start
