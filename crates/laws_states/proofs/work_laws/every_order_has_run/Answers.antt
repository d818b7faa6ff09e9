use Rattle.laws_states.proofs.OrdersRun.{every_order_has_run}
use Rattle.laws_states.proofs.work_laws.every_order_has_run.Goals as goal

pub returns : goal.returns
returns c = every_order_has_run c.parts_keep_threads.ensures c.start_has_state.ensures c.events_keep_state.ensures c.next_keeps_state.ensures c.events_lessen_all_work.ensures
