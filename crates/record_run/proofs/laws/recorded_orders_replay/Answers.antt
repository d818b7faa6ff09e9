use Rattle.record_run.proofs.RecordedOrders.{order_replays}
use Rattle.record_run.proofs.laws.recorded_orders_replay.Goals as goal

pub returns : goal.returns
returns c = order_replays c.one_schedule.ensures
