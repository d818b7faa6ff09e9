use Rattle.machine_types.proofs.OnlyLive.{only_live_change}
use Rattle.machine_types.proofs.laws.only_live_change.Goals as goal

pub returns : goal.returns
returns c = only_live_change
