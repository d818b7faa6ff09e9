-- A recorded order makes the same run again.
use Rattle.std.proofs.Common.{◌≡◌, List, sym, ap, ◌∙◌}
use Rattle.machine_types.specs.{Core.{Happening, core, outcome}, ScheduleLaws.OneSchedule}
use Rattle.record_run.specs.Recordings.{RecordedOrdersReplay}

pub order_replays : OneSchedule → RecordedOrdersReplay
order_replays one c cfg most order o other r again =
    let same : again.0 ≡ r.replayed.0 = one c cfg order again.0 r.replayed.0 again.1 r.replayed.1 in
    again.2 ∙ ap (λ (hs : List Happening). outcome (core c cfg hs)) same ∙ sym r.replayed.2
