use Rattle.std.proofs.Common.{◌≡◌, ◌+◌, arith}
use Rattle.solero_cell.{specs.{CellRules.HasOneHistory, CellViews.has_stored, Steps.storing_of}, proofs.{Allowing.any_write_allows, WriteSteps.store_step_at}}
use Rattle.solero_cell.proofs.steps.store_value.Goals as goal

pub store-requires : goal.store-requires
store-requires c =
    let shared = c.args.table.now.shared in
    let seat = c.args.seat.now in
    let is = c.requires.seat in
    (is.of, omega (arith, is.words, c.requires.within), any_write_allows (HasOneHistory shared.key) shared.table_id.slots seat.id (1 + c.args.i) (λ n. c.args.value) seat.me (λ x w. w ≡ has_stored (storing_of seat.me.0) seat.me.0) is.share (λ ws at s. store_step_at shared.key ws at s c.args.i c.requires.storing.0 (1 + c.args.i) c.args.value (omega arith) c.requires.storing.1))
