use Rattle.std.proofs.Common.{◌≡◌, arith}
use Rattle.solero_cell.{specs.{CellRules.HasOneHistory, Calls.IsAtEnd}, proofs.{Alone.end_step, Allowing.any_load_allows}}
use Rattle.solero_cell.proofs.steps.end.Goals as goal

pub load-nothing-requires : goal.load-nothing-requires
load-nothing-requires c =
    let shared = c.args.table.now.shared in
    let seat = c.args.seat.now in
    let is = c.requires.seat in
    (is.of, omega (arith, is.words), any_load_allows (HasOneHistory shared.key) shared.table_id.slots seat.id 0 seat.me (λ x w. (w ≡ seat.me.0) × IsAtEnd seat.me.0) is.share (λ ws at s. end_step shared.key is.opening_is ws at s))
