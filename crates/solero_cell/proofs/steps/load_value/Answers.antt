use Rattle.std.proofs.Common.{◌≡◌, ◌+◌, arith}
use Rattle.solero_cell.{specs.{CellRules.HasOneHistory, CellViews.has_loaded}, proofs.{Allowing.any_load_allows, ReadSteps.load_step_at}}
use Rattle.solero_cell.proofs.steps.load_value.Goals as goal

pub load-requires : goal.load-requires
load-requires c =
    let shared = c.args.table.now.shared in
    let seat = c.args.seat.now in
    let is = c.requires.seat in
    (is.of, omega (arith, is.words, c.requires.within), any_load_allows (HasOneHistory shared.key) shared.table_id.slots seat.id (1 + c.args.i) seat.me (λ x w. w ≡ has_loaded x seat.me.0) is.share (λ ws at s. load_step_at shared.key ws at s c.args.i (1 + c.args.i) (omega arith) c.requires.loading c.requires.within))
