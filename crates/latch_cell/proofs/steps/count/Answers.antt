use Rattle.std.proofs.Common.{arith}
use Rattle.solero_cell.proofs.Allowing.{any_load_allows}
use Rattle.latch_cell.{specs.{LatchRules.HasTwoCopies, LatchSteps.HasCounted}, proofs.LatchReads.{count_step}}
use Rattle.latch_cell.proofs.steps.count.Goals as goal

pub load-requires : goal.load-requires
load-requires c =
    let shared = c.args.table.now.shared in
    let seat = c.args.seat.now in
    let is = c.requires.seat in
    (is.of, omega (arith, is.words), any_load_allows (HasTwoCopies shared.key) shared.table_id.slots seat.id 1 seat.me (HasCounted seat.me.0) is.share (λ ws at s. count_step shared.key ws at s c.requires.still))
