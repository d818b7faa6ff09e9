use Rattle.std.proofs.Common.{arith}
use Rattle.solero_cell.proofs.Allowing.{any_load_allows}
use Rattle.latch_cell.{specs.{LatchRules.HasTwoCopies, LatchSteps.TellsCopyFinish}, proofs.LatchReads.{again_step}}
use Rattle.latch_cell.proofs.steps.count_again.Goals as goal

pub load-requires : goal.load-requires
load-requires g c =
    let shared = c.args.table.now.shared in
    let seat = c.args.seat.now in
    let is = c.requires.seat in
    (is.of, omega (arith, is.words), any_load_allows (HasTwoCopies shared.key) shared.table_id.slots seat.id 1 seat.me (TellsCopyFinish g.A.Attempt.is_last seat.me.0) is.share (λ ws at s. again_step shared.key ws at s g.A.Attempt.is_last c.requires.loading))
