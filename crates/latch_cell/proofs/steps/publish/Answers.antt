use Rattle.std.proofs.Common.{length, sym, subst, refl, arith}
use Rattle.solero_cell.proofs.Allowing.{LeadsTo, any_write_allows}
use Rattle.latch_cell.{specs.{LatchRules.HasTwoCopies, LatchSteps.HasPublished}, proofs.LatchWrites.{publish_step}}
use Rattle.latch_cell.proofs.steps.publish.Goals as goal

pub store-requires : goal.store-requires
store-requires c =
    let shared = c.args.table.now.shared in
    let seat = c.args.seat.now in
    let is = c.requires.seat in
    (is.of, omega (arith, is.words), any_write_allows (HasTwoCopies shared.key) shared.table_id.slots seat.id 1 (λ n. c.args.count) seat.me (λ x. HasPublished seat.me.0) is.share (λ ws at s. subst (λ x. LeadsTo (HasTwoCopies shared.key) ws at.views seat.id 1 x (HasPublished seat.me.0)) (sym c.requires.count) (publish_step shared.key ws at s (length shared.key.values) c.requires.storing refl)))
