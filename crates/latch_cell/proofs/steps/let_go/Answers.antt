use Rattle.std.proofs.Common.{sym, ap, ◌∙◌, ◌*◌, subst, arith}
use Rattle.solero_cell.proofs.Allowing.{LeadsTo, any_write_allows}
use Rattle.latch_cell.{specs.{LatchRules.HasTwoCopies, LatchSteps.HasLetGo}, proofs.LatchWrites.{let_go_step}}
use Rattle.latch_cell.proofs.steps.let_go.Goals as goal

pub store-requires : goal.store-requires
store-requires c =
    let shared = c.args.table.now.shared in
    let seat = c.args.seat.now in
    let is = c.requires.seat in
    (is.of, omega (arith, is.words), any_write_allows (HasTwoCopies shared.key) shared.table_id.slots seat.id 0 (λ n. c.word.result) seat.me (λ x. HasLetGo seat.me.0) is.share (λ ws at s. subst (λ x. LeadsTo (HasTwoCopies shared.key) ws at.views seat.id 0 x (HasLetGo seat.me.0)) (ap (λ n. 4 * n) (sym c.requires.count.0) ∙ sym c.word.ensures.word) (let_go_step shared.key ws at s 0 c.requires.storing)))
