use Rattle.std.proofs.Common.{length, sym, ap, ◌∙◌, subst, refl, arith, ◌*◌}
use Rattle.solero_cell.{specs.{CellRules.HasOneHistory, Steps.HasWritten}, proofs.{Allowing.any_write_allows, WriteSteps.{Leads, release_step}}}
use Rattle.solero_cell.proofs.steps.release.Goals as goal

pub store-requires : goal.store-requires
store-requires c =
    let shared = c.args.table.now.shared in
    let seat = c.args.seat.now in
    let is = c.requires.seat in
    (is.of, omega (arith, is.words), any_write_allows (HasOneHistory shared.key) shared.table_id.slots seat.id 0 (λ n. c.word.result) seat.me (λ x. HasWritten seat.me.0) is.share (λ ws at s. subst (λ x. Leads shared.key ws at.views seat.id 0 x (HasWritten seat.me.0)) (ap (λ n. 4 * n) (sym c.requires.count.0) ∙ sym c.word.ensures.word) (release_step shared.key ws at s (length shared.key.values) c.requires.storing refl)))
