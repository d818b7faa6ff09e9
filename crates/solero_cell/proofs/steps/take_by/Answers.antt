use Rattle.std.proofs.Common.{length, sym, ap, ◌∙◌, subst, arith, ◌==◌, slice_index}
use Rattle.solero_cell.{specs.{CellRules.HasOneHistory, Steps.TellsTake}, proofs.{Allowing.any_write_allows, WriteSteps.{Leads, take_step}}}
use prog.Atomic.{either}
use Rattle.solero_cell.proofs.steps.take_by.Goals as goal

pub compare_exchange-requires : goal.compare_exchange-requires
compare_exchange-requires g c =
    let shared = c.args.table.now.shared in
    let seat = c.args.seat.now in
    let is = c.requires.seat in
    (is.of, omega (arith, is.words), any_write_allows (HasOneHistory shared.key) shared.table_id.slots seat.id 0 (λ n. either (n == c.args.noted) c.word.result n) seat.me (TellsTake g.B.Writing.values seat.me.0) is.share (λ ws at s. subst (λ h. Leads shared.key ws at.views seat.id 0 (either (slice_index ws 0 == c.args.noted) h (slice_index ws 0)) (TellsTake g.B.Writing.values seat.me.0 (slice_index ws 0))) (sym c.word.ensures.word) (take_step shared.key ws at s c.args.noted g.B.Writing.values c.requires.noted (ap length c.requires.values ∙ c.requires.long))))
