use Rattle.std.proofs.Common.{arith}
use Rattle.solero_cell.{specs.{CellRules.HasOneHistory, Steps.TellsFinish}, proofs.{Allowing.any_load_allows, ReadSteps.finish_step}}
use Rattle.solero_cell.proofs.steps.finish.Goals as goal

pub load-requires : goal.load-requires
load-requires g c =
    let shared = c.args.table.now.shared in
    let seat = c.args.seat.now in
    let is = c.requires.seat in
    (is.of, omega (arith, is.words), any_load_allows (HasOneHistory shared.key) shared.table_id.slots seat.id 0 seat.me (TellsFinish g.A.Attempt.is_last seat.me.0) is.share (λ ws at s. finish_step shared.key ws at s g.A.Attempt.is_last c.requires.loading))
