use Rattle.std.proofs.Common.{sym, subst}
use Rattle.solero_cell.specs.{Calls.IsAtEnd, declared.views.{Record.Record, View.View}}
use Rattle.cell_runner.{specs.{CellRuns.IsCellRun, HandsOfCell.HasGathered}, proofs.Reporting.reported}
use Rattle.cell_runner.proofs.running.finish.Goals as goal

pub returns : goal.returns
returns c workers rounds turns few gathered =
    let all = c.args.all in
    let table = c.args.table.shared.table_id in
    let same = c.close-end.ensures.seat in
    subst (λ (end : View). IsCellRun workers rounds turns (record { writes = all.tally.writes; reads = all.tally.reads; stopped = all.tally.stopped; end = end })) (sym same)
    (reported workers rounds turns table all few (subst (λ (o : Record). HasGathered table o workers rounds turns all) c.requires.opening gathered) c.requires.whole (subst IsAtEnd same c.close-end.ensures.end))
