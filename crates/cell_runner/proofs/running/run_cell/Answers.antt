use Rattle.cell_runner.proofs.Gathering.{times_le}
use Rattle.cell_runner.proofs.running.run_cell.Goals as goal

pub returns : goal.returns
returns g c =
    let few = times_le c.args.threads 8 c.args.rounds 1000 c.requires.threads c.requires.rounds.1 in
    c.finish.ensures c.args.threads c.args.rounds c.args.turns few c.in_ok-all.ensures.gathered
