use Rattle.laws_refinement.proofs.SomeThread.{some_thread}
use Rattle.solero.proofs.making.replayed.Goals as goal

pub reported-requires : goal.reported-requires
reported-requires c =
    let run = c.in_ok-outcome.ensures in
    rw run.2 (some_thread c.args.checked.now c.args.request.now.cfg run.0)
