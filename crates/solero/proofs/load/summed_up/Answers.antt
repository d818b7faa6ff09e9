use Rattle.laws_refinement.proofs.SomeThread.{some_thread}
use Rattle.command_words.specs.Requests.{asked_by}
use Rattle.solero.proofs.Reported.{load_summed}
use Rattle.solero.proofs.load.summed_up.Goals as goal

pub summary-requires : goal.summary-requires
summary-requires g c =
    let run = c.in_ok-outcome.ensures in
    rw run.2 (some_thread c.args.checked.now c.args.request.now.cfg run.0)

pub returns : goal.returns
returns g c = load_summed (asked_by c.args.request.now) c.args.checked.now _ _ _ c.is_plain.ensures.plain c.is_plain.ensures.prints c.in_ok-outcome.ensures c.finish_of.ensures c.in_ok-text.ensures
