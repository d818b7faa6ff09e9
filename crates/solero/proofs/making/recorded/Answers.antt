use Rattle.laws_refinement.proofs.SomeThread.{some_thread}
use Rattle.command_words.specs.Requests.{asked_by}
use Rattle.solero.proofs.Reported.{record_made}
use Rattle.solero.proofs.making.recorded.Goals as goal

pub recorded_report-requires : goal.recorded_report-requires
recorded_report-requires g c =
    let run = c.in_ok-came.ensures.replayed in
    rw run.2 (some_thread c.args.checked.now c.args.request.now.cfg run.0)

pub returns : goal.returns
returns g c = record_made (asked_by c.args.request.now) c.args.checked.now _ _ _ _ c.is_plain.ensures.plain c.is_plain.ensures.prints (c.is_plain.ensures.over _) c.in_ok-came.ensures c.finish_of.ensures c.in_ok-text.ensures
