use Rattle.solero_explain.proofs.{Accepted.never_three, Refused.refused_status}
use Rattle.solero_explain.proofs.Runs.{run_accepted, run_answered, run_at_length, run_few, run_is_calm, run_is_read, run_not_four, run_not_three, run_not_two, run_sink_failed, run_sink_fault}
use Rattle.solero_explain.proofs.program.top_explain.Goals as goal

-- ---- a text is due

pub returns-in-Due-clause-accepted : goal.returns-in-Due-clause-accepted
returns-in-Due-clause-accepted g c = λ asked files read told accepted three. never_three asked files _ _ _ _ _ _ _ _ _ (rw (read, told) at c.in-Due.ensures.work) c.deliver.ensures accepted three

pub returns-in-Due-clause-not_accepted : goal.returns-in-Due-clause-not_accepted
returns-in-Due-clause-not_accepted g c = λ asked files read told not_so same below. refused_status asked files _ _ _ _ _ _ _ _ _ (rw (read, told) at c.in-Due.ensures.work) c.deliver.ensures not_so same below

-- ---- marks or a run are told

pub tell-requires : goal.tell-requires
tell-requires g c = run_at_length _ _ _ _ _ _ _ _ _ c.in-Run.ensures.work

pub returns-in-Run-clause-answer : goal.returns-in-Run-clause-answer
returns-in-Run-clause-answer g c = run_answered _ _ _ _ _ _ _ _ _ _ _ _ _ _ c.in-Run.ensures.work c.tell.ensures

pub returns-in-Run-clause-status : goal.returns-in-Run-clause-status
returns-in-Run-clause-status g c = run_few _ _ _ _ _ _ _ _ _ _ c.tell.ensures

pub returns-in-Run-clause-words_read : goal.returns-in-Run-clause-words_read
returns-in-Run-clause-words_read g c = λ two. absurd (run_not_two _ _ _ _ _ _ _ _ _ _ c.tell.ensures two)

pub returns-in-Run-clause-words_not_read : goal.returns-in-Run-clause-words_not_read
returns-in-Run-clause-words_not_read g c = λ none. absurd (run_is_read _ _ _ _ _ _ _ _ _ c.in-Run.ensures.work none)

pub returns-in-Run-clause-accepted : goal.returns-in-Run-clause-accepted
returns-in-Run-clause-accepted g c = λ asked files read told accepted three. run_not_three _ _ _ _ _ _ _ _ _ _ c.tell.ensures three

pub returns-in-Run-clause-not_accepted : goal.returns-in-Run-clause-not_accepted
returns-in-Run-clause-not_accepted g c = λ asked files read told not_so same below.
    let work = rw (read, told) at c.in-Run.ensures.work in
    absurd (not_so (run_accepted asked files _ _ work.2))

pub returns-in-Run-clause-shelf_failed : goal.returns-in-Run-clause-shelf_failed
returns-in-Run-clause-shelf_failed g c = λ four. absurd (run_not_four _ _ _ _ _ _ _ _ _ _ c.tell.ensures four)

pub returns-in-Run-clause-shelf_fault : goal.returns-in-Run-clause-shelf_fault
returns-in-Run-clause-shelf_fault g c = λ rose. absurd (run_is_calm _ _ _ _ _ _ _ _ _ c.in-Run.ensures.work rose)

pub returns-in-Run-clause-sink_failed : goal.returns-in-Run-clause-sink_failed
returns-in-Run-clause-sink_failed g c = λ five. run_sink_failed _ _ _ _ _ _ _ _ _ _ c.tell.ensures five

pub returns-in-Run-clause-sink_fault : goal.returns-in-Run-clause-sink_fault
returns-in-Run-clause-sink_fault g c = λ rose. run_sink_fault _ _ _ _ _ _ _ _ _ _ c.tell.ensures rose
