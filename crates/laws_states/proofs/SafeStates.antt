-- Every thread of a state that a run reaches is safe.
use Rattle.std.proofs.Common.{ap, arith}
use Rattle.machine_types.specs.{Accesses.found_by, Core.core, Events.wanted}
use Rattle.laws_states.{specs.{RunLaws.ReachedFits, RunSafety.RunsAreSafe, StateLaws.{ProgramsKeepThreads, RunsHaveState, StatesHaveFacts}, WorkLeft.work_left}, proofs.{NextEvents.has_event, WorkFalls.events_lessen_work}}

pub runs_are_safe : ProgramsKeepThreads → RunsHaveState → StatesHaveFacts → ReachedFits → RunsAreSafe
runs_are_safe keep reach facts fits c cfg hs t x marked width set e =
    let k = reach c cfg hs marked width (keep c cfg marked set) in
    let lawful = k.facts.threads.lawful t x e in
    record {
      lawful = lawful;
      access = fits c cfg (core c cfg hs) t x marked width k.facts.threads (facts c cfg k.objects k.was (core c cfg hs) k.facts) e;
      goes = has_event c x marked lawful;
      -- what falls is not as it was
      moves = λ live same. omega (arith, (ap work_left same), (events_lessen_work c x (found_by (core c cfg hs).words (wanted c x x.phase)) marked lawful live));
    }
