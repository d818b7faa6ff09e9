-- Every run reaches states whose threads are lawful and whose words are what they are read as.
use Rattle.machine_types.specs.Core.{Core, Happening, Of, NextPart, start, happened, core}
use Rattle.laws_states.{specs.RunLaws.{StartHasRunFacts, EventsKeepFacts, NextKeepsFacts, EventsKeepThreads, HasRunFacts, RunsReach}, proofs.GrowingRuns.along}

pub runs_reach : StartHasRunFacts → EventsKeepFacts → NextKeepsFacts → EventsKeepThreads → RunsReach
unfolding core
runs_reach facts_start facts_event facts_next threads_event c cfg hs marked width parts =
    along (HasRunFacts c cfg) c one (start c cfg) hs (record { threads = parts.begin; facts = facts_start c cfg marked })
  where
    one : (s : Core) (h : Happening) → HasRunFacts c cfg s → HasRunFacts c cfg (happened c s h)
    one s (Of t) k = record { threads = threads_event c cfg s t marked width k.threads k.facts; facts = facts_event c cfg s t marked width k.threads k.facts }
    one s NextPart k = record { threads = parts.go_on s k.threads; facts = facts_next c cfg s k.threads k.facts }
