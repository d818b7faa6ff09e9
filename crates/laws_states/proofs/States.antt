-- The facts on states hold at the start, and stay, so they hold in every state that a run reaches.
use Rattle.checked_program.specs.MarkedProgram.{MarkedProgram, IsMarked}
use Rattle.machine_types.specs.{Core.{Core, Happening, Of, NextPart, start, happened, core}, Owners.references_of, PlainMemory.start_objects}
use Rattle.machine_types.specs.{StartLaws.{phase_at_start, StartIsStructured, StartOwns, StartWaits}, declared.config.Config.Config}
use Rattle.laws_threads.specs.{PartLaws.{counted_next, NextKeepsStructure}, StateLaws.{counted_after, EventsKeepStructure}}
use Rattle.laws_states.specs.{HeapFacts.objects_after, HeapLaws.{StartHasHeap, EventsKeepHeap, NextKeepsHeap}}
use Rattle.laws_states.specs.KeptWords.{StartLocksFit, EventsKeepLocks, StartRecordsFit, EventsKeepRecords, StartCountersFit, EventsKeepCounters, NextKeepsCounters}
use Rattle.laws_states.specs.OwnersLaws.{EventsKeepOwners, NextKeepsOwners}
use Rattle.laws_states.specs.PartsLaws.{StartStandsInParts, EventsKeepParts, NextKeepsParts, StartPutsInitsFirst, EventsPutInitsFirst, NextPutsInitsFirst, HaveNoAttempts, StartHasNoAttempts, EventsMakeNoAttempts, NextMakesNoAttempts, NoAttempts}
use Rattle.laws_states.specs.{RunFacts.{HaveWidth, RunFacts}, RunLaws.{StartHasRunFacts, EventsKeepFacts, EventsKeepThreads, PartsKeepThreads}}
use Rattle.laws_states.proofs.GrowingRuns.{along}
use Rattle.laws_states.specs.{StateLaws.{StatesHaveFacts, StartHasState, EventsKeepState, NextKeepsState, IsInState, RunsHaveState}, WaitingLaws.{EventsKeepWaiting, NextKeepsWaiting}}

pub states_have_facts : StatesHaveFacts
states_have_facts c cfg objects was s f = record { objects = objects; heap = f.heap; locks = f.locks; records = f.records; counters = f.counters; small = f.small }

-- ---- the start

pub start_has_state : StartHasRunFacts → StartStandsInParts → StartPutsInitsFirst → StartHasHeap → StartLocksFit → StartRecordsFit → StartCountersFit → StartIsStructured → StartOwns → StartWaits → StartHasState
start_has_state facts parts inits heap locks records counters structure owners waiting c cfg marked keep = record {
  threads = keep.begin;
  parts = parts c cfg;
  class_inits = inits c cfg;
  heap = heap c cfg marked;
  locks = locks c cfg;
  records = records c cfg;
  counters = counters c cfg;
  small = (facts c cfg marked).small;
  structure = structure c cfg;
  owners = owners c cfg marked.checked.program;
  waiting = waiting c cfg;
}

-- ---- an event

pub events_keep_state : EventsKeepFacts → EventsKeepThreads → EventsKeepParts → EventsPutInitsFirst → EventsKeepHeap → EventsKeepLocks → EventsKeepRecords → EventsKeepCounters → EventsKeepStructure → EventsKeepOwners → EventsKeepWaiting → EventsKeepState
events_keep_state facts threads parts inits heap locks records counters structure owners waiting c cfg objects was s t marked width f =
    let old : RunFacts c cfg s = states_have_facts c cfg objects was s f in
    record {
      threads = threads c cfg s t marked width f.threads old;
      parts = parts c cfg s t marked f.threads f.parts;
      class_inits = inits c cfg s t marked f.threads f.class_inits;
      heap = heap c objects s t marked f.heap (f.threads.lawful t);
      locks = locks c cfg objects s t marked f.heap f.threads f.locks;
      records = records c cfg objects s t marked f.heap f.threads f.records;
      counters = counters c cfg objects s t marked f.heap f.threads f.counters;
      small = (facts c cfg s t marked width f.threads old).small;
      structure = structure c objects was s t marked f.structure (λ x e. (f.heap.typed.threads t x e, (f.threads.own t x e).rooted));
      owners = owners c cfg objects was s t marked f.heap f.threads f.structure f.owners;
      waiting = waiting c cfg objects was s t marked f.heap f.threads f.records f.structure f.owners f.waiting;
    }

-- ---- where a part begins

pub next_keeps_state : NextKeepsParts → NextPutsInitsFirst → NextKeepsHeap → NextKeepsCounters → NextKeepsStructure → NextKeepsOwners → NextKeepsWaiting → NextKeepsState
next_keeps_state parts inits heap counters structure owners waiting c cfg objects was s marked keep f = record {
  threads = keep.go_on s f.threads;
  parts = parts c s f.parts;
  class_inits = inits c cfg s f.threads f.class_inits;
  heap = heap c objects (counted_next c was s) s f.heap (structure c was s f.threads.parts f.structure);
  locks = f.locks;
  records = f.records;
  counters = counters c s f.threads.parts f.counters;
  small = f.small;
  structure = structure c was s f.threads.parts f.structure;
  owners = owners c (references_of objects) was s f.structure f.owners;
  waiting = waiting c was s f.threads.parts f.structure f.waiting;
}

-- ---- every run

pub state_at_start : StartHasState → (c : MarkedProgram) (cfg : Config) → IsMarked c
    → PartsKeepThreads c cfg → IsInState c cfg (start c cfg)
state_at_start begin c cfg marked parts =
    record { objects = start_objects c.program; was = phase_at_start c cfg; facts = begin c cfg marked parts }

pub state_goes_on : EventsKeepState → NextKeepsState → (c : MarkedProgram) (cfg : Config) → IsMarked c
    → HaveWidth cfg → PartsKeepThreads c cfg → (s : Core) (h : Happening)
    → IsInState c cfg s → IsInState c cfg (happened c s h)
state_goes_on on_event on_next c cfg marked width parts s (Of t) k = record {
  objects = objects_after c.program s t k.objects;
  was = counted_after c k.was s t;
  facts = on_event c cfg k.objects k.was s t marked width k.facts;
}
state_goes_on on_event on_next c cfg marked width parts s NextPart k =
    record { objects = k.objects; was = counted_next c k.was s; facts = on_next c cfg k.objects k.was s marked parts k.facts }

pub runs_have_state : StartHasState → EventsKeepState → NextKeepsState → RunsHaveState
unfolding core
runs_have_state begin on_event on_next c cfg hs marked width parts =
    along (IsInState c cfg) c (state_goes_on on_event on_next c cfg marked width parts) (start c cfg) hs (state_at_start begin c cfg marked parts)

-- ---- attempts

pub no_attempts : StartHasState → EventsKeepState → NextKeepsState → StartHasNoAttempts → EventsMakeNoAttempts → NextMakesNoAttempts → NoAttempts
unfolding core
no_attempts begin on_event on_next begin_none event_none next_none c cfg hs marked width parts never =
    (along (λ s. IsInState c cfg s × HaveNoAttempts s) c one (start c cfg) hs (state_at_start begin c cfg marked parts, begin_none c cfg)).1
  where
    one : (s : Core) (h : Happening) → IsInState c cfg s × HaveNoAttempts s → IsInState c cfg (happened c s h) × HaveNoAttempts (happened c s h)
    one s (Of t) k = (state_goes_on on_event on_next c cfg marked width parts s (Of t) k.0, event_none c cfg s t never k.0.facts.threads k.0.facts.parts k.1)
    one s NextPart k = (state_goes_on on_event on_next c cfg marked width parts s NextPart k.0, next_none c s k.1)
