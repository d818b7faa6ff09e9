-- What stands in the words for locking, and how far the counters have come, is so at the start of a
-- run, and stays so.
use Rattle.std.specs.Prelude.{◌≡◌, ◌<◌, ℕ, ◌+◌, ◌^◌, List, Some, slice_get, slice_index}
use Rattle.checked_program.specs.MarkedProgram.{MarkedProgram, IsMarked}
use Rattle.machine_types.specs.declared.access.Access.TheVariants.{Add}
use Rattle.machine_types.specs.Core.{Core, start, event, next}
use Rattle.machine_types.specs.Events.{wanted}
use Rattle.machine_types.specs.PlainMemory.{Object, start_objects}
use Rattle.machine_types.specs.Threads.{Thread}
use Rattle.machine_types.specs.declared.config.Config.{Config}
use Rattle.laws_threads.specs.PartLaws.{PartsFit}
use Rattle.laws_states.specs.HeapFacts.{HeapFacts, objects_after}
use Rattle.laws_states.specs.Counters.{CountersFit}
use Rattle.laws_states.specs.RunFacts.{HaveWidth, AreThreads}
use Rattle.laws_states.specs.SharedWords.{LocksFit, RecordsFit}

-- ---- locks: that of a new object is free

abbrev pub StartLocksFit : Type 0
StartLocksFit = (c : MarkedProgram) (cfg : Config)
    → LocksFit cfg.range (start_objects c.program) (start c cfg).words

abbrev pub EventsKeepLocks : Type 0
EventsKeepLocks = (c : MarkedProgram) (cfg : Config) (objects : List Object) (s : Core) (t : ℕ)
    → IsMarked c → HeapFacts c objects s → AreThreads c cfg s → LocksFit cfg.range objects s.words
    → LocksFit cfg.range (objects_after c.program s t objects) (event c s t).words

-- ---- monitor records

abbrev pub StartRecordsFit : Type 0
StartRecordsFit = (c : MarkedProgram) (cfg : Config) → RecordsFit (start c cfg).words

abbrev pub EventsKeepRecords : Type 0
EventsKeepRecords = (c : MarkedProgram) (cfg : Config) (objects : List Object) (s : Core) (t : ℕ)
    → IsMarked c → HeapFacts c objects s → AreThreads c cfg s → RecordsFit s.words
    → RecordsFit (event c s t).words

-- ---- counters

abbrev pub StartCountersFit : Type 0
StartCountersFit = (c : MarkedProgram) (cfg : Config) → CountersFit c.program (start c cfg)

abbrev pub EventsKeepCounters : Type 0
EventsKeepCounters = (c : MarkedProgram) (cfg : Config) (objects : List Object) (s : Core) (t : ℕ)
    → IsMarked c → HeapFacts c objects s → AreThreads c cfg s → CountersFit c.program s
    → CountersFit c.program (event c s t)

abbrev pub NextKeepsCounters : Type 0
NextKeepsCounters = (c : MarkedProgram) (s : Core) → PartsFit s.threads → CountersFit c.program s
    → CountersFit c.program (next c s)

-- no sum passes what a word holds
abbrev pub SumsFit : Type 0
SumsFit = (c : MarkedProgram) (cfg : Config) (objects : List Object) (s : Core) (t : ℕ) (x : Thread)
    (word v : ℕ) → IsMarked c → HaveWidth cfg → HeapFacts c objects s → AreThreads c cfg s
    → CountersFit c.program s → slice_get s.threads t ≡ Some x
    → wanted c x x.phase ≡ Some (Add word v) → slice_index s.words word + v < 2 ^ 64
