-- What is known of a machine and its order whenever their lock is free: of which run they are, and
-- that the order led the machine to its state.
use Rattle.std.specs.Prelude.{◌≡◌, ◌<◌, ◌≤◌, ℕ, true, false, List, [], ◌∷◌, ◌++◌, length, slice_get}
use Rattle.std.specs.Prelude.{Option, None, Some, ◌⊎◌}
use Rattle.checked_program.specs.MarkedProgram.{MarkedProgram}
use Rattle.machine_types.specs.Core.{Core, event, may_begin, start}
use Rattle.machine_types.specs.Schedules.{is_live_worker}
use Rattle.machine_types.specs.declared.config.Config.{Config}
use Rattle.record_run.specs.Recordings.{AreLiveWorkers, IsBeginOfWorkers, IsRecorded, after_order}
use Rattle.record_run.specs.declared.recording.Recorded.{Recorded}
use Rattle.replay_runner.specs.Running.{Running, events, turns_of}

-- a machine, the order of its workers' events, and how many of them are kept at most
pub record Kept : Type 0 where
  pub machine : Running
  pub order : List ℕ
  pub most : ℕ

-- which run it is
pub record NamedRecord : Type 0 where
  pub program : MarkedProgram
  pub cfg : Config
  pub most : ℕ

-- the run is one of this program
abbrev pub IsRecordOfProgram : Option NamedRecord → MarkedProgram → Type 0
IsRecordOfProgram run c =
    (cfg : Config) × (most : ℕ) × (run ≡ Some (record { program = c; cfg = cfg; most = most }))

-- the workers begin, behind an `init` that returned
pub record HaveBegun (c : MarkedProgram) (cfg : Config) (s : Core) : Type 0 where
  pub begin : IsBeginOfWorkers c cfg s
  pub returned : may_begin (events c (start c cfg) 0 begin.count).threads ≡ true

-- the order led the machine of the run to its state, from the begin of the workers on
pub record IsKeptOf (run : Option NamedRecord) (k : Kept) : Type 0 where
  pub named : run
      ≡ Some (record { program = k.machine.program; cfg = k.machine.cfg; most = k.most })
  pub few : length k.order ≤ k.most
  pub at : Core
  pub begin : HaveBegun k.machine.program k.machine.cfg at
  pub live : AreLiveWorkers k.machine.program at k.order
  pub led : k.machine.core ≡ after_order k.machine.program at k.order

-- it has room for no more events, or no worker is live
abbrev pub IsFull : Kept → Type 0
IsFull k = (k.most ≤ length k.order) ⊎ ((t : ℕ) → is_live_worker k.machine.core t ≡ false)

-- an event of a live worker while there is room, behind the order, and how many turns that worker
-- has failed then; else none, and nothing changes
abbrev pub IsEventKept : (t : ℕ) → (was now : Kept) → Option ℕ → Type 0
IsEventKept t was now None =
    ((was.most ≤ length was.order) ⊎ (is_live_worker was.machine.core t ≡ false)) × (now ≡ was)
IsEventKept t was now (Some turns) =
    (length was.order < was.most) × (is_live_worker was.machine.core t ≡ true)
    × (now
    ≡ record was {
      machine =
          record was.machine { core = event was.machine.program was.machine.core t };
      order = was.order ++ t ∷ [];
    }) × (turns ≡ turns_of (slice_get now.machine.core.threads t))

-- what the run comes to
abbrev pub IsRecordOf : (run : Option NamedRecord) → Recorded → Type 0
IsRecordOf None r = ⊥
IsRecordOf (Some n) r = IsRecorded n.program n.cfg n.most r.order r.outcome
