-- Workers, and the whole of a run.
use Rattle.std.specs.Prelude.{◌≡◌, ◌≢◌, ℕ, ◌+◌, ◌<◌, ◌≤◌, suc, Bool, false, Option, Some, List, []}
use Rattle.std.specs.Prelude.{length, option_map, IsSome, is_some, slice_index_or}
use Rattle.atomic_table.specs.Seated.{TableId}
use Rattle.checked_program.specs.MarkedProgram.{MarkedProgram}
use Rattle.laws_threads.specs.GivenThread.{given_of}
use Rattle.machine_types.specs.Core.{core, is_live_thread, may_begin}
use Rattle.machine_types.specs.Threads.{Thread}
use Rattle.machine_types.specs.declared.config.Config.{Config}
use Rattle.table_rule.specs.Views.{View, HasThreads, HoldsAll, held_in}
use Rattle.table_runner.specs.Handed.{Handed, IsTableOf}
use Rattle.table_runner.specs.Sharing.{IsNextPart}

-- the hands of the start of a run
pub record AtStart (table : TableId) (c : MarkedProgram) (cfg : Config) (h : Handed) : Type 0 where
  pub of : IsTableOf table c cfg h
  -- those of the state that no event has led to
  pub threads : HasThreads h.threads (core c cfg []).threads

-- the same hands later: they hold the same threads
pub record AreSame (h after : Handed) : Type 0 where
  pub program : after.program ≡ h.program
  pub cfg : after.cfg ≡ h.cfg
  pub table : after.table_id ≡ h.table_id
  pub numbers : (u : ℕ) → is_some (held_in after.threads u) ≡ is_some (held_in h.threads u)

-- the same hands, when thread t alone has made some events
pub record IsRunOn (t : ℕ) (h after : Handed) : Type 0 where
  pub same : AreSame h after
  pub others : (u : ℕ) → u ≢ t → held_in after.threads u ≡ held_in h.threads u
  pub given : option_map given_of (held_in after.threads t)
      ≡ option_map given_of (held_in h.threads t)

-- Thread 0 alone has made events until it was not live, and then the next part has begun, or may
-- not. So no worker has made any of that part.
pub record HasRunFirst (h after : Handed) (begun : Bool) : Type 0 where
  pub behind : Handed
  pub events : IsRunOn 0 h behind
  pub over : is_live_thread (held_in behind.threads 0) ≡ false
  pub next : IsNextPart behind after begun

-- ---- how far a run is

-- what part thread 0 is in
abbrev pub part_in : View → Option ℕ
part_in v = option_map (λ x. x.part) (held_in v 0)

abbrev pub NoWorkerLivesIn : View → Type 0
NoWorkerLivesIn v = (u : ℕ) → is_live_thread (held_in v (suc u)) ≡ false

-- thread 0 is in `init` or in `done`, and no worker is live
pub record IsAlone (part : ℕ) (v : View) : Type 0 where
  pub part_is : part_in v ≡ Some part
  pub workers : NoWorkerLivesIn v

-- the workers are in their part, and thread 0 waits for them
pub record IsWaiting (v : View) : Type 0 where
  pub part_is : part_in v ≡ Some 1
  pub first : is_live_thread (held_in v 0) ≡ false

-- no thread is live, and no part may begin
pub record HaveEnded (v : View) : Type 0 where
  pub dead : (t : ℕ) → is_live_thread (held_in v t) ≡ false
  pub last : (ts : List Thread) → HasThreads v ts → may_begin ts ≡ false

-- ---- the workers' part

-- hands of this run that hold all of its threads
pub record RunsHere (table : TableId) (c : MarkedProgram) (cfg : Config) (h : Handed) : Type 0 where
  pub of : IsTableOf table c cfg h
  pub all : HoldsAll c h.threads

-- hands of a worker of this run
pub record IsWorker (table : TableId) (c : MarkedProgram) (cfg : Config) (t : ℕ) (h : Handed)
    : Type 0 where
  pub of : IsTableOf table c cfg h
  pub held : IsSome (held_in h.threads t)

-- those of worker 1, of worker 2 and so on
abbrev pub AreWorkers : TableId → MarkedProgram → Config → List Handed → Type 0
AreWorkers table c cfg hands =
    (i : ℕ) (d : Handed) → i < length hands
    → IsWorker table c cfg (i + 1) (slice_index_or hands i d)

-- hands that hold thread 0 as it was, and the workers from a number on
pub record RestOf (table : TableId) (c : MarkedProgram) (cfg : Config) (from : ℕ)
    (first : Option Thread) (h : Handed) : Type 0 where
  pub of : IsTableOf table c cfg h
  pub some : IsSome first
  pub first_is : held_in h.threads 0 ≡ first
  pub rest : (u : ℕ) → from ≤ u → u ≤ c.program.workers → IsSome (held_in h.threads u)

-- the workers below a number are not live
abbrev pub AreDeadBelow : (n : ℕ) → View → Type 0
AreDeadBelow n v = (u : ℕ) → 0 < u → u < n → is_live_thread (held_in v u) ≡ false
