-- What holds at each stage of a schedule.
use Rattle.std.proofs.Common.{◌≡◌, ◌≤◌, ℕ, suc, false, Option, Some, None, slice_get}
use Rattle.checked_program.specs.MarkedProgram.{MarkedProgram}
use Rattle.machine_types.specs.{Core.{Core, happened, lives}, Faithful.IsOver, Schedules.{Stage, First, Ordered, Rounds, Last, Turn}, Threads.Thread}

-- the part of thread 0
abbrev pub PartIs : (P : ℕ → Type 0) → Core → Type 0
PartIs P s = (x : Thread) → slice_get s.threads 0 ≡ Some x → P x.part

abbrev pub NoWorkerLives : Core → Type 0
NoWorkerLives s = (u : ℕ) → lives s (suc u) ≡ false

-- thread 0 is in `init`, and no worker has begun, or in `done`, and each worker is over
pub record IsAlone (P : ℕ → Type 0) (s : Core) : Type 0 where
  pub part : PartIs P s
  pub workers : NoWorkerLives s

-- the workers are in their part, and thread 0 waits for them
pub record IsWaiting (s : Core) : Type 0 where
  pub part : PartIs (λ n. n ≡ 1) s
  pub first : lives s 0 ≡ false

abbrev pub StageFits : Stage → Core → Type 0
StageFits (First order) s = IsAlone (λ n. n ≡ 0) s
StageFits (Ordered order) s = IsWaiting s
StageFits (Rounds from) s = IsWaiting s
StageFits Last s = IsAlone (λ n. 2 ≤ n) s

-- behind a turn it is so at the next stage; and where none comes, the run is over
abbrev pub TurnFits : MarkedProgram → Core → Option Turn → Type 0
TurnFits c s None = IsOver s
TurnFits c s (Some t) = StageFits t.stage (happened c s t.happening)
