-- How the turns of a machine lead through the stages of a run, whatever the order holds behind
-- them.
use Rattle.std.specs.Prelude.{◌≡◌, ℕ, suc, false, List, ◌++◌}
use Rattle.checked_program.specs.MarkedProgram.{MarkedProgram}
use Rattle.machine_types.specs.Core.{Core, Happening, all_happened, lives}
use Rattle.machine_types.specs.Schedules.{IsSchedule, Stage, Ordered}
use Rattle.replay_runner.specs.Running.{Running}

-- from a stage and a state to others, by the same happenings for each rest of the order
pub record Comes (c : MarkedProgram) (from : List ℕ → Stage) (s : Core) (to : List ℕ → Stage)
    (t : Core) : Type 0 where
  pub happenings : List Happening
  pub leads : (rest : List ℕ) (hs : List Happening) → IsSchedule c (to rest) t hs
      → IsSchedule c (from rest) s (happenings ++ hs)
  pub state : all_happened c s happenings ≡ t

-- the same run, in another state
abbrev pub IsSameRun : Running → Running → Type 0
IsSameRun m n = n ≡ record m { core = n.core }

-- an order leads a machine on
pub record IsLedByOrder (m : Running) (order : List ℕ) (n : Running) : Type 0 where
  pub same : IsSameRun m n
  pub comes : Comes m.program (λ rest. Ordered (order ++ rest)) m.core (λ rest. Ordered rest) n.core

abbrev pub NoWorkerLives : Core → Type 0
NoWorkerLives s = (u : ℕ) → lives s (suc u) ≡ false

-- the machine has come to the end of the run, from a stage on, whatever the rest of the order is
pub record IsRunFinished (m : Running) (from : List ℕ → Stage) (n : Running) : Type 0 where
  pub same : IsSameRun m n
  pub happenings : List Happening
  pub schedule : (rest : List ℕ) → IsSchedule m.program (from rest) m.core happenings
  pub state : all_happened m.program m.core happenings ≡ n.core
