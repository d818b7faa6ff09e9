-- The turns that the workers have on one thread of the system.
use Rattle.std.specs.Prelude.{◌≡◌, ℕ, zero, suc, ◌+◌, List, [], ◌++◌, replicate}
use Rattle.std.specs.List.{flat_map, range_with_len}
use Rattle.checked_program.specs.MarkedProgram.{MarkedProgram}
use Rattle.jvm_types.specs.declared.outcome.Outcome.{Outcome}
use Rattle.machine_types.specs.Core.{Happening, core, outcome}
use Rattle.machine_types.specs.Schedules.{IsScheduleOf}
use Rattle.machine_types.specs.declared.config.Config.{Config}

-- the order in which each worker has so many events, one worker after the other by their numbers
abbrev pub one_round : (turn workers : ℕ) → List ℕ
one_round turn workers = flat_map (replicate turn) (range_with_len 1 workers)

-- so many rounds
abbrev pub rounds : (turn workers n : ℕ) → List ℕ
rounds turn workers zero = []
rounds turn workers (suc n) = one_round turn workers ++ rounds turn workers n

-- An order passes over the number of a worker that is not live. So here the workers' part gives
-- each live worker, in order of numbers, a turn of so many events, or as many as it has, over and
-- over until none is live: behind some number of rounds it makes no difference how many more there
-- are.
abbrev pub IsTurnsOf : MarkedProgram → Config → (turn : ℕ) → List Happening → Type 0
IsTurnsOf c cfg turn hs =
    (n : ℕ) × ((more : ℕ) → IsScheduleOf c cfg (rounds turn c.program.workers (n + more)) hs)

-- what a run in turns comes to
abbrev pub IsRunInTurns : MarkedProgram → Config → (turn : ℕ) → Outcome → Type 0
IsRunInTurns c cfg turn o =
    (hs : List Happening) × IsTurnsOf c cfg turn hs × (o ≡ outcome (core c cfg hs))
