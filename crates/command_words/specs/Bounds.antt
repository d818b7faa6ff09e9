-- The limits of what the words may ask for.
use Rattle.std.specs.Prelude.{◌≡◌, ℕ, ◌<◌, ◌≤◌, true, Option}
use Rattle.std.specs.Option.{ForSome}
use Rattle.jvm_types.specs.declared.limits.TheConstants.{LEAST_HEAP, MOST_HEAP, MOST_WORKERS}
use Rattle.machine_types.specs.Settings.{AreSettings}
use Rattle.machine_types.specs.declared.config.Config.{Config}
use Rattle.command_words.specs.Command.{takes_files}
use Rattle.command_words.specs.RunValues.{are_few}
use Rattle.command_words.specs.declared.request.Green.{Green}
use Rattle.command_words.specs.declared.request.Mode.{Mode}
use Rattle.command_words.specs.declared.values.TheConstants.{MOST_EVENTS, MOST_SIZE, MOST_TURN}

-- workers of the system, and a turn
abbrev pub IsGreen : Green → Type 0
IsGreen g = (0 < g.workers) × (g.workers ≤ MOST_WORKERS) × (0 < g.turn) × (g.turn ≤ MOST_TURN)

-- a number of files that the mode takes; numbers of workers and of heap words, and settings, that
-- are inside the limits of the machine; a size that a cell and a load may have, events that a
-- record may have, and workers with their turn
pub record AreInBounds (mode : Mode) (files threads heap size events : ℕ) (cfg : Config)
    (green : Option Green) : Type 0 where
  pub taken : takes_files mode files ≡ true
  pub few_threads : threads ≤ MOST_WORKERS
  pub heap_from : LEAST_HEAP ≤ heap
  pub heap_to : heap ≤ MOST_HEAP
  pub some_size : 0 < size
  pub most_size : size ≤ MOST_SIZE
  pub some_event : 0 < events
  pub few_events : events ≤ MOST_EVENTS
  pub settings : AreSettings cfg
  pub few_workers : ForSome green IsGreen

-- what explains files takes 1 to 64 of them, and numbers and settings inside the same limits
pub record AreInExplainBounds (files threads heap : ℕ) (cfg : Config) : Type 0 where
  pub few : are_few files ≡ true
  pub few_threads : threads ≤ MOST_WORKERS
  pub heap_from : LEAST_HEAP ≤ heap
  pub heap_to : heap ≤ MOST_HEAP
  pub settings : AreSettings cfg
