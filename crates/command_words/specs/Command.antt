-- What the words of `solero` mean: what `clap` finds for one simple command, and then the rules for
-- the values.
use Rattle.std.specs.Prelude.{ℕ, ◌==◌, Bool, List, [], ◌∷◌, length, codes, bytes_eq, Option, Some}
use Rattle.std.specs.Prelude.{None, if◌then◌else◌}
use Rattle.clap.specs.Walk.{Row, Text, first_of}
use Rattle.clap.specs.Simple.{App}
use Rattle.jvm_types.specs.declared.limits.TheConstants.{MOST_LIMIT, MOST_WORKERS}
use Rattle.machine_types.specs.declared.config.Config.{Config}
use Rattle.command_words.specs.RunValues.{are_few, heap_of, order_of, settings_of, threads_of}
use Rattle.command_words.specs.Values.{◌>>=◌, number, number_or, number_within}
use Rattle.command_words.specs.Words.{command_of, found_in_words, gives_any, names_of}
use Rattle.command_words.specs.declared.request.Green.{Green}
use Rattle.command_words.specs.declared.request.Memory.{Memory}
use Rattle.command_words.specs.declared.request.Mode.{Mode}
use Rattle.command_words.specs.declared.request.Task.{Task}
use Rattle.command_words.specs.declared.values.TheConstants.{MOST_EVENTS, MOST_SIZE, MOST_TURN}
use Rattle.command_words.specs.declared.values.TheConstants.{USUAL_SIZE, USUAL_TURN}
use Rattle.command_words.specs.declared.request.Memory.TheVariants.{Table, Locked}
use Rattle.command_words.specs.declared.request.Mode.TheVariants as modes
use Rattle.command_words.specs.declared.request.Task.TheVariants.{Replay, Run, Record, Mark}

abbrev pub the_command : App
the_command = command_of (codes "solero")
    (codes "mode" ∷ codes "threads" ∷ codes "order" ∷ codes "steps" ∷ codes "turns" ∷ codes "heap"
    ∷ codes "prints" ∷ codes "elide" ∷ codes "range" ∷ codes "memory" ∷ codes "size"
    ∷ codes "seed" ∷ codes "events" ∷ codes "workers" ∷ codes "turn" ∷ [])

-- ---- values

abbrev pub mode_or_replay : Option Text → Option Mode
mode_or_replay None = Some (modes.Program Replay)
mode_or_replay (Some text) =
    if bytes_eq text (codes "replay") then Some (modes.Program Replay)
    else if bytes_eq text (codes "run") then Some (modes.Program Run)
    else if bytes_eq text (codes "record") then Some (modes.Program Record)
    else if bytes_eq text (codes "mark") then Some (modes.Program Mark)
    else if bytes_eq text (codes "list") then Some modes.List
    else if bytes_eq text (codes "asm") then Some modes.Assemble
    else if bytes_eq text (codes "load") then Some modes.Load
    else if bytes_eq text (codes "cell") then Some modes.Cell
    else None

abbrev pub memory_or_table : Option Text → Option Memory
memory_or_table None = Some Table
memory_or_table (Some text) =
    if bytes_eq text (codes "table") then Some Table else if bytes_eq text (codes "locked")
    then Some Locked else None

-- workers of the system that run the threads of the program, and how many events each gives a
-- thread before the next
abbrev pub green : (workers : Text) (turn : Option Text) → Option Green
green workers turn = do
  many ← number_within 1 MOST_WORKERS (number workers)
  turn ← number_or USUAL_TURN 1 MOST_TURN turn
  Some (record { workers = many; turn = turn })

-- these, where the words give them: workers beside the table alone, and a turn beside workers alone
abbrev pub green_or_none : Memory → (workers turn : Option Text) → Option (Option Green)
green_or_none memory None None = Some None
green_or_none memory None (Some turn) = None
green_or_none Table (Some workers) turn = green workers turn >>= (λ g. Some (Some g))
green_or_none Locked (Some workers) turn = None

-- how many files a mode takes: a program is made of 1 to 64, one is listed or assembled, and a load
-- and a cell have none
abbrev pub takes_files : Mode → ℕ → Bool
takes_files (modes.Program task) count = are_few count
takes_files modes.List count = count == 1
takes_files modes.Assemble count = count == 1
takes_files modes.Load count = count == 0
takes_files modes.Cell count = count == 0

-- the names of the files, where the mode takes so many
abbrev pub files_for : Mode → List Text → Option (List Text)
files_for mode names = if takes_files mode (length names) then Some names else None

-- ---- the whole

-- what the words ask for
pub record Asked : Type 0 where
  pub mode : Mode
  pub files : List Text
  pub threads : ℕ
  pub heap : ℕ
  pub cfg : Config
  pub order : List ℕ
  pub memory : Memory
  pub size : ℕ
  pub seed : ℕ
  pub events : ℕ
  pub green : Option Green

-- The options that a mode doesn't read. An order is chosen for a replay alone, a memory for a run
-- and a load, a size for a load and a cell; a seed is that of a load, events are those of a record,
-- and workers with their turn those of a run.
abbrev pub not_read : Mode → List Text
not_read (modes.Program Replay) =
    codes "memory" ∷ codes "size" ∷ codes "seed" ∷ codes "events" ∷ codes "workers" ∷ codes "turn"
    ∷ []
not_read (modes.Program Run) = codes "order" ∷ codes "size" ∷ codes "seed" ∷ codes "events" ∷ []
not_read (modes.Program Record) =
    codes "order" ∷ codes "memory" ∷ codes "size" ∷ codes "seed" ∷ codes "workers" ∷ codes "turn"
    ∷ []
not_read modes.Load = codes "order" ∷ codes "events" ∷ codes "workers" ∷ codes "turn" ∷ []
not_read modes.Cell =
    codes "order" ∷ codes "memory" ∷ codes "seed" ∷ codes "events" ∷ codes "workers" ∷ codes "turn"
    ∷ []
not_read mode =
    codes "order" ∷ codes "memory" ∷ codes "size" ∷ codes "seed" ∷ codes "events" ∷ codes "workers"
    ∷ codes "turn" ∷ []

unfoldable pub asked : List Row → Option Asked
asked rows = do
  mode ← mode_or_replay (first_of (codes "mode") rows)
  files ← files_for mode (names_of rows)
  threads ← threads_of rows
  heap ← heap_of rows
  cfg ← settings_of rows
  order ← order_of rows
  memory ← memory_or_table (first_of (codes "memory") rows)
  size ← number_or USUAL_SIZE 1 MOST_SIZE (first_of (codes "size") rows)
  seed ← number_or 0 0 MOST_LIMIT (first_of (codes "seed") rows)
  events ← number_or MOST_EVENTS 1 MOST_EVENTS (first_of (codes "events") rows)
  green ← green_or_none memory (first_of (codes "workers") rows) (first_of (codes "turn") rows)
  if gives_any rows (not_read mode) then None
      else Some (record {
        mode = mode;
        files = files;
        threads = threads;
        heap = heap;
        cfg = cfg;
        order = order;
        memory = memory;
        size = size;
        seed = seed;
        events = events;
        green = green;
      })

-- what the words ask for; None where they are not read
unfoldable pub command : List Text → Option Asked
command words = found_in_words the_command words >>= asked
