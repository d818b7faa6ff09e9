-- What the words say of a run, in every program that reads such words.
use Rattle.std.specs.Prelude.{ℕ, nat_lt, nat_le, Bool, ◌&&◌, List, length, codes, Option, Some}
use Rattle.std.specs.Prelude.{None, if◌then◌else◌}
use Rattle.clap.specs.Walk.{Row, Text, first_of}
use Rattle.command_words.specs.Values.{◌>>=◌, number_or, on_or_off, order_or_none}
use Rattle.command_words.specs.declared.values.TheConstants.{USUAL_HEAP, USUAL_PRINTS, USUAL_STEPS}
use Rattle.jvm_types.specs.declared.limits.TheConstants.{LEAST_HEAP, MOST_FILES, MOST_HEAP}
use Rattle.jvm_types.specs.declared.limits.TheConstants.{MOST_LIMIT, MOST_PRINTS, MOST_WORKERS}
use Rattle.machine_types.specs.declared.config.Config.{Config}

-- a program is made of 1 to 64 files
abbrev pub are_few : ℕ → Bool
are_few count = nat_lt 0 count && nat_le count MOST_FILES

abbrev pub threads_of : List Row → Option ℕ
threads_of rows = number_or 0 0 MOST_WORKERS (first_of (codes "threads") rows)

abbrev pub heap_of : List Row → Option ℕ
heap_of rows = number_or USUAL_HEAP LEAST_HEAP MOST_HEAP (first_of (codes "heap") rows)

-- the limits of a run, and whether sections are elided
unfoldable pub settings_of : List Row → Option Config
settings_of rows = do
  steps ← number_or USUAL_STEPS 1 MOST_LIMIT (first_of (codes "steps") rows)
  turns ← number_or MOST_LIMIT 1 MOST_LIMIT (first_of (codes "turns") rows)
  prints ← number_or USUAL_PRINTS 1 MOST_PRINTS (first_of (codes "prints") rows)
  elide ← on_or_off (first_of (codes "elide") rows)
  range ← number_or MOST_LIMIT 1 MOST_LIMIT (first_of (codes "range") rows)
  Some (record { steps = steps; turns = turns; prints = prints; elide = elide; range = range })

abbrev pub order_of : List Row → Option (List ℕ)
order_of rows = order_or_none (first_of (codes "order") rows)
