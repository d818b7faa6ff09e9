-- What a table shows behind the events of a thread that one of its views has.
use Rattle.std.specs.Prelude.{◌≡◌, ℕ, List, Some, slice_set}
use mathlib.Core.Option.{some}
use lib.ListN.{get_elem?}
use Rattle.checked_program.specs.MarkedProgram.{MarkedProgram}
use Rattle.machine_types.specs.Accesses.{words_after}
use Rattle.machine_types.specs.Events.{wanted}
use Rattle.machine_types.specs.Threads.{Thread}
use Rattle.machine_types.specs.declared.config.Config.{Config}
use Rattle.laws_states.specs.GrowingRuns.{IsOfRun, behind}
use Rattle.local_events.specs.Locals.{Follows}
use Rattle.table_rule.specs.Views.{View, held_in, ShowsRun, StandsIn}

-- View number id has thread t as x, and events without an access lead from x to y. Then one event
-- more leaves its words and its thread, and all else as before; and that thread is one of a run.
abbrev pub EventsShow : Type 0
EventsShow =
    (c : MarkedProgram) (cfg : Config) (words : List ℕ) (views : List View) (id t : ℕ) (v : View)
    (x y : Thread)
    → ShowsRun c cfg words views → get_elem? views id ≡ some v
    → held_in v t ≡ Some x → Follows c x y
    → ShowsRun c cfg (words_after words (wanted c y y.phase))
    (slice_set views id (slice_set v t (Some (behind c words y))))
    × IsOfRun c cfg t (behind c words y)

-- the events without an access alone leave the words as they were
abbrev pub LocalsShow : Type 0
LocalsShow =
    (c : MarkedProgram) (cfg : Config) (words : List ℕ) (views : List View) (id t : ℕ) (v : View)
    (x y : Thread)
    → ShowsRun c cfg words views → get_elem? views id ≡ some v
    → held_in v t ≡ Some x → Follows c x y
    → ShowsRun c cfg words (slice_set views id (slice_set v t (Some y))) × StandsIn c cfg words t y
