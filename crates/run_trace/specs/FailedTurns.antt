-- Failed turns: a thread looks in vain for what another one has to give, and changes no word that
-- threads share. Of those in a row the first is told; those behind it are left out, and the next
-- event of the thread that is told says how many.
use Rattle.std.specs.Prelude.{ℕ, ◌+◌, ◌-◌, nat_lt, Bool, true, false, ◌&&◌, Option, Some}
use Rattle.machine_types.specs.Threads.{Thread}
use Rattle.machine_types.specs.declared.phase.Phase.{Phase}
use Rattle.machine_types.specs.declared.phase.Phase.TheVariants as phases
use Rattle.event_texts.specs.Shares.{bounded_count}
use Rattle.run_trace.specs.declared.stands.Seen.{Seen}

-- by what its thread has counted before and behind it, and the phase behind it; the last one of a
-- part is none
abbrev pub is_failed_turn : (was now : ℕ) → Phase → Bool
is_failed_turn was now (phases.Ending e) = false
is_failed_turn was now phase = nat_lt was now

-- how many in a row stand behind an event
abbrev pub row_behind : (row : ℕ) → (failed : Bool) → ℕ
row_behind row true = bounded_count (row + 1)
row_behind row false = 0

-- one behind others
abbrev pub is_left_out : Option Seen → Option Thread → Bool
is_left_out (Some seen) (Some y) =
    nat_lt 0 seen.row && is_failed_turn seen.turns y.turns y.phase
is_left_out seen y = false

-- of those in a row, all but the first
abbrev pub left_out : (folds : Bool) → (row : ℕ) → ℕ
left_out true row = row - 1
left_out false row = 0
