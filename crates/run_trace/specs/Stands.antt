-- Where the threads of a run made their last instructions, along its events. Where an attempt
-- fails, what it did counts for nothing, and the last instruction is that which entered its
-- section. And how many failed turns in a row each has made last.
use Rattle.std.specs.Prelude.{ℕ, nat_lt, Bool, true, false, List, Option, Some, None}
use Rattle.std.specs.Prelude.{slice_get, slice_index_or, slice_set}
use Rattle.checked_program.specs.MarkedProgram.{MarkedProgram}
use Rattle.machine_types.specs.Core.{Core, Happening, Of, NextPart, event}
use Rattle.machine_types.specs.Threads.{Thread}
use Rattle.machine_types.specs.declared.attempt.AttemptHead.{AttemptHead}
use Rattle.machine_types.specs.declared.phase.Phase.{Phase}
use Rattle.event_texts.specs.declared.sights.Spot.{Spot}
use Rattle.run_trace.specs.FailedTurns.{is_failed_turn, row_behind}
use Rattle.run_trace.specs.declared.stands.Seen.{Seen}
pub use Rattle.run_trace.specs.declared.stands.Stand.{Stand}

-- before the first instruction of a thread
abbrev pub no_stand : Stand
no_stand = record { last = None; entry = None; row = 0 }

abbrev pub stand_at : List Stand → (t : ℕ) → Stand
stand_at stands t = slice_index_or stands t no_stand

-- behind an event that is told at a spot, by the attempt that its thread was in before it, and
-- whether that has failed
abbrev pub stand_by : Stand → (spot : Option Spot) → Option AttemptHead → (failed : Bool) → Stand
stand_by d spot None failed = record d { last = spot; entry = spot }
stand_by d spot (Some a) false = record d { last = spot }
stand_by d spot (Some a) true = record d { last = d.entry }

-- where its thread has counted so many that failed, and so many failed turns, and is in that phase
abbrev pub stand_then : Stand → Seen → (failed turns : ℕ) → Phase → Stand
stand_then d seen failed turns phase =
    record (stand_by d seen.before.spot seen.before.attempt
    (nat_lt seen.before.counts.failed failed))
    { row = row_behind seen.row (is_failed_turn seen.turns turns phase) }

abbrev pub stands_then : List Stand → (t : ℕ) → Option Seen → Option Thread → List Stand
stands_then stands t (Some seen) (Some y) =
    slice_set stands t (stand_then (stand_at stands t) seen y.counts.failed y.turns y.phase)
stands_then stands t seen y = stands

-- behind an event of a thread that was seen so
abbrev pub stands_after : MarkedProgram → Core → List Stand → Happening → Option Seen → List Stand
stands_after c s stands (Of t) seen =
    stands_then stands t seen (slice_get (event c s t).threads t)
stands_after c s stands NextPart seen = stands
