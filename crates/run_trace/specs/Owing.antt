-- How many steps each thread owes of its open attempt, in place of a list of them.
use Rattle.std.specs.Prelude.{ℕ, List, Option, Some, None, slice_get, slice_index_or, slice_set}
use Rattle.std.specs.Option.{option_map}
use Rattle.checked_program.specs.MarkedProgram.{MarkedProgram}
use Rattle.machine_types.specs.Accesses.{found_by}
use Rattle.machine_types.specs.Core.{Core, Happening, Of, NextPart}
use Rattle.machine_types.specs.Events.{wanted}
use Rattle.event_texts.specs.Shares.{owed_behind, share_by}
use Rattle.run_trace.specs.EventLines.{seen_with}
use Rattle.run_trace.specs.Stands.{Stand, stand_at}
use Rattle.run_trace.specs.declared.stands.Seen.{Seen}

abbrev pub owed_at : (owed : List ℕ) → (t : ℕ) → ℕ
owed_at owed t = slice_index_or owed t 0

abbrev pub seen_by : MarkedProgram → Core → (owed : List ℕ) → List Stand → Happening → Option Seen
seen_by c s owed stands (Of t) =
    option_map (λ x.
    seen_with c s.words (stand_at stands t) x
    (share_by c x x.attempt (found_by s.words (wanted c x x.phase)) (owed_at owed t)))
    (slice_get s.threads t)
seen_by c s owed stands NextPart = None

-- behind an event
abbrev pub owed_after : (owed : List ℕ) → Happening → Option Seen → List ℕ
owed_after owed (Of t) (Some seen) = slice_set owed t (owed_behind seen.share (owed_at owed t))
owed_after owed h seen = owed
