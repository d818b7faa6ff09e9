-- What is told of a run, in lines or as objects of JSON, each of which is a line too: one for each
-- event that is told, made of the state before it and the state behind it, and one for each part
-- that begins.
use Rattle.std.specs.Prelude.{ℕ, zero, suc, ◌+◌, ◌-◌, ◌^◌, min, Bool, true, false, ◌&&◌, length}
use Rattle.std.specs.Prelude.{List, [], ◌∷◌, ◌++◌, codes, replicate, Option, Some, None, slice_get}
use Rattle.std.specs.Option.{option_map}
use Rattle.checked_program.specs.MarkedProgram.{MarkedProgram}
use Rattle.machine_types.specs.Accesses.{found_by}
use Rattle.machine_types.specs.Core.{Core, Happening, Of, NextPart, core, event, outcome}
use Rattle.machine_types.specs.Events.{wanted}
use Rattle.machine_types.specs.History.{Told, found_by_event, past_at, told, told_start}
use Rattle.machine_types.specs.Threads.{Thread}
use Rattle.machine_types.specs.declared.config.Config.{Config}
use Rattle.place_names.specs.declared.names.Names.{Names}
use Rattle.event_texts.specs.EventFacts.{event_end_in, event_facts, standing_in}
use Rattle.event_texts.specs.Shares.{share_at}
use Rattle.event_texts.specs.Sights.{after_event, before_of}
use Rattle.event_texts.specs.declared.shares.Share.{Share}
use Rattle.event_texts.specs.declared.sights.Before.{Before}
use Rattle.json_lines.specs.declared.form.Form.{Form}
use Rattle.json_lines.specs.declared.form.Form.TheVariants.{Lines, Json}
use Rattle.tellings.specs.Forms.{told_in}
use Rattle.tellings.specs.declared.facts.Fact.{Fact}
use Rattle.tellings.specs.declared.facts.Fact.TheVariants.{Count, Text, Words}
use Rattle.tellings.specs.declared.keys.Key.TheVariants as keys
use Rattle.run_trace.specs.FailedTurns.{is_left_out, left_out}
use Rattle.run_trace.specs.Lines.{TraceLine, shown_text, with_line}
use Rattle.run_trace.specs.ReportJson.{report_in}
use Rattle.run_trace.specs.Stands.{Stand, no_stand, stand_at, stands_after}
use Rattle.run_trace.specs.declared.events.Part.{Part}
use Rattle.run_trace.specs.declared.stands.Seen.{Seen}

-- ---- one event

-- a thread whose event comes next
abbrev pub seen_before : MarkedProgram → (words : List ℕ) → Stand → Thread → Before
seen_before c words d x =
    before_of c.program x d.last (wanted c x x.phase) (found_by words (wanted c x x.phase))

abbrev pub seen_with : MarkedProgram → (words : List ℕ) → Stand → Thread → Share → Seen
seen_with c words d x share =
    record { before = seen_before c words d x; share = share; turns = x.turns; row = d.row }

-- a state with the pasts of its threads, and where these made their last instructions
pub record Trail : Type 0 where
  pub told : Told
  pub stands : List Stand

abbrev pub trail_start : MarkedProgram → Config → Trail
trail_start c cfg = record {
  told = told_start c cfg;
  stands = replicate (c.program.workers + 1) no_stand;
}

-- with what the shadow of the run has for its event
abbrev pub seen_of_event : MarkedProgram → Trail → Happening → Option Seen
seen_of_event c v (Of t) =
    option_map (λ x.
    seen_with c v.told.core.words (stand_at v.stands t) x
    (share_at c x x.attempt (found_by_event c v.told x) (past_at v.told t)))
    (slice_get v.told.core.threads t)
seen_of_event c v NextPart = None

abbrev pub trail_after : MarkedProgram → Trail → Happening → Trail
trail_after c v h = record {
  told = told c v.told h;
  stands = stands_after c v.told.core v.stands h (seen_of_event c v h);
}

abbrev pub trail_along : MarkedProgram → Trail → List Happening → Trail
trail_along c v [] = v
trail_along c v (h ∷ hs) = trail_along c (trail_after c v h) hs

-- the line of an event by the thread before it, and by the thread and the words behind it
abbrev pub line_between : MarkedProgram → Part → Names → (number : ℕ)
    → (words : List ℕ) → Option Seen → Option Thread → List ℕ
line_between c part names number words (Some seen) (Some y) =
    told_in part.form (codes "event")
    (event_facts c names number (left_out part.folds seen.row) seen.before seen.share
    (after_event y (found_by words seen.before.access)))
line_between c part names number words seen y = []

-- the line of the end that it leads to, where that is no return
abbrev pub end_between : MarkedProgram → Names → Form → (number : ℕ) → Option Seen → Option Thread
    → List ℕ
end_between c names form number (Some seen) (Some y) =
    event_end_in form c.program names.sources number seen.before y.phase
end_between c names form number seen y = []

-- ---- the begin of a part: the workers behind `init`, `done` behind the workers

abbrev pub part_text : (part : ℕ) → List ℕ
part_text zero = codes " the workers begin"
part_text part = codes " done begins"

abbrev pub part_name : (part : ℕ) → List ℕ
part_name zero = codes "workers"
part_name part = codes "done"

abbrev pub part_facts : (number part : ℕ) → List Fact
part_facts number part =
    Count keys.Number number ∷ Text keys.Begins (part_name part) ∷ Words (part_text part) ∷ []

-- behind so many
abbrev pub part_line : Form → (number : ℕ) → (begun : Option ℕ) → List ℕ
part_line form number None = []
part_line form number (Some begun) = told_in form (codes "part") (part_facts number begun)

-- ---- how the threads stand before an event

abbrev pub standing_of : MarkedProgram → Form → Names → (number : ℕ) → Option Before → List ℕ
standing_of c form names number None = []
standing_of c form names number (Some b) =
    standing_in form c.program names.sources number b b.phase

abbrev pub before_at : MarkedProgram → Core → List Stand → (t : ℕ) → Option Before
before_at c s stands t =
    option_map (seen_before c s.words (stand_at stands t)) (slice_get s.threads t)

-- the first threads, so many
abbrev pub standings : MarkedProgram → Form → Names → (number : ℕ) → Core → List Stand
    → (many : ℕ) → List ℕ
standings c form names number s stands zero = []
standings c form names number s stands (suc t) =
    standings c form names number s stands t
    ++ standing_of c form names number (before_at c s stands t)

-- ---- all of them, which are numbered; the number stands still at the end of 64 bits

abbrev pub event_line : MarkedProgram → Part → Names → (number : ℕ) → Core
    → Option Seen → Happening → List ℕ
event_line c part names number s seen (Of t) =
    line_between c part names number (event c s t).words seen (slice_get (event c s t).threads t)
event_line c part names number s seen NextPart =
    part_line part.form number (option_map (λ x. x.part) (slice_get s.threads 0))

-- an event that is left out has none
abbrev pub has_no_line : MarkedProgram → (folds : Bool) → Core → Option Seen → Happening → Bool
has_no_line c folds s seen (Of t) =
    folds && is_left_out seen (slice_get (event c s t).threads t)
has_no_line c folds s seen NextPart = false

abbrev pub line_unless : Bool → TraceLine → Option TraceLine
line_unless true l = None
line_unless false l = Some l

abbrev pub told_line : MarkedProgram → Names → Part → (number : ℕ) → Core → List Stand
    → Option Seen → Happening → Option TraceLine
told_line c names part number s stands seen h =
    line_unless (has_no_line c part.folds s seen h) (record {
      number = number;
      standings = standings c part.form names number s stands (length s.threads);
      text = event_line c part names number s seen h;
    })

abbrev pub next_line_number : ℕ → ℕ
next_line_number n = min (n + 1) (2 ^ 64 - 1)

-- each event from the state before it, with the pasts of the threads there
abbrev pub lines_from : MarkedProgram → Names → Part → (number : ℕ) → Trail
    → List Happening → List TraceLine
lines_from c names part number v [] = []
lines_from c names part number v (h ∷ hs) =
    with_line (told_line c names part number v.told.core v.stands (seen_of_event c v h) h)
    (lines_from c names part (next_line_number number) (trail_after c v h) hs)

-- where parts of threads came to an end that is no return
abbrev pub event_end : MarkedProgram → Names → Form → (number : ℕ) → Core → Option Seen → Happening
    → List ℕ
event_end c names form number s seen (Of t) =
    end_between c names form number seen (slice_get (event c s t).threads t)
event_end c names form number s seen NextPart = []

abbrev pub ends_from : MarkedProgram → Names → Form → (number : ℕ) → Trail → List Happening → List ℕ
ends_from c names form number v [] = []
ends_from c names form number v (h ∷ hs) =
    event_end c names form number v.told.core (seen_of_event c v h) h
    ++ ends_from c names form (next_line_number number) (trail_after c v h) hs

-- what the run was asked by: objects begin with it, and lines don't
abbrev pub begin_text : Form → (begin : List Fact) → List ℕ
begin_text Lines begin = []
begin_text Json begin = told_in Json (codes "run") begin

-- the lines of all events that are told, or of a part of them, those of the ends that are no
-- returns, and then the report of the run
abbrev pub trace_text : MarkedProgram → Config → Names → Part → List Happening → List ℕ
trace_text c cfg names part hs =
    shown_text part (lines_from c names part 1 (trail_start c cfg) hs)
    ++ ends_from c names part.form 1 (trail_start c cfg) hs
    ++ report_in part.form (outcome (core c cfg hs))
