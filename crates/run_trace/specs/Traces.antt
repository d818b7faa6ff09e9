-- A trace that was written to a sink: the lines of the events of the one schedule that an order
-- stands for, those of the ends that are no returns, and the report.
use Rattle.std.specs.Prelude.{◌≡◌, ◌+◌, ℕ, List, [], ◌∷◌, ◌++◌, length, map, replicate, Option}
use Rattle.std.specs.Prelude.{None}
use Rattle.std.specs.Prelude.{Result, Ok, Err}
use Rattle.std.specs.Option.{option_map}
use Rattle.checked_program.specs.MarkedProgram.{MarkedProgram}
use Rattle.jvm_types.specs.declared.outcome.Outcome.{Outcome}
use Rattle.host_io.specs.Faults.{CountsFault}
use Rattle.machine_types.specs.Core.{Core, Happening, core, happened, outcome, start}
use Rattle.machine_types.specs.Schedules.{IsScheduleOf, Stage, First, Turn, turn_at}
use Rattle.machine_types.specs.declared.config.Config.{Config}
use Rattle.place_names.specs.declared.names.Names.{Names}
use Rattle.event_texts.specs.Shares as shares
use Rattle.replay_runner.specs.Replays.{IsLedByTurns}
use Rattle.tellings.specs.declared.facts.Fact.{Fact}
use Rattle.run_trace.specs.EventLines.{begin_text, ends_from, event_end, lines_from}
use Rattle.run_trace.specs.EventLines.{next_line_number}
use Rattle.run_trace.specs.EventLines.{told_line, trace_text, trail_along, trail_start}
use Rattle.run_trace.specs.Lines.{TraceLine, lines_shown, put_text, shown_behind, shown_text}
use Rattle.run_trace.specs.Owing.{owed_after, seen_by}
use Rattle.run_trace.specs.Stands.{no_stand, stands_after}
use Rattle.run_trace.specs.declared.events.Part.{Part}
use Rattle.run_trace.specs.declared.stands.Seen.{Seen}
use Rattle.run_trace.specs.Turns.{turn_of_next}
use Rattle.run_trace.specs.declared.turns.Next.{Next}
use Rattle.run_trace.specs.declared.traces.TraceError.{TraceError}
use Rattle.run_trace.specs.declared.traces.TraceError.TheVariants.{Memory, Failed}
use Rattle.run_trace.specs.declared.traces.Tracing.{Tracing}

-- ---- a text of which a sink accepted a front

pub record IsFrontTold (told now : Option (List ℕ)) (text : List ℕ) : Type 0 where
  pub front : List ℕ
  pub rest : List ℕ
  pub whole : text ≡ front ++ rest
  pub accepted : now ≡ option_map (λ t. t ++ front) told

-- ---- one event or part

abbrev pub seen_next : MarkedProgram → Tracing → Happening → Option Seen
seen_next c m h = seen_by c m.machine.core m.owed m.stands h

abbrev pub next_line : MarkedProgram → Names → Part → Tracing → Happening → Option TraceLine
next_line c names part m h =
    told_line c names part m.number m.machine.core m.stands (seen_next c m h) h

-- it happened to the run, and its line was added to what the sink tells
pub record Happened (c : MarkedProgram) (names : Names) (part : Part) (h : Happening)
    (m n : Tracing) (told now : Option (List ℕ)) (before after : ℕ) : Type 0 where
  pub machine : n.machine ≡ record m.machine { core = happened m.machine.program m.machine.core h }
  pub number : n.number ≡ next_line_number m.number
  pub shown : n.shown ≡ shown_behind part m.shown (next_line c names part m h)
  pub owed : n.owed ≡ owed_after m.owed h (seen_next c m h)
  pub stands : n.stands
      ≡ stands_after c m.machine.core m.stands h (seen_next c m h)
  pub ends : n.ends.items
      ≡ m.ends.items
      ++ event_end c names part.form m.number m.machine.core (seen_next c m h) h
  pub text : now
      ≡ option_map (λ t. t ++ put_text part m.shown (next_line c names part m h)) told
  pub calm : after ≡ before

-- there was no memory, and nothing was written; or the sink failed within the line
abbrev pub IsHappeningTold : MarkedProgram → Names → Part → Happening
    → (m n : Tracing) → (told now : Option (List ℕ)) → (before after : ℕ) → {A : Type 0}
    → Result A TraceError → Type 0
IsHappeningTold c names part h m n told now before after (Ok done) =
    Happened c names part h m n told now before after
IsHappeningTold c names part h m n told now before after (Err Memory) =
    (after ≡ before) × (now ≡ told)
IsHappeningTold c names part h m n told now before after (Err Failed) =
    CountsFault before after
    × IsFrontTold told now (put_text part m.shown (next_line c names part m h))

-- ---- the run at its start

pub record IsStarted (c : MarkedProgram) (cfg : Config) (m : Tracing) : Type 0 where
  pub machine : m.machine ≡ record { program = c; cfg = cfg; core = start c cfg }
  pub number : m.number ≡ 1
  pub shown : m.shown ≡ 0
  pub owed : m.owed ≡ replicate (c.program.workers + 1) 0
  pub stands : m.stands ≡ replicate (c.program.workers + 1) no_stand
  pub ends : m.ends.items ≡ []

-- ---- the run so far

-- the number behind the lines of some events
abbrev pub number_after : (number : ℕ) → List Happening → ℕ
number_after number [] = number
number_after number (h ∷ hs) = number_after (next_line_number number) hs

-- the order has led the run to here, where this turn comes next and each thread owes so many steps;
-- and a sink that told some bytes has the lines of its events
pub record TraceWalked (c : MarkedProgram) (cfg : Config) (order : List ℕ) (names : Names)
    (part : Part) (told : Option (List ℕ)) (n : Tracing) (next : Option Turn)
    (now : Option (List ℕ)) : Type 0 where
  pub program : n.machine.program ≡ c
  pub settings : n.machine.cfg ≡ cfg
  pub happenings : List Happening
  pub stage : Stage
  pub leads : IsLedByTurns c (First order) (start c cfg) happenings stage n.machine.core
  pub turn : turn_at stage n.machine.core ≡ next
  pub number : n.number ≡ number_after 1 happenings
  pub shown : n.shown
      ≡ length (lines_shown part (lines_from c names part 1 (trail_start c cfg) happenings))
  pub core : (trail_along c (trail_start c cfg) happenings).told.core ≡ n.machine.core
  pub owed : n.owed ≡ map shares.owed (trail_along c (trail_start c cfg) happenings).told.pasts
  pub stands : n.stands ≡ (trail_along c (trail_start c cfg) happenings).stands
  pub ends : n.ends.items ≡ ends_from c names part.form 1 (trail_start c cfg) happenings
  pub text : now
      ≡ option_map
      (λ t. t ++ shown_text part (lines_from c names part 1 (trail_start c cfg) happenings)) told

-- whatever was walked to the one is walked to the other; the sink has not failed
pub record WalksOn (c : MarkedProgram) (order : List ℕ) (names : Names) (part : Part)
    (m : Tracing) (next : Option Turn) (told : Option (List ℕ)) (before : ℕ) (n : Tracing)
    (behind : Option Turn) (now : Option (List ℕ)) (after : ℕ) : Type 0 where
  pub program : n.machine.program ≡ m.machine.program
  pub walked : (cfg : Config) (first : Option (List ℕ))
      → TraceWalked c cfg order names part first m next told
      → TraceWalked c cfg order names part first n behind now
  pub calm : after ≡ before

-- the order has led the run so far, and a front of the lines of its events was accepted
pub record IsBrokenOff (c : MarkedProgram) (cfg : Config) (order : List ℕ) (names : Names)
    (part : Part) (told now : Option (List ℕ)) : Type 0 where
  pub happenings : List Happening
  pub stage : Stage
  pub core : Core
  pub leads : IsLedByTurns c (First order) (start c cfg) happenings stage core
  pub front : IsFrontTold told now
      (shown_text part (lines_from c names part 1 (trail_start c cfg) happenings))

-- whatever was walked to the turn breaks off behind it
abbrev pub BreaksOff : MarkedProgram → (order : List ℕ) → Names → Part
    → (m : Tracing) → Option Turn → (told now : Option (List ℕ)) → Type 0
BreaksOff c order names part m next told now =
    (cfg : Config) (first : Option (List ℕ))
    → TraceWalked c cfg order names part first m next told
    → IsBrokenOff c cfg order names part first now

-- for want of memory, where the sink had not failed, or since it failed
abbrev pub IsCutShort : MarkedProgram → (order : List ℕ) → Names → Part
    → (m : Tracing) → Option Turn → (told : Option (List ℕ)) → (before : ℕ)
    → (now : Option (List ℕ)) → (after : ℕ) → TraceError → Type 0
IsCutShort c order names part m turn told before now after Memory =
    (after ≡ before) × BreaksOff c order names part m turn told now
IsCutShort c order names part m turn told before now after Failed =
    CountsFault before after × BreaksOff c order names part m turn told now

-- on from a turn, to another
abbrev pub IsWalk : MarkedProgram → (order : List ℕ) → Names → Part
    → (m : Tracing) → Option Turn → (told : Option (List ℕ)) → (before : ℕ) → (n : Tracing)
    → (now : Option (List ℕ)) → (after : ℕ) → Result Next TraceError → Type 0
IsWalk c order names part m turn told before n now after (Ok next) =
    WalksOn c order names part m turn told before n (turn_of_next order next) now after
IsWalk c order names part m turn told before n now after (Err e) =
    IsCutShort c order names part m turn told before now after e

-- on from a turn, to the end of the run
abbrev pub IsWalkToEnd : MarkedProgram → (order : List ℕ) → Names → Part
    → (m : Tracing) → Option Turn → (told : Option (List ℕ)) → (before : ℕ) → (n : Tracing)
    → (now : Option (List ℕ)) → (after : ℕ) → {A : Type 0} → Result A TraceError → Type 0
IsWalkToEnd c order names part m turn told before n now after (Ok done) =
    WalksOn c order names part m turn told before n None now after
IsWalkToEnd c order names part m turn told before n now after (Err e) =
    IsCutShort c order names part m turn told before now after e

-- ---- a text that is put to the sink

abbrev pub IsPut : (told now : Option (List ℕ)) → (before after : ℕ) → (text : List ℕ)
    → {A : Type 0} → Result A TraceError → Type 0
IsPut told now before after text (Ok done) =
    (after ≡ before) × (now ≡ option_map (λ t. t ++ text) told)
IsPut told now before after text (Err Memory) = (after ≡ before) × (now ≡ told)
IsPut told now before after text (Err Failed) =
    CountsFault before after × IsFrontTold told now text

-- ---- the whole, behind a text that was put to the sink before

pub record IsWholeTrace (front : List ℕ) (c : MarkedProgram) (cfg : Config) (order : List ℕ)
    (names : Names) (part : Part) (told now : Option (List ℕ)) (before after : ℕ)
    (o : Outcome) : Type 0 where
  pub happenings : List Happening
  pub schedule : IsScheduleOf c cfg order happenings
  pub outcome_is : o ≡ outcome (core c cfg happenings)
  pub text : now ≡ option_map (λ t. t ++ (front ++ trace_text c cfg names part happenings)) told
  pub calm : after ≡ before

-- a front of all that is due was accepted
pub record IsTraceFront (front : List ℕ) (c : MarkedProgram) (cfg : Config) (order : List ℕ)
    (names : Names) (part : Part) (told now : Option (List ℕ)) : Type 0 where
  pub happenings : List Happening
  pub schedule : IsScheduleOf c cfg order happenings
  pub accepted : IsFrontTold told now (front ++ trace_text c cfg names part happenings)

-- the trace was written whole, and the outcome of the run is answered; or a front of it, where
-- there was no memory, and the sink had not failed, or where it failed
abbrev pub IsTracedBehind : (front : List ℕ) → MarkedProgram → Config → (order : List ℕ)
    → Names → Part → (told now : Option (List ℕ)) → (before after : ℕ)
    → Result Outcome TraceError → Type 0
IsTracedBehind front c cfg order names part told now before after (Ok o) =
    IsWholeTrace front c cfg order names part told now before after o
IsTracedBehind front c cfg order names part told now before after (Err Memory) =
    (after ≡ before) × IsTraceFront front c cfg order names part told now
IsTracedBehind front c cfg order names part told now before after (Err Failed) =
    CountsFault before after × IsTraceFront front c cfg order names part told now

-- behind what the run was asked by
abbrev pub IsTraced : MarkedProgram → Config → (order : List ℕ) → (names : Names)
    → (begin : List Fact) → Part → (told now : Option (List ℕ)) → (before after : ℕ)
    → Result Outcome TraceError → Type 0
IsTraced c cfg order names begin part told now before after came =
    IsTracedBehind (begin_text part.form begin) c cfg order names part told now before after came
