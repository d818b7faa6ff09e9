-- What hands hold: a seat at the table of a run, and some threads of the run.
use Rattle.std.specs.Prelude.{◌≡◌, ℕ, suc, ◌≤◌, [], Option, Some, None, slice_set}
use Rattle.atomic_table.specs.Seated.{TableId}
use Rattle.checked_program.specs.MarkedProgram.{MarkedProgram}
use Rattle.jvm_types.specs.declared.outcome.ThreadReport.{ThreadReport}
use Rattle.lists.specs.Stock.{Stock}
use Rattle.machine_types.specs.Events.{wanted}
use Rattle.machine_types.specs.Threads.{Thread}
use Rattle.machine_types.specs.declared.access.Access.{Access}
use Rattle.machine_types.specs.declared.config.Config.{Config}
use Rattle.table_rule.specs.Views.{View, held_in}
use Rattle.table_runner.specs.Accessing.{NextEvent, made_by_event, Happens, CanRun, IsBehind}

pub record Handed : Type 0 where
  pub program : MarkedProgram
  pub cfg : Config
  pub table_id : TableId
  -- how many steps were made from the seat
  pub steps : ℕ
  -- the threads, by their numbers
  pub threads : View
  -- what the seat knows of them
  pub view : View

-- the hands are of this table, and of its run
abbrev pub IsTableOf : TableId → MarkedProgram → Config → Handed → Type 0
IsTableOf table c cfg h = (table ≡ h.table_id) × (c ≡ h.program) × (cfg ≡ h.cfg)

-- ---- what holds of all hands

abbrev pub EachStands : MarkedProgram → Config → (t : ℕ) → (was now : Option Thread) → Type 0
EachStands c cfg t None None = Unit {0}
EachStands c cfg t (Some x) (Some y) = IsBehind c cfg t x y
EachStands c cfg t was now = ⊥

pub record AreHands (h : Handed) : Type 0 where
  pub run : CanRun h.program h.cfg h.table_id.words
  pub vacant : h.table_id.slots ≡ 0
  -- each thread is one of the run, at most some events without an access behind what the seat knows
  pub each : (t : ℕ) → EachStands h.program h.cfg t (held_in h.view t) (held_in h.threads t)

-- the room for the reports goes with thread 0
abbrev pub RoomIsThere : Option Thread → Option (Stock ThreadReport) → Type 0
RoomIsThere None room = room ≡ None
RoomIsThere (Some x) None = ⊥
RoomIsThere (Some x) (Some room) = (room.items ≡ []) × (9 ≤ room.spare)

abbrev pub HasReportRoom : View → Option (Stock ThreadReport) → Type 0
HasReportRoom threads room = RoomIsThere (held_in threads 0) room

-- ---- events

abbrev pub event_at : Handed → (t : ℕ) → Thread → NextEvent
event_at h t x = record { program = h.program; cfg = h.cfg; number = t; state = x }

-- an event with an access tells the seat what it made of the thread, and one without leaves the
-- view as it is
abbrev pub viewed : Option Access → View → (t : ℕ) → Thread → View
viewed None v t y = v
viewed (Some a) v t y = slice_set v t (Some y)

-- so many steps, with the one of an event that wants this access: an event without one makes none
abbrev pub steps_behind : Option Access → (steps : ℕ) → ℕ
steps_behind None n = n
steps_behind (Some a) n = suc n

abbrev pub hands_after : Handed → (t : ℕ) → Thread → (got : ℕ) → Handed
hands_after h t x got = record h {
  steps = steps_behind (wanted h.program x x.phase) h.steps;
  threads = slice_set h.threads t (Some (made_by_event (event_at h t x) got));
  view = viewed (wanted h.program x x.phase) h.view t (made_by_event (event_at h t x) got);
}

-- The next event of thread t has happened in some state that a run reaches, and the hands are as it
-- leaves them: one step more was made from their seat where it wants an access, and none where it
-- doesn't.
pub record IsEventOf (h : Handed) (t : ℕ) (after : Handed) : Type 0 where
  pub state : Thread
  pub held : held_in h.threads t ≡ Some state
  pub got : ℕ
  pub happens : Happens (event_at h t state) got
  pub leaves : after ≡ hands_after h t state got
