-- What events make of one thread of hands, and of the view of their seat.
use Rattle.std.specs.Prelude.{◌≡◌, ◌≢◌, ℕ, Option, Some, None}
use Rattle.checked_program.specs.MarkedProgram.{MarkedProgram}
use Rattle.laws_threads.specs.GivenThread.{given_of}
use Rattle.machine_types.specs.Events.{wanted}
use Rattle.machine_types.specs.Threads.{Thread}
use Rattle.machine_types.specs.declared.config.Config.{Config}
use Rattle.table_rule.specs.Views.{View, held_in}
use Rattle.table_runner.specs.Accessing.{NextEvent, made_by_event, Happens, IsBehindView}
use Rattle.table_runner.specs.Handed.{viewed}

-- ---- one event

pub record HasGoneByEvent (e : NextEvent) (was : View) (after : Thread) (now : View) : Type 0 where
  pub got : ℕ
  pub happens : Happens e got
  pub state : after ≡ made_by_event e got
  pub view : now
      ≡ viewed (wanted e.program e.state e.state.phase) was e.number (made_by_event e got)

abbrev pub GoesAt : MarkedProgram → Config → (t : ℕ) → Option Thread → View → Option Thread → View
    → Type 0
GoesAt c cfg t (Some x) v (Some y) w =
    HasGoneByEvent (record { program = c; cfg = cfg; number = t; state = x }) v y w
GoesAt c cfg t was v after w = ⊥

-- where there may be no thread
abbrev pub IsBehindViewAt : MarkedProgram → Config → (t : ℕ) → Option Thread → View → Type 0
IsBehindViewAt c cfg t None v = Unit {0}
IsBehindViewAt c cfg t (Some x) v =
    IsBehindView (record { program = c; cfg = cfg; number = t; state = x }) v

-- ---- events of the same thread, as many as there are

-- The thread is one of the run that follows what the view has of it; it was given what it was, and
-- the view has the others as they were.
pub record IsLaterThread (e : NextEvent) (was : View) (after : Thread) (now : View) : Type 0 where
  pub stands : IsBehindView (record e { state = after }) now
  pub given : given_of after ≡ given_of e.state
  pub others : (u : ℕ) → u ≢ e.number → held_in now u ≡ held_in was u

abbrev pub GoesOnAt : MarkedProgram → Config → (t : ℕ) → Option Thread → View → Option Thread → View
    → Type 0
GoesOnAt c cfg t None v None w = w ≡ v
GoesOnAt c cfg t (Some x) v (Some y) w =
    IsLaterThread (record { program = c; cfg = cfg; number = t; state = x }) v y w
GoesOnAt c cfg t was v after w = ⊥
