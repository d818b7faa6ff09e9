-- The access of an event on the table: what it asks, and what it tells.
use Rattle.std.specs.Prelude.{◌≡◌, ℕ, List, Option, Some, None, length, slice_get, slice_set}
use Rattle.checked_program.specs.MarkedProgram.{MarkedProgram, IsMarked}
use Rattle.machine_types.specs.Accesses.{found_by}
use Rattle.machine_types.specs.Core.{Happening, core, start}
use Rattle.machine_types.specs.Events.{wanted, moved}
use Rattle.machine_types.specs.Settings.{AreSettings}
use Rattle.machine_types.specs.Threads.{Thread}
use Rattle.machine_types.specs.declared.access.Access.{Access}
use Rattle.machine_types.specs.declared.config.Config.{Config}
use Rattle.laws_states.specs.GrowingRuns.{IsOfRun}
use Rattle.laws_states.specs.RunFacts.{HaveWidth}
use Rattle.local_events.specs.Locals.{Follows}
use Rattle.table_rule.specs.Views.{View, held_in}

-- the next event of a thread: of which run, and of which thread in what state
pub record NextEvent : Type 0 where
  pub program : MarkedProgram
  pub cfg : Config
  pub number : ℕ
  pub state : Thread

-- what it makes of the thread, by the word that its access found
abbrev pub made_by_event : NextEvent → (got : ℕ) → Thread
made_by_event e got = moved e.program e.state e.state.phase got

-- it happens in some state that a run reaches, and finds this word there
pub record Happens (e : NextEvent) (got : ℕ) : Type 0 where
  pub happenings : List Happening
  pub at : slice_get (core e.program e.cfg happenings).threads e.number ≡ Some e.state
  pub finds : got
      ≡ found_by (core e.program e.cfg happenings).words (wanted e.program e.state e.state.phase)

-- it has happened, and the view has what it made of the thread
pub record IsEventMade (e : NextEvent) (was : View) (got : ℕ) (now : View) : Type 0 where
  pub happens : Happens e got
  pub view : now ≡ slice_set was e.number (Some (made_by_event e got))

abbrev pub Tells : Option NextEvent → (was : View) → (got : ℕ) → (now : View) → Type 0
Tells None was got now = Unit {0}
Tells (Some e) was got now = IsEventMade e was got now

-- the program may be run by these settings, and the table has as many words as the run
pub record CanRun (c : MarkedProgram) (cfg : Config) (words : ℕ) : Type 0 where
  pub marked : IsMarked c
  pub settings : AreSettings cfg
  pub width : HaveWidth cfg
  pub long : words ≡ length (start c cfg).words

-- thread t is one of the run, at most some events without an access behind another state of it
abbrev pub IsBehind : MarkedProgram → Config → (t : ℕ) → (was now : Thread) → Type 0
IsBehind c cfg t was now = Follows c was now × IsOfRun c cfg t now

-- behind what the view has of it
pub record IsBehindView (e : NextEvent) (v : View) : Type 0 where
  pub was : Thread
  pub held : held_in v e.number ≡ Some was
  pub behind : IsBehind e.program e.cfg e.number was e.state

pub record CanMake (e : NextEvent) (v : View) (a : Access) (words : ℕ) : Type 0 where
  pub run : CanRun e.program e.cfg words
  pub stands : IsBehindView e v
  pub wants : wanted e.program e.state e.state.phase ≡ Some a

abbrev pub Asks : Option NextEvent → View → Access → (words : ℕ) → Type 0
Asks None v a words = ⊥
Asks (Some e) v a words = CanMake e v a words

abbrev pub IsNextEventOf : Option NextEvent → MarkedProgram → Config → Type 0
IsNextEventOf None c cfg = ⊥
IsNextEventOf (Some e) c cfg = (e.program ≡ c) × (e.cfg ≡ cfg)
