-- What an event at a monitor needs of its thread, by the phase, so that no number passes what it is
-- kept in.
use Rattle.std.specs.Prelude.{◌≡◌, ℕ, ◌<◌, ◌^◌, true, length, None}
use Rattle.jvm_types.specs.declared.limits.TheConstants.{MOST_LIMIT}
use Rattle.checked_program.specs.MarkedProgram.{MarkedProgram}
use Rattle.machine_types.specs.HeldMonitors.{held_at, places_of}
use Rattle.machine_types.specs.Lawful.{within}
use Rattle.machine_types.specs.LockWords.{is_lock_word}
use Rattle.machine_types.specs.Threads.{Thread}
use Rattle.machine_types.specs.Typed.{AfterHolds}
use Rattle.machine_types.specs.declared.phase.After.{After}
use Rattle.machine_types.specs.declared.phase.Phase.{Phase}
use Rattle.machine_types.specs.declared.phase.Phase.TheVariants as phases

-- a further turn may fail
abbrev pub HasTurn : Thread → Type 0
HasTurn s = s.turns < s.cfg.turns

-- there is a place for a monitor that it does not hold
abbrev pub HasPlaceFor : Thread → (m : ℕ) → Type 0
HasPlaceFor s m = held_at s.held m ≡ None → length s.held < places_of s.program

pub record CanTake (s : Thread) (m : ℕ) : Type 0 where
  pub turn : HasTurn s
  pub place : HasPlaceFor s m
  pub count : s.counts.locked < MOST_LIMIT

abbrev pub CanGoOn : MarkedProgram → Thread → After → Type 0
CanGoOn c s a = AfterHolds c (within c.program) a s.frames

abbrev pub CanAnswer : MarkedProgram → Thread → Phase → (got : ℕ) → Type 0
CanAnswer c s (phases.Acquire m) got = HasTurn s × (is_lock_word got ≡ true)
CanAnswer c s (phases.Take m count) got = CanTake s m × (count < 2 ^ 62)
CanAnswer c s (phases.TakeFat m r) got = CanTake s m
CanAnswer c s (phases.Leave m a) got = CanGoOn c s a
CanAnswer c s (phases.FlatOut m a) got = CanGoOn c s a
CanAnswer c s (phases.FatIn m r toward) got = s.counts.inflated < MOST_LIMIT
CanAnswer c s (phases.WaitLook m r depth) got = HasTurn s
CanAnswer c s (phases.Retake m r depth) got = HasTurn s × HasPlaceFor s m
CanAnswer c s phase got = Unit {0}
