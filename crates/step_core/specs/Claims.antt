-- What the entry and the exit of a monitor, and a check, need of a thread, so that no number passes
-- what it is kept in.
use Rattle.std.specs.Prelude.{◌≡◌, ℕ, ◌<◌, ◌^◌, true, length, IfSome}
use Rattle.jvm_types.specs.declared.limits.TheConstants.{MOST_LIMIT}
use Rattle.checked_program.specs.MarkedProgram.{MarkedProgram}
use Rattle.machine_types.specs.HeldMonitors.{held_at}
use Rattle.machine_types.specs.LockWords.{is_lock_word}
use Rattle.machine_types.specs.Threads.{Thread}
use Rattle.machine_types.specs.declared.phase.After.{After}
use Rattle.frames.specs.KeptAttempts.{IsBased}
use Rattle.fat_monitor.specs.Answering.{CanGoOn, HasTurn}

pub record CanEnter (s : Thread) (m got : ℕ) : Type 0 where
  pub frame : 0 < length s.frames
  pub turn : HasTurn s
  pub word : is_lock_word got ≡ true
  pub depth : IfSome (held_at s.held m) (λ h. h.depth < 18446744073709551615)
  pub inner : IfSome s.attempt (λ a. a.inner < 18446744073709551615)

-- its attempt may be checked, and fail
pub record CanFailCheck (s : Thread) : Type 0 where
  pub noted : IfSome s.attempt (λ a. a.noted < 2 ^ 62)
  pub based : IfSome s.attempt (IsBased s.frames)
  pub count : IfSome s.attempt (λ a. s.counts.failed < MOST_LIMIT)

pub record CanLeave (c : MarkedProgram) (s : Thread) (a : After) : Type 0 where
  pub onward : CanGoOn c s a
  pub fails : CanFailCheck s
  pub count : IfSome s.attempt (λ a. s.counts.elided < MOST_LIMIT)
