-- What an event stands for in the plain machine: the steps that its run's shadow has for it, or how
-- many are owed to the end of an attempt.
use Rattle.std.specs.Prelude.{ℕ, ◌+◌, ◌-◌, ◌^◌, min, List, [], ◌++◌, codes, length}
use Rattle.std.specs.Prelude.{Option, Some, None}
use Rattle.std.specs.Fmt.{decimal}
use Rattle.checked_program.specs.MarkedProgram.{MarkedProgram}
use Rattle.machine_types.specs.History.{Fate, GoesOn, Fails, Finishes, Past, acts_of, fate}
use Rattle.machine_types.specs.History.{past_after, shown_at}
use Rattle.machine_types.specs.Threads.{Attempt, Thread}
use Rattle.machine_types.specs.declared.plain.Act.{Act}
use Rattle.machine_types.specs.declared.plain.Act.TheVariants as acts
pub use Rattle.event_texts.specs.declared.shares.Share.{Share}
pub use Rattle.event_texts.specs.declared.shares.Share.TheVariants.{Steps, Owes, Section}

-- ---- by the past of the thread

-- a count stands still at the end of 64 bits
abbrev pub bounded_count : ℕ → ℕ
bounded_count n = min n (2 ^ 64 - 1)

-- how many steps are due of the open attempt
abbrev pub owed : Past → ℕ
owed d = bounded_count (length d.due)

-- in an attempt, by what is shown of its event, and by how many steps were owed before it and are
-- behind it
abbrev pub inside_share : (shown : List Act) → (was now : ℕ) → Share
inside_share [] was now = Owes now
inside_share shown was now = Section was

-- outside of attempts the steps of the event
abbrev pub share_at : MarkedProgram → Thread → Option Attempt → (got : ℕ) → Past → Share
share_at c s None got d = Steps (shown_at c s None got d)
share_at c s (Some a) got d =
    inside_share (shown_at c s (Some a) got d) (owed d) (owed (past_after c s (Some a) got d))

-- ---- the same by how many steps are owed, in place of a list of them

abbrev pub share_in : List Act → Fate → (was : ℕ) → Share
share_in acts GoesOn was = Owes (bounded_count (was + length acts))
share_in acts Fails was = Owes 0
share_in acts Finishes was = Section was

abbrev pub share_by : MarkedProgram → Thread → Option Attempt → (got was : ℕ) → Share
share_by c s None got was = Steps (acts_of c s s.phase got)
share_by c s (Some a) got was = share_in (acts_of c s s.phase got) (fate c s a s.phase got) was

-- and how many are owed behind the event
abbrev pub owed_behind : Share → (was : ℕ) → ℕ
owed_behind (Steps acts) was = was
owed_behind (Owes now) was = now
owed_behind (Section steps) was = 0

-- ---- as text

abbrev pub act_text : Act → List ℕ
act_text acts.Begin = codes "begin"
act_text acts.Do = codes "do"
act_text acts.Enter = codes "enter"
act_text acts.Exit = codes "exit"
act_text acts.Wait = codes "wait"
act_text (acts.Notify None) = codes "notify nobody"
act_text (acts.Notify (Some u)) = codes "notify thread " ++ decimal u
act_text acts.NotifyAll = codes "notify all"
act_text acts.Retake = codes "retake"
