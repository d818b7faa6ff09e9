-- What the machine owes: every run stands for a plain run, event by event, and its outcome says of
-- that run what is so.
use Rattle.std.specs.Prelude.{◌≡◌, ℕ, false, List, ◌∷◌, ◌++◌, length, sum_by, Contains, Option}
use Rattle.std.specs.Prelude.{Some, None, slice_get}
use Rattle.jvm_types.specs.declared.outcome.End.{End}
use Rattle.jvm_types.specs.declared.outcome.End.TheVariants as ends
use Rattle.jvm_types.specs.declared.outcome.Outcome.{Outcome}
use Rattle.jvm_types.specs.declared.outcome.ThreadReport.{ThreadReport}
use Rattle.jvm_types.specs.declared.program.Program.{Program}
use Rattle.machine_types.specs.Agreement.{Agrees}
use Rattle.machine_types.specs.Core.{Core, Happening, Of, core, event, lives, may_begin, outcome}
use Rattle.machine_types.specs.Counting.{AreCounted}
use Rattle.machine_types.specs.History.{shadow}
use Rattle.machine_types.specs.PlainState.{Plain, Printed, plain_start}
use Rattle.machine_types.specs.PlainSteps.{plain_run, first_end, plain_done_end}
use Rattle.checked_program.specs.MarkedProgram.{MarkedProgram}
use Rattle.machine_types.specs.Threads.{Attempt, Thread, Config}

-- ---- what an outcome says of a plain state

-- a part that returned or was uncaught ended so; one that a limit ended, or that is not run, has
-- not ended
abbrev pub EndFits : (reported : End) → Option End → Type 0
EndFits ends.Returned e = e ≡ Some ends.Returned
EndFits (ends.Uncaught x) e = e ≡ Some (ends.Uncaught x)
EndFits limit e = e ≡ None

pub record EndsFit (p : Program) (o : Outcome) (q : Plain) : Type 0 where
  pub threads : (t : ℕ) (r : ThreadReport) → slice_get o.threads t ≡ Some r
      → EndFits r.end (first_end q t)
  pub done : EndFits o.done (plain_done_end p q)

-- the ticket of a print, in the report of its thread, is its place among all prints
pub record PrintsFit (o : Outcome) (q : Plain) : Type 0 where
  pub each : (i : ℕ) (x : Printed) → slice_get q.prints i ≡ Some x
      → (r : ThreadReport) × (slice_get o.threads x.thread ≡ Some r)
      × Contains r.prints (record { ticket = i; value = x.value })
  pub no_more : sum_by (λ r. length r.prints) o.threads ≡ length q.prints

-- ---- a list of events

-- its shadow is a plain run, to a state that agrees, with the same prints
pub record IsPlainRun (c : MarkedProgram) (cfg : Config) (hs : List Happening) : Type 0 where
  pub state : Plain
  pub run : plain_run c.program (plain_start c.program) (shadow c cfg hs) ≡ Some state
  pub agrees : Agrees c.program (core c cfg hs) state
  pub prints : PrintsFit (outcome (core c cfg hs)) state

-- an event of a thread in an attempt changes no word
abbrev pub IsSilent : MarkedProgram → Core → (t : ℕ) → Type 0
IsSilent c s t =
    (x : Thread) (a : Attempt) → slice_get s.threads t ≡ Some x → x.attempt ≡ Some a
    → (event c s t).words ≡ s.words

-- no thread is live, and no part may begin
pub record IsOver (s : Core) : Type 0 where
  pub dead : (t : ℕ) → lives s t ≡ false
  pub last : may_begin s.threads ≡ false

-- Of a run each prefix stands for a plain run and counts its steps, and no event inside an attempt
-- changes a word; when the run is over, its parts ended as those of the plain run.
pub record IsFaithful (c : MarkedProgram) (cfg : Config) (hs : List Happening) : Type 0 where
  pub plain : (before rest : List Happening) → hs ≡ before ++ rest → IsPlainRun c cfg before
  pub counts : (before rest : List Happening) → hs ≡ before ++ rest → AreCounted c cfg before
  pub silent : (before rest : List Happening) (t : ℕ) → hs ≡ before ++ Of t ∷ rest
      → IsSilent c (core c cfg before) t
  pub ends : (r : IsPlainRun c cfg hs) → IsOver (core c cfg hs)
      → EndsFit c.program (outcome (core c cfg hs)) r.state
