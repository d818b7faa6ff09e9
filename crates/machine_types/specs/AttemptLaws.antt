-- What the fact on attempts says in the words of the plain machine.
use Rattle.std.specs.Prelude.{◌≡◌, ℕ, List, ◌∷◌, Some, slice_get}
use Rattle.jvm_types.specs.ProgramInvariant.{IsProgram}
use Rattle.jvm_types.specs.declared.program.Program.{Program}
use Rattle.checked_program.specs.MarkedProgram.{MarkedProgram}
use Rattle.machine_types.specs.Attempts.{IsAsNoted}
use Rattle.machine_types.specs.Facts.{FactsBeside}
use Rattle.machine_types.specs.History.{Told, past_at, steps_of}
use Rattle.machine_types.specs.PlainState.{Plain, PlainThread}
use Rattle.machine_types.specs.PlainSteps.{plain_run}
use Rattle.machine_types.specs.Replay.{status_inside}
use Rattle.machine_types.specs.Threads.{Attempt, Thread, Config}
use Rattle.machine_types.specs.declared.phase.Phase.{Phase}
use Rattle.machine_types.specs.declared.plain.Act.{Act}
use Rattle.machine_types.specs.declared.plain.Act.TheVariants as acts

-- the entry of the thread and what is due are steps of the plain machine, which lead to its frames
-- and to what its phase says
pub record ReachesPresent (p : Program) (q : Plain) (t : ℕ) (was : Phase) (x : Thread)
    (due : List Act) : Type 0 where
  pub after : Plain
  pub run : plain_run p q (steps_of t (acts.Enter ∷ due)) ≡ Some after
  pub thread : PlainThread
  pub is : slice_get after.threads t ≡ Some thread
  pub frames : thread.frames ≡ x.frames
  pub status : thread.status ≡ status_inside was
  pub roots : thread.roots ≡ x.roots

-- of each attempt whose lock word is as it was noted, from the plain state that the run stands for
abbrev pub AttemptsArePlain : Type 0
AttemptsArePlain =
    (c : MarkedProgram) (cfg : Config) (told : Told) (q : Plain) (k : FactsBeside c cfg told q)
    → IsProgram c.program → (t : ℕ) (x : Thread) (a : Attempt)
    → slice_get told.core.threads t ≡ Some x → x.attempt ≡ Some a → IsAsNoted told.core.words a
    → ReachesPresent c.program q t (k.facts.was t) x (past_at told t).due
