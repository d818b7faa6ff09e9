-- What holds of a machine that runs, at each of its states.
use Rattle.std.specs.Prelude.{◌≡◌, ℕ, List, Some, slice_get}
use Rattle.checked_program.specs.MarkedProgram.{MarkedProgram, IsMarked}
use Rattle.machine_types.specs.Settings.{AreSettings}
use Rattle.machine_types.specs.Threads.{Thread}
use Rattle.laws_states.specs.RunFacts.{HaveWidth}
use Rattle.laws_states.specs.StateLaws.{IsInState}
use Rattle.replay_runner.specs.Running.{Running}

-- The state of a machine is one of those of which the facts on states hold: its threads are those
-- of the program, each of them lawful, its words are what they are read as, and each thread holds
-- the locks that the words say.
pub record AreRunning (m : Running) : Type 0 where
  pub marked : IsMarked m.program
  pub settings : AreSettings m.cfg
  pub width : HaveWidth m.cfg
  pub state : IsInState m.program m.cfg m.core

-- this is a thread of a machine, and these are the machine's words
pub record IsThreadOf (m : Running) (p : MarkedProgram) (t : ℕ) (s : Thread) (words : List ℕ)
    : Type 0 where
  pub runs : AreRunning m
  pub program : p ≡ m.program
  pub at : slice_get m.core.threads t ≡ Some s
  pub words_are : words ≡ m.core.words
