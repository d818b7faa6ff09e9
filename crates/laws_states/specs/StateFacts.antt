-- All that holds in every state that a run reaches, of its threads and its words, but for what
-- holds of attempts and of objects under construction.
use Rattle.std.specs.Prelude.{◌<◌, ℕ, ◌^◌, List, slice_index}
use Rattle.checked_program.specs.MarkedProgram.{MarkedProgram}
use Rattle.machine_types.specs.Core.{Core}
use Rattle.machine_types.specs.Owners.{Owners, references_of}
use Rattle.machine_types.specs.PlainMemory.{Object}
use Rattle.machine_types.specs.Structure.{Structure}
use Rattle.machine_types.specs.Waiting.{Waiting}
use Rattle.machine_types.specs.declared.config.Config.{Config}
use Rattle.machine_types.specs.declared.phase.Phase.{Phase}
use Rattle.laws_states.specs.HeapFacts.{HeapFacts}
use Rattle.laws_states.specs.Counters.{CountersFit}
use Rattle.laws_states.specs.RunFacts.{AreThreads}
use Rattle.laws_states.specs.SharedWords.{LocksFit, RecordsFit}
use Rattle.laws_states.specs.PartsStand.{PartsStand}
use Rattle.laws_states.specs.ClassInits.{ClassInitsComeFirst}

-- with the objects whose header is stored, and of each thread the phase that counts
pub record StateFacts (c : MarkedProgram) (cfg : Config) (objects : List Object) (was : ℕ → Phase)
    (s : Core) : Type 0 where
  pub threads : AreThreads c cfg s
  pub parts : PartsStand c.program s.threads
  pub class_inits : ClassInitsComeFirst c.program s.threads
  pub heap : HeapFacts c objects s
  pub locks : LocksFit cfg.range objects s.words
  pub records : RecordsFit s.words
  pub counters : CountersFit c.program s
  pub small : (i : ℕ) → slice_index s.words i < 2 ^ 64
  pub structure : Structure c was s.threads
  pub owners : Owners (references_of objects) was s
  pub waiting : Waiting was s
