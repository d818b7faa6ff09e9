-- What holds of every reached state, so that each word that an event finds is what it is read as.
use Rattle.std.specs.Prelude.{◌≡◌, ◌<◌, ℕ, ◌+◌, ◌^◌, List, length, Some, IfSome, slice_get}
use Rattle.std.specs.Prelude.{slice_index}
use Rattle.checked_program.specs.MarkedProgram.{MarkedProgram}
use Rattle.machine_types.specs.Accesses.{accessed, left_by, found_by}
use Rattle.machine_types.specs.Core.{Core}
use Rattle.machine_types.specs.Events.{wanted}
use Rattle.machine_types.specs.Facts.{IsThread}
use Rattle.machine_types.specs.FoundWords.{Fits}
use Rattle.machine_types.specs.Lawful.{IsLawful}
use Rattle.machine_types.specs.PlainMemory.{Object}
use Rattle.machine_types.specs.Threads.{Thread}
use Rattle.machine_types.specs.declared.config.Config.{Config}
use Rattle.laws_threads.specs.PartLaws.{PartsFit}
use Rattle.laws_states.specs.HeapFacts.{HeapFacts}
use Rattle.laws_states.specs.Counters.{CountersFit}
use Rattle.laws_states.specs.SharedWords.{LocksFit, RecordsFit}

-- the limits are numbers of 32 bits
pub record HaveWidth (cfg : Config) : Type 0 where
  pub steps : cfg.steps < 2 ^ 32
  pub range : cfg.range < 2 ^ 32

-- ---- the threads

-- each is one of the program, and lawful
pub record AreThreads (c : MarkedProgram) (cfg : Config) (s : Core) : Type 0 where
  pub count : length s.threads ≡ c.program.workers + 1
  pub own : (t : ℕ) (x : Thread) → slice_get s.threads t ≡ Some x → IsThread c cfg t x
  pub lawful : (t : ℕ) (x : Thread) → slice_get s.threads t ≡ Some x → IsLawful c x
  pub parts : PartsFit s.threads

-- ---- the words

pub record RunFacts (c : MarkedProgram) (cfg : Config) (s : Core) : Type 0 where
  -- those whose header is stored
  pub objects : List Object
  pub heap : HeapFacts c objects s
  pub locks : LocksFit cfg.range objects s.words
  pub records : RecordsFit s.words
  pub counters : CountersFit c.program s
  pub small : (i : ℕ) → slice_index s.words i < 2 ^ 64

-- ---- what a thread finds

-- the access of its next event is of a word that there is, leaves a number of 64 bits, and finds
-- what it is read as
pub record AccessFits (c : MarkedProgram) (s : Core) (x : Thread) : Type 0 where
  pub inside : IfSome (wanted c x x.phase) (λ a. accessed a < length s.words)
  pub sum : IfSome (wanted c x x.phase) (λ a. left_by a (slice_index s.words (accessed a)) < 2 ^ 64)
  pub found : Fits c x (found_by s.words (wanted c x x.phase))
