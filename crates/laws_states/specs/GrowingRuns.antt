-- A run with one happening more, how many words and threads its states have, and the threads of its
-- states.
use Rattle.std.specs.Prelude.{◌≡◌, ℕ, ◌+◌, List, [], ◌∷◌, ◌++◌, length, Some, slice_get}
use Rattle.checked_program.specs.MarkedProgram.{MarkedProgram}
use Rattle.machine_types.specs.Accesses.{found_by}
use Rattle.machine_types.specs.Core.{Core, Happening, core, happened, start}
use Rattle.machine_types.specs.Events.{wanted, moved}
use Rattle.machine_types.specs.Threads.{Thread}
use Rattle.machine_types.specs.declared.config.Config.{Config}

abbrev pub OneMoreHappens : Type 0
OneMoreHappens = (c : MarkedProgram) (cfg : Config) (hs : List Happening) (h : Happening)
    → core c cfg (hs ++ h ∷ []) ≡ happened c (core c cfg hs) h

-- as many words as at the start, and the threads of the program
pub record HasSizes (c : MarkedProgram) (cfg : Config) (s : Core) : Type 0 where
  pub words : length s.words ≡ length (start c cfg).words
  pub threads : length s.threads ≡ c.program.workers + 1

abbrev pub RunsKeepSizes : Type 0
RunsKeepSizes = (c : MarkedProgram) (cfg : Config) (hs : List Happening)
    → HasSizes c cfg (core c cfg hs)

-- ---- the threads of a run

-- the thread is one of a state that a run reaches
abbrev pub IsOfRun : MarkedProgram → Config → (t : ℕ) → Thread → Type 0
IsOfRun c cfg t x = (hs : List Happening) × (slice_get (core c cfg hs).threads t ≡ Some x)

-- the thread behind its next event, over these words
abbrev pub behind : MarkedProgram → List ℕ → Thread → Thread
behind c words x = moved c x x.phase (found_by words (wanted c x x.phase))

-- an event leaves a thread of a run one of a run
abbrev pub ThreadsStayOfRuns : Type 0
ThreadsStayOfRuns = (c : MarkedProgram) (cfg : Config) (hs : List Happening) (t : ℕ) (x : Thread)
    → slice_get (core c cfg hs).threads t ≡ Some x
    → IsOfRun c cfg t (behind c (core c cfg hs).words x)
