-- How long a section that runs without its lock goes on where the lock word of its monitor is no
-- longer as the attempt noted it: it may have read what never stood together (PLDI 2010
-- publication, of read-only sections without their lock; the checks inside a section are the
-- machine's own).
use Rattle.std.specs.Prelude.{◌≡◌, ℕ, ◌+◌, ◌≤◌, ◌==◌, List, [], ◌∷◌, Option, Some, None, slice_get}
use Rattle.std.specs.Prelude.{if◌then◌else◌}
use Rattle.checked_program.specs.MarkedProgram.{MarkedProgram, IsMarked}
use Rattle.checked_program.specs.Reach.{IsReach}
use Rattle.machine_types.specs.Attempts.{IsAsNoted}
use Rattle.machine_types.specs.Core.{Core, Happening, Of, NextPart, core, happened}
use Rattle.machine_types.specs.Settings.{AreSettings}
use Rattle.machine_types.specs.Threads.{Attempt, Thread}
use Rattle.machine_types.specs.declared.config.Config.{Config}
use Rattle.machine_types.specs.declared.phase.Phase.{Phase}
use Rattle.machine_types.specs.declared.phase.Phase.TheVariants as phases
use Rattle.laws_states.specs.RunFacts.{HaveWidth}

-- ---- what an attempt begins

abbrev pub attempt_in : Option Thread → Option Attempt
attempt_in None = None
attempt_in (Some x) = x.attempt

-- the instructions that the next event of a thread begins
abbrev pub begun_in : Phase → ℕ
begun_in phases.Run = 1
begun_in phase = 0

abbrev pub begun_of : Option Thread → ℕ
begun_of None = 0
begun_of (Some x) = begun_in x.phase

abbrev pub begun_by : Core → (t : ℕ) → Happening → ℕ
begun_by s t (Of u) = if u == t then begun_of (slice_get s.threads t) else 0
begun_by s t NextPart = 0

abbrev pub if_open : Option Attempt → (n : ℕ) → ℕ
if_open None n = 0
if_open (Some a) n = n

-- how many instructions thread t begins along a list of events in the attempt that it is in before
-- them, until that ends
abbrev pub begun_inside : MarkedProgram → Core → (t : ℕ) → List Happening → ℕ
begun_inside c s t [] = 0
begun_inside c s t (h ∷ hs) =
    if_open (attempt_in (slice_get s.threads t))
    (begun_by s t h + begun_inside c (happened c s h) t hs)

-- ---- the laws

-- of a thread of a state that a run reaches, in an attempt
pub record IsTrying (c : MarkedProgram) (cfg : Config) (hs : List Happening) (t : ℕ) (a : Attempt)
    : Type 0 where
  pub marked : IsMarked c
  pub width : HaveWidth cfg
  pub settings : AreSettings cfg
  pub thread : Thread
  pub there : slice_get (core c cfg hs).threads t ≡ Some thread
  pub tries : thread.attempt ≡ Some a

-- the lock word of the attempt's monitor is other than it was noted
abbrev pub IsTorn : List ℕ → Attempt → Type 0
IsTorn words a = IsAsNoted words a → ⊥

-- Once it is, it is so behind whatever happens next.
abbrev pub NotedNeverReturns : Type 0
NotedNeverReturns =
    (c : MarkedProgram) (cfg : Config) (hs : List Happening) (h : Happening) (t : ℕ) (a : Attempt)
    → IsTrying c cfg hs t a → IsTorn (core c cfg hs).words a
    → IsTorn (happened c (core c cfg hs) h).words a

-- And from then on the attempt begins no more instructions than the method of its section and all
-- that this calls have, whatever happens, and however it ends.
abbrev pub TornRunsAreShort : Type 0
TornRunsAreShort =
    (c : MarkedProgram) (cfg : Config) (hs more : List Happening) (t n : ℕ) (a : Attempt)
    → IsTrying c cfg hs t a → IsTorn (core c cfg hs).words a → IsReach c.program a.entry.method n
    → begun_inside c (core c cfg hs) t more ≤ n
