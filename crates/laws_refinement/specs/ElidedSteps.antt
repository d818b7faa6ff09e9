-- What each event keeps of the facts on attempts, and the plain steps of an event inside an
-- attempt: none, but where the section is done, and then the section as a whole (PLDI 2010
-- publication, of read-only sections without their lock).
use Rattle.std.specs.Prelude.{◌≡◌, ◌≢◌, ℕ, ◌+◌, Bool, List, Some, None, slice_get}
use Rattle.std.specs.Prelude.{slice_index}
use Rattle.checked_program.specs.MarkedProgram.{MarkedProgram, IsMarked}
use Rattle.jvm_types.specs.declared.fixed_words.TheConstants.{NEXT_FREE_WORD}
use Rattle.machine_types.specs.Accesses.{found_by}
use Rattle.machine_types.specs.Attempts.{Owes}
use Rattle.machine_types.specs.Construction.{Construction, Owning}
use Rattle.machine_types.specs.Core.{Core, event, outcome}
use Rattle.machine_types.specs.Counting.{CountsFit, count_along, run_at, take_at}
use Rattle.machine_types.specs.Events.{wanted, moved}
use Rattle.machine_types.specs.Faithful.{PrintsFit}
use Rattle.machine_types.specs.Guards.{KeepsGuards}
use Rattle.machine_types.specs.History.{Past, Fate, Finishes, fate, past_after, shown_at, steps_of}
use Rattle.machine_types.specs.PlainMemory.{Object}
use Rattle.machine_types.specs.PlainState.{Plain}
use Rattle.machine_types.specs.PlainSteps.{plain_run}
use Rattle.machine_types.specs.Threads.{Attempt, Thread}
use Rattle.machine_types.specs.Worlds as worlds
use Rattle.machine_types.specs.Worlds.{World}
use Rattle.machine_types.specs.declared.config.Config.{Config}
use Rattle.machine_types.specs.declared.phase.Phase.{Phase}
use Rattle.laws_threads.specs.StateLaws.{counted_after}
use Rattle.laws_states.specs.HeapFacts.{objects_after}
use Rattle.laws_states.specs.RunFacts.{HaveWidth}
use Rattle.laws_states.specs.StateFacts.{StateFacts}
use Rattle.laws_simulation.specs.StandsBeside.{StandsBeside}

abbrev pub next_free : Core → ℕ
next_free s = slice_index s.words NEXT_FREE_WORD

-- ---- an event of thread t, which is x, with all that holds before and after it of states and of
-- objects under construction

pub record EventStands (c : MarkedProgram) (cfg : Config) (objects : List Object) (was : ℕ → Phase)
    (frozen : ℕ → Bool) (own after : Owning) (w later : World) (s : Core) (t : ℕ) (x : Thread)
    : Type 0 where
  pub marked : IsMarked c
  pub width : HaveWidth cfg
  pub thread : slice_get s.threads t ≡ Some x
  pub facts : StateFacts c cfg objects was s
  pub built : Construction c frozen own w was objects s
  pub facts_after : StateFacts c cfg (objects_after c.program s t objects) (counted_after c was s t)
      (event c s t)
  pub built_after : Construction c frozen after later (counted_after c was s t)
      (objects_after c.program s t objects) (event c s t)
  -- an array that was stored stays so
  pub kept : (v word : ℕ) → own.stores v ≡ Some word → after.stores v ≡ Some word
  -- as far as other threads know
  pub goes_on : worlds.GoesOn w later (next_free s) (next_free (event c s t)) t 0
  pub guards : x.attempt ≡ None → KeepsGuards c own.stores objects s (event c s t) x

-- the word that the event finds
abbrev pub found_of : MarkedProgram → Core → Thread → ℕ
found_of c s x = found_by s.words (wanted c x x.phase)

-- ---- attempts are kept

-- those of other threads
abbrev pub OthersKeepAttempts : Type 0
OthersKeepAttempts =
    (c : MarkedProgram) (cfg : Config) (objects : List Object) (was : ℕ → Phase) (frozen : ℕ → Bool)
    (own after : Owning) (w later : World) (s : Core) (t u : ℕ) (x y : Thread) (d : Past)
    → EventStands c cfg objects was frozen own after w later s t x → u ≢ t
    → slice_get s.threads u ≡ Some y → Owes c own.stores objects w s u (was u) y y.attempt d
    → Owes c after.stores (objects_after c.program s t objects) later (event c s t) u
    (counted_after c was s t u) y y.attempt d

-- its own, which may begin, go on, fail or be done
abbrev pub OwnKeepsAttempt : Type 0
OwnKeepsAttempt =
    (c : MarkedProgram) (cfg : Config) (objects : List Object) (was : ℕ → Phase) (frozen : ℕ → Bool)
    (own after : Owning) (w later : World) (s : Core) (t : ℕ) (x : Thread) (d : Past)
    → EventStands c cfg objects was frozen own after w later s t x
    → Owes c own.stores objects w s t (was t) x x.attempt d
    → Owes c after.stores (objects_after c.program s t objects) later (event c s t) t
    (counted_after c was s t t) (moved c x x.phase (found_of c s x))
    (moved c x x.phase (found_of c s x)).attempt (past_after c x x.attempt (found_of c s x) d)

-- ---- plain steps of an event inside an attempt

-- an event inside an attempt changes no word
abbrev pub AttemptsAreSilent : Type 0
AttemptsAreSilent =
    (c : MarkedProgram) (cfg : Config) (objects : List Object) (was : ℕ → Phase) (s : Core) (t : ℕ)
    (x : Thread) (a : Attempt) → IsMarked c → HaveWidth cfg → StateFacts c cfg objects was s
    → slice_get s.threads t ≡ Some x → x.attempt ≡ Some a → (event c s t).words ≡ s.words

-- it does not end its section
abbrev pub IsNotFinished : Fate → Type 0
IsNotFinished Finishes = ⊥
IsNotFinished fate = Unit {0}

-- where the section is not done, the same plain state stands beside
abbrev pub AttemptsStandBeside : Type 0
AttemptsStandBeside =
    (c : MarkedProgram) (cfg : Config) (objects : List Object) (was : ℕ → Phase) (s : Core) (t : ℕ)
    (x : Thread) (a : Attempt) (q : Plain) → IsMarked c → HaveWidth cfg
    → StateFacts c cfg objects was s → StandsBeside c.program objects s q
    → slice_get s.threads t ≡ Some x → x.attempt ≡ Some a
    → IsNotFinished (fate c x a x.phase (found_of c s x))
    → StandsBeside c.program (objects_after c.program s t objects) (event c s t) q

-- where it is done, its entry, what is due and its exit are a plain run
pub record FinishesBeside (c : MarkedProgram) (objects : List Object) (s : Core) (t : ℕ)
    (x : Thread) (d : Past) (q : Plain) : Type 0 where
  pub after : Plain
  pub run : plain_run c.program q (steps_of t (shown_at c x x.attempt (found_of c s x) d))
      ≡ Some after
  pub beside : StandsBeside c.program (objects_after c.program s t objects) (event c s t) after
  pub prints : after.prints ≡ q.prints
  -- with as many instructions as the attempt began, and one section
  pub instructions : count_along c.program (run_at t)
      (steps_of t (shown_at c x x.attempt (found_of c s x) d)) q ≡ d.pending
  pub sections : count_along c.program (take_at t)
      (steps_of t (shown_at c x x.attempt (found_of c s x) d)) q ≡ 1

abbrev pub SectionsFinish : Type 0
SectionsFinish =
    (c : MarkedProgram) (cfg : Config) (objects : List Object) (was : ℕ → Phase) (frozen : ℕ → Bool)
    (own after : Owning) (w later : World) (s : Core) (t : ℕ) (x : Thread) (a : Attempt)
    (d : Past) (q : Plain) → EventStands c cfg objects was frozen own after w later s t x
    → StandsBeside c.program objects s q → x.attempt ≡ Some a
    → Owes c own.stores objects w s t (was t) x x.attempt d
    → fate c x a x.phase (found_of c s x) ≡ Finishes → FinishesBeside c objects s t x d q

-- ---- counts of an event inside an attempt

-- where the section is not done, no plain step counts: what began is pending, or in vain
abbrev pub AttemptsAreCounted : Type 0
AttemptsAreCounted =
    (c : MarkedProgram) (cfg : Config) (objects : List Object) (was : ℕ → Phase) (s : Core) (t : ℕ)
    (x : Thread) (a : Attempt) (d : Past) (runs takes : ℕ) → IsMarked c
    → StateFacts c cfg objects was s → slice_get s.threads t ≡ Some x → x.attempt ≡ Some a
    → IsNotFinished (fate c x a x.phase (found_of c s x)) → CountsFit x d runs takes
    → CountsFit (moved c x x.phase (found_of c s x)) (past_after c x x.attempt (found_of c s x) d)
    runs takes

-- where it is done, what was pending is now in plain steps, and a section more
abbrev pub FinishesAreCounted : Type 0
FinishesAreCounted =
    (c : MarkedProgram) (cfg : Config) (objects : List Object) (was : ℕ → Phase) (s : Core) (t : ℕ)
    (x : Thread) (a : Attempt) (d : Past) (runs takes : ℕ) → IsMarked c
    → StateFacts c cfg objects was s → slice_get s.threads t ≡ Some x → x.attempt ≡ Some a
    → fate c x a x.phase (found_of c s x) ≡ Finishes → CountsFit x d runs takes
    → CountsFit (moved c x x.phase (found_of c s x)) (past_after c x x.attempt (found_of c s x) d)
    (runs + d.pending) (takes + 1)

-- ---- prints: none inside

abbrev pub AttemptsPrintNothing : Type 0
AttemptsPrintNothing =
    (c : MarkedProgram) (cfg : Config) (objects : List Object) (was : ℕ → Phase) (s : Core) (t : ℕ)
    (x : Thread) (a : Attempt) (q after : Plain) → IsMarked c → StateFacts c cfg objects was s
    → slice_get s.threads t ≡ Some x → x.attempt ≡ Some a → after.prints ≡ q.prints
    → PrintsFit (outcome s) q → PrintsFit (outcome (event c s t)) after
