-- Hands that are split and joined, and the begin of a part.
use Rattle.std.specs.Prelude.{◌≡◌, ℕ, suc, ◌+◌, List, [], ◌∷◌, Bool, true, Option, Some, None}
use Rattle.std.specs.Prelude.{replicate, slice_set}
use Rattle.std.specs.Option.{option_or}
use Rattle.checked_program.specs.MarkedProgram.{MarkedProgram}
use Rattle.machine_types.specs.Core.{Happening, core, may_begin, next_threads}
use Rattle.machine_types.specs.Threads.{Thread}
use Rattle.machine_types.specs.declared.config.Config.{Config}
use Rattle.table_rule.specs.Views.{View, held_in, AllFollow, HasThreads, HoldsAll}
use Rattle.table_runner.specs.Handed.{Handed}

-- ---- split: a step of the seat that is cut, and none of the new one

abbrev pub view_without : (t : ℕ) → View → View
view_without t v = slice_set v t None

-- with thread t, and no other
abbrev pub only_thread : (t : ℕ) → View → View
only_thread t v = slice_set (replicate 9 None) t (held_in v t)

abbrev pub without_thread : Handed → (t : ℕ) → Handed
without_thread h t = record h {
  steps = suc h.steps;
  threads = view_without t h.threads;
  view = view_without t h.view;
}

abbrev pub thread_alone : Handed → (t : ℕ) → Handed
thread_alone h t = record h {
  steps = 0;
  threads = only_thread t h.threads;
  view = only_thread t h.view;
}

-- ---- joined

-- the threads of both
abbrev pub merged : View → View → View
merged [] w = w
merged (o ∷ v) [] = o ∷ v
merged (o ∷ v) (p ∷ w) = option_or o p ∷ merged v w

-- the first hands, when they hold what the others held: with the steps of both, and the join's
pub record AreJoined (h others after : Handed) : Type 0 where
  pub threads : (t : ℕ)
      → held_in after.threads t ≡ option_or (held_in h.threads t) (held_in others.threads t)
  pub rest : after
      ≡ record h {
        steps = suc (h.steps + others.steps);
        threads = after.threads;
        view = merged h.view others.view;
      }

-- ---- the begin of a part

-- The hands hold just the threads of a state. Whether its next part may begin, and the hands with
-- the threads that this makes of them.
pub record IsNextPart (h after : Handed) (begins : Bool) : Type 0 where
  pub threads : List Thread
  pub held : HasThreads h.threads threads
  pub may : begins ≡ may_begin threads
  pub begun : HasThreads after.threads (next_threads h.program.program threads)
  -- and then the seat knows its threads as they are, by one step
  pub known : begins ≡ true → after.view ≡ after.threads
  pub counted : begins ≡ true → after.steps ≡ suc h.steps
  pub rest : after
      ≡ record h { steps = after.steps; threads = after.threads; view = after.view }

-- the threads of a seat that has all of the run, and what the begin of a part makes of them
pub record CanBegin (c : MarkedProgram) (cfg : Config) (v w : View) : Type 0 where
  pub threads : View
  pub follow : AllFollow c v threads
  pub all : HoldsAll c threads
  pub begin : (ts : List Thread) → HasThreads threads ts → HasThreads w (next_threads c.program ts)

-- a part that begins: of which run, and with what threads
pub record Beginning : Type 0 where
  pub program : MarkedProgram
  pub cfg : Config
  pub threads : View

-- it has begun, and the seat knows its threads
pub record HasBegun (b : Beginning) (now : View) : Type 0 where
  pub view : now ≡ b.threads
  pub happenings : List Happening
  pub holds : HasThreads b.threads (core b.program b.cfg happenings).threads

abbrev pub TellsBegin : Option Beginning → (now : View) → Type 0
TellsBegin None now = Unit {0}
TellsBegin (Some b) now = HasBegun b now
