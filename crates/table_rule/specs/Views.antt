-- What the words and the views of a table show: a state that a run reaches.
use Rattle.std.specs.Prelude.{◌≡◌, ℕ, List, Option, Some, None, slice_get, slice_index_or, ◌≤◌}
use Rattle.std.specs.Prelude.{IsSome}
use mathlib.Core.Option.{some}
use lib.ListN.{get_elem?}
use Rattle.checked_program.specs.MarkedProgram.{MarkedProgram}
use Rattle.machine_types.specs.Core.{Happening, core}
use Rattle.machine_types.specs.Threads.{Thread}
use Rattle.machine_types.specs.declared.config.Config.{Config}
use Rattle.local_events.specs.Locals.{Follows}

-- what a seat knows: by its number each thread that it holds, as of that thread's last access
abbrev pub View : Type 0
View = List (Option Thread)

abbrev pub held_in : View → (t : ℕ) → Option Thread
held_in v t = slice_index_or v t None

-- ---- a state is shown

-- one of the views has this thread
abbrev pub IsHeld : List View → (t : ℕ) → Thread → Type 0
IsHeld views t x = (i : ℕ) × (v : View) × (get_elem? views i ≡ some v) × (held_in v t ≡ Some x)

-- each thread of the state is in one view, and in no other
pub record AreShown (threads : List Thread) (views : List View) : Type 0 where
  pub own : (i t : ℕ) (v : View) (x : Thread)
      → get_elem? views i ≡ some v → held_in v t ≡ Some x → slice_get threads t ≡ Some x
  pub once : (i j t : ℕ) (v w : View) (x y : Thread)
      → get_elem? views i ≡ some v → get_elem? views j ≡ some w
      → held_in v t ≡ Some x → held_in w t ≡ Some y → i ≡ j
  pub each : (t : ℕ) (x : Thread) → slice_get threads t ≡ Some x → IsHeld views t x

-- some run reaches the words, and the threads of the views
pub record ShowsRun (c : MarkedProgram) (cfg : Config) (words : List ℕ) (views : List View)
    : Type 0 where
  pub happenings : List Happening
  pub words_are : words ≡ (core c cfg happenings).words
  pub threads_are : AreShown (core c cfg happenings).threads views

-- ---- a thread of a state

-- some run reaches a state that has these words and this thread
pub record StandsIn (c : MarkedProgram) (cfg : Config) (words : List ℕ) (t : ℕ) (y : Thread)
    : Type 0 where
  pub happenings : List Happening
  pub words_are : words ≡ (core c cfg happenings).words
  pub at : slice_get (core c cfg happenings).threads t ≡ Some y

-- ---- what the threads that a seat's holder has are to its view

abbrev pub EachFollows : MarkedProgram → Option Thread → Option Thread → Type 0
EachFollows c None None = Unit {0}
EachFollows c (Some x) (Some y) = Follows c x y
EachFollows c was now = ⊥

-- the same threads, each as the view has it or some events without an access later
abbrev pub AllFollow : MarkedProgram → (was now : View) → Type 0
AllFollow c was now = (t : ℕ) → EachFollows c (held_in was t) (held_in now t)

-- the view has just these threads, by their numbers
abbrev pub HasThreads : View → List Thread → Type 0
HasThreads v threads = (t : ℕ) → held_in v t ≡ slice_get threads t

-- all threads of the program are there
abbrev pub HoldsAll : MarkedProgram → View → Type 0
HoldsAll c v = (t : ℕ) → t ≤ c.program.workers → IsSome (held_in v t)
