-- What the words hold of objects, places and unused words in every reached state, and that each
-- monitor a thread knows is an object.
use Rattle.std.specs.Prelude.{◌≡◌, ℕ, ◌≤◌, List, ◌∷◌, Contains, Option, Some, None, slice_get}
use Rattle.std.specs.Prelude.{slice_index}
use Rattle.std.specs.List.{AllByRecursion}
use Rattle.jvm_types.specs.ProgramInvariant.{words_of}
use Rattle.jvm_types.specs.declared.program.Program.{Program}
use Rattle.checked_program.specs.MarkedProgram.{MarkedProgram}
use Rattle.machine_types.specs.Core.{Core}
use Rattle.machine_types.specs.FoundWords.{IsHeader}
use Rattle.machine_types.specs.NewObjects.{NewObjects, size_by}
use Rattle.machine_types.specs.ObjectsApart.{LieApart}
use Rattle.machine_types.specs.PlainMemory.{Object, header_of, new_object, start_objects}
use Rattle.machine_types.specs.PlainMemory.{start_statics}
use Rattle.machine_types.specs.Threads.{Thread}
use Rattle.machine_types.specs.Typed.{Classes, Typed, HasClass, IsObject}
use Rattle.machine_types.specs.UnusedWords.{AreUnused}
use Rattle.jvm_types.specs.declared.fixed_words.TheConstants.{NEXT_FREE_WORD}
use Rattle.machine_types.specs.declared.phase.Phase.{Phase}
use Rattle.machine_types.specs.declared.phase.Phase.TheVariants as phases

-- ---- monitors

-- a monitor that a wait has given up
abbrev pub IsWaitOn : Classes → Phase → Type 0
IsWaitOn is (phases.WaitLook m r depth) = IsObject is m
IsWaitOn is (phases.Retake m r depth) = IsObject is m
IsWaitOn is phase = Unit {0}

pub record HoldsObjects (is : Classes) (x : Thread) : Type 0 where
  pub held : AllByRecursion (λ h. IsObject is h.monitor) x.held
  pub waits : IsWaitOn is x.phase

-- ---- all of them, with the objects whose header is stored

pub record HeapFacts (c : MarkedProgram) (objects : List Object) (s : Core) : Type 0 where
  -- those that are there from the start are among the objects
  pub started : (o : Object) → Contains (start_objects c.program) o
      → HasClass objects o.class o.reference
  pub apart : LieApart c.program objects (start_statics c.program)
      (slice_index s.words NEXT_FREE_WORD)
  pub unused : AreUnused c.program s
  -- behind the words that are there from the start
  pub begins : words_of c.program ≤ slice_index s.words NEXT_FREE_WORD
  pub typed : Typed c objects s
  pub new_objects : NewObjects c.program objects s
  -- each has a class of the program, and so has one that is made
  pub headers : (o : Object) → Contains objects o → IsHeader c.program (header_of o)
  pub new_headers : (t : ℕ) (x : Thread) (a word : ℕ) → slice_get s.threads t ≡ Some x
      → x.phase ≡ phases.Made a word → IsHeader c.program word
  pub monitors : (t : ℕ) (x : Thread) → slice_get s.threads t ≡ Some x
      → HoldsObjects (HasClass objects) x

-- ---- an object is there as soon as its header is stored

abbrev pub objects_by : Program → Phase → List Object → List Object
objects_by p (phases.Made a word) objects = new_object a word (size_by p word) ∷ objects
objects_by p phase objects = objects

abbrev pub objects_of : Program → Option Thread → List Object → List Object
objects_of p None objects = objects
objects_of p (Some x) objects = objects_by p x.phase objects

-- when thread t has moved
abbrev pub objects_after : Program → Core → (t : ℕ) → List Object → List Object
objects_after p s t objects = objects_of p (slice_get s.threads t) objects
