-- All that holds in every state that is reached: what holds of one state, with what the facts
-- share; and the same beside the plain state that the run stands for.
use Rattle.std.specs.Prelude.{◌≡◌, ◌≢◌, ℕ, Bool, true, List, length, Contains, Some, slice_get}
use Rattle.std.specs.Prelude.{slice_index}
use Rattle.jvm_types.specs.Members.{is_static}
use Rattle.jvm_types.specs.declared.program.FieldInfo.{FieldInfo}
use Rattle.jvm_types.specs.declared.program.Program.{Program}
use Rattle.checked_program.specs.MarkedProgram.{MarkedProgram}
use Rattle.machine_types.specs.Agreement.{Agrees}
use Rattle.machine_types.specs.History.{Told}
use Rattle.machine_types.specs.PlainMemory.{Object, StaticValue, start_objects, start_statics}
use Rattle.machine_types.specs.PlainState.{Plain}
use Rattle.machine_types.specs.Threads.{Thread, Config}
use Rattle.jvm_types.specs.declared.fixed_words.TheConstants.{NEXT_FREE_WORD}
use Rattle.machine_types.specs.declared.phase.Phase.{Phase}
use Rattle.machine_types.specs.Attempts.{Attempts}
use Rattle.machine_types.specs.Bounds.{IsRooted}
use Rattle.machine_types.specs.Construction.{Construction, Owning}
use Rattle.machine_types.specs.NewObjects.{NewObjects}
use Rattle.machine_types.specs.ObjectsApart.{LieApart}
use Rattle.machine_types.specs.Owners.{Owners, references_of}
use Rattle.machine_types.specs.Structure.{Structure}
use Rattle.machine_types.specs.Typed.{Typed, HasClass}
use Rattle.machine_types.specs.UnusedWords.{AreUnused}
use Rattle.machine_types.specs.Waiting.{Waiting}
use Rattle.machine_types.specs.Worlds.{World}

-- what a thread was given, by its number, and the roots of its part; a worker has one part
pub record IsThread (c : MarkedProgram) (cfg : Config) (t : ℕ) (x : Thread) : Type 0 where
  pub number : x.number ≡ t
  pub program : x.program ≡ c
  pub settings : x.cfg ≡ cfg
  pub rooted : IsRooted c.program x
  pub part : t ≢ 0 → x.part ≡ 0

pub record Facts (c : MarkedProgram) (cfg : Config) (told : Told) : Type 0 where
  -- of each thread the phase that counts
  pub was : ℕ → Phase
  -- the objects whose header is stored
  pub objects : List Object
  -- which are unfinished
  pub world : World
  pub frozen : ℕ → Bool
  -- the fields that own arrays, and the arrays that were stored there
  pub owning : Owning
  pub own : (t : ℕ) (x : Thread) → slice_get told.core.threads t ≡ Some x → IsThread c cfg t x
  -- those that are there from the start are among the objects
  pub started : (o : Object) → Contains (start_objects c.program) o
      → HasClass objects o.class o.reference
  -- of the static fields their words
  pub apart : LieApart c.program objects (start_statics c.program)
      (slice_index told.core.words NEXT_FREE_WORD)
  pub unused : AreUnused c.program told.core
  pub structure : Structure c was told.core.threads
  pub owners : Owners (references_of objects) was told.core
  pub waiting : Waiting was told.core
  pub typed : Typed c objects told.core
  pub new_objects : NewObjects c.program objects told.core
  pub construction : Construction c frozen owning world was objects told.core
  pub attempts : Attempts c owning.stores objects world was told

-- the objects are objects of the plain state too, with as many values
abbrev pub ArePlainObjects : List Object → Plain → Type 0
ArePlainObjects objects q =
    (o : Object) → Contains objects o
    → (e : Object) × Contains q.objects e × (e.reference ≡ o.reference) × (e.class ≡ o.class)
    × (length e.values ≡ length o.values)

-- each static field has its word there
abbrev pub HavePlainStatics : Program → Plain → Type 0
HavePlainStatics p q =
    (number : ℕ) (f : FieldInfo) → slice_get p.fields number ≡ Some f → is_static f.flags ≡ true
    → (s : StaticValue) × Contains q.statics s × (s.word ≡ f.index)

pub record FactsBeside (c : MarkedProgram) (cfg : Config) (told : Told) (q : Plain) : Type 0 where
  pub facts : Facts c cfg told
  pub agrees : Agrees c.program told.core q
  pub objects : ArePlainObjects facts.objects q
  pub statics : HavePlainStatics c.program q
