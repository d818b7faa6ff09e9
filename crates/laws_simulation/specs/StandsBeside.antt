-- What a state of the running machine and the plain state that it stands for have in common, so
-- that the next event finds its plain steps: they agree, their objects are the same but for those
-- whose header is not stored yet, and the parts of their threads ended alike.
use Rattle.std.specs.Prelude.{◌≡◌, ◌≤◌, ◌-◌, ◌⊎◌, ℕ, zero, suc, List, [], ◌∷◌, length, Contains}
use Rattle.std.specs.Prelude.{Some, slice_get, if◌then◌else◌}
use Rattle.jvm_types.specs.declared.fixed_words.TheConstants.{OBJECT_HEAD_WORDS}
use Rattle.jvm_types.specs.declared.outcome.End.{End}
use Rattle.jvm_types.specs.declared.outcome.End.TheVariants as ends
use Rattle.jvm_types.specs.declared.program.Program.{Program}
use Rattle.machine_types.specs.Agreement.{Agrees}
use Rattle.machine_types.specs.Core.{Core}
use Rattle.machine_types.specs.Facts.{ArePlainObjects}
use Rattle.machine_types.specs.NewObjects.{size_by}
use Rattle.machine_types.specs.ObjectsApart.{LieApart}
use Rattle.machine_types.specs.Parts.{done_roots, has_finished}
use Rattle.machine_types.specs.PlainMemory.{Object, header_of}
use Rattle.machine_types.specs.PlainState.{Plain, PlainThread}
use Rattle.machine_types.specs.Threads.{Thread}
use Rattle.machine_types.specs.Words.{header_class}
use Rattle.machine_types.specs.declared.phase.Phase.{Phase}
use Rattle.machine_types.specs.declared.phase.Phase.TheVariants as phases

-- ---- objects

-- a thread has made it, and has still to store its header
abbrev pub IsBeingMade : List Thread → (reference : ℕ) → Type 0
IsBeingMade threads reference =
    (t : ℕ) × (x : Thread) × (word : ℕ) × (slice_get threads t ≡ Some x)
    × (x.phase ≡ phases.Made reference word)

abbrev pub IsAmong : List Object → (reference : ℕ) → Type 0
IsAmong objects reference = (o : Object) × Contains objects o × (o.reference ≡ reference)

-- the object of the plain machine that will have this header
pub record IsPlainNew (p : Program) (q : Plain) (a word : ℕ) : Type 0 where
  pub object : Object
  pub there : Contains q.objects object
  pub reference : object.reference ≡ a
  pub class : object.class ≡ header_class word
  pub values : length object.values ≡ size_by p word - OBJECT_HEAD_WORDS
  pub header : header_of object ≡ word

-- ---- ends of parts

-- how the present part ended, where it ended by itself
abbrev pub own_end : Phase → List End
own_end (phases.Ending e) = if has_finished e then e ∷ [] else []
own_end (phases.Ended e) = if has_finished e then e ∷ [] else []
own_end phase = []

-- where there is no such method, the plain thread has no such part
abbrev pub end_of_done : (roots : List ℕ) → Phase → List End
end_of_done [] phase = []
end_of_done (number ∷ roots) phase = own_end phase

-- of thread 0 by how many parts came after `init`; the part of a worker has number 0
abbrev pub ends_shown : Program → (part : ℕ) → Phase → List End
ends_shown p zero phase = own_end phase
ends_shown p (suc zero) phase = ends.Returned ∷ []
ends_shown p part phase = ends.Returned ∷ end_of_done (done_roots p) phase

-- ---- all of it, with the objects whose header is stored

pub record StandsBeside (p : Program) (objects : List Object) (s : Core) (q : Plain) : Type 0 where
  pub agrees : Agrees p s q
  pub known : ArePlainObjects objects q
  pub others : (e : Object) → Contains q.objects e
      → IsAmong objects e.reference ⊎ IsBeingMade s.threads e.reference
  pub new_objects : (t : ℕ) (x : Thread) (a word : ℕ) → slice_get s.threads t ≡ Some x
      → x.phase ≡ phases.Made a word → IsPlainNew p q a word
  pub apart : LieApart p q.objects q.statics q.next
  -- where there is no `done`, its part has returned as soon as it begins
  pub done : (x : Thread) → slice_get s.threads 0 ≡ Some x → 2 ≤ x.part → done_roots p ≡ []
      → x.phase ≡ phases.Ended ends.Returned
  pub ends : (t : ℕ) (x : Thread) (y : PlainThread) → slice_get s.threads t ≡ Some x
      → slice_get q.threads t ≡ Some y → y.ended ≡ ends_shown p x.part x.phase
