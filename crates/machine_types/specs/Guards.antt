-- What an event changes of the places that sections read without their lock: a guarded place
-- changes under the monitor of its object or class, or while that is made, a frozen one while it is
-- made.
use Rattle.std.specs.Prelude.{◌≡◌, ◌≢◌, ◌⊎◌, ℕ, suc, true, List, [], ◌∷◌, Contains, Some, slice_get}
use Rattle.std.specs.Prelude.{slice_index}
use Rattle.jvm_types.specs.ClassNames.{file_of_class}
use Rattle.jvm_types.specs.CodeTable.{is_init}
use Rattle.jvm_types.specs.Members.{is_class_init_name}
use Rattle.jvm_types.specs.declared.program.FieldInfo.{FieldInfo}
use Rattle.jvm_types.specs.declared.program.MethodInfo.{MethodInfo}
use Rattle.checked_program.specs.FrozenPlaces.{IsFrozenField, IsFrozenStatic, IsGuardedField}
use Rattle.checked_program.specs.FrozenPlaces.{IsGuardedStatic}
use Rattle.checked_program.specs.OwnedArrays.{IsOwnedArrayField}
use Rattle.checked_program.specs.MarkedProgram.{MarkedProgram}
use Rattle.machine_types.specs.Core.{Core}
use Rattle.machine_types.specs.HeldMonitors.{held_at}
use Rattle.machine_types.specs.OwnedPlaces.{Stores, IsElementOf}
use Rattle.machine_types.specs.PlainMemory.{Object}
use Rattle.machine_types.specs.Threads.{Frame, Thread}
use Rattle.machine_types.specs.declared.lock.Held.{Held}
use Rattle.machine_types.specs.declared.phase.Phase.TheVariants as phases
use Rattle.machine_types.specs.Words.{class_object, value_word}
use Rattle.machine_types.specs.Standing.{tags_of}

-- the top frame is that of an `<init>` on the object o
abbrev pub MakesObject : MarkedProgram → (o : ℕ) → List Frame → Type 0
MakesObject c o [] = ⊥
MakesObject c o (f ∷ fs) =
    (m : MethodInfo) × (slice_get c.program.methods f.method ≡ Some m) × (is_init m ≡ true)
    × (f.receiver ≡ o)

-- the top frame is that of the `<clinit>` of a class, and no worker has begun
abbrev pub IsOfClassInit : MarkedProgram → (class : ℕ) → List Frame → Type 0
IsOfClassInit c class [] = ⊥
IsOfClassInit c class (f ∷ fs) =
    (m : MethodInfo) × (slice_get c.program.methods f.method ≡ Some m)
    × (is_class_init_name m.name ≡ true) × (m.class ≡ class)

pub record MakesClass (c : MarkedProgram) (class : ℕ) (s : Core) (x : Thread) : Type 0 where
  pub runs : IsOfClassInit c class x.frames
  pub no_worker : (u : ℕ) (y : Thread) → slice_get s.threads (suc u) ≡ Some y
      → y.phase ≡ phases.Idle

abbrev pub HoldsMonitor : (o : ℕ) → Thread → Type 0
HoldsMonitor o x = (h : Held) × (held_at x.held o ≡ Some h)

abbrev pub ChangesWord : (word : ℕ) → (s r : Core) → Type 0
ChangesWord word s r = slice_index r.words word ≢ slice_index s.words word

-- the word of a field of an object has changed
pub record Changes (fi : ℕ) (c : MarkedProgram) (o : Object) (s r : Core) : Type 0 where
  pub field : FieldInfo
  pub is : slice_get c.program.fields fi ≡ Some field
  pub of_class : o.class ≡ field.class
  pub changes : ChangesWord (value_word o.reference field.index) s r

-- from the state s to the state r that an event of the thread t leaves, in which it was x; stores
-- says where arrays were stored
pub record KeepsGuards (c : MarkedProgram) (stores : Stores) (objects : List Object) (s r : Core)
    (x : Thread) : Type 0 where
  pub guarded : (fi : ℕ) (o : Object) → Contains objects o → IsGuardedField c.program (tags_of c) fi
      → Changes fi c o s r → HoldsMonitor o.reference x ⊎ MakesObject c o.reference x.frames
  -- the elements of an array that was stored in an owned field of an object
  pub elements : (fi word : ℕ) (o : Object) → Contains objects o
      → IsOwnedArrayField c.program (tags_of c) fi → IsElementOf c stores objects fi o word
      → ChangesWord word s r → HoldsMonitor o.reference x ⊎ MakesObject c o.reference x.frames
  pub statics : (fi : ℕ) (k : IsGuardedStatic c.program (tags_of c) fi)
      → ChangesWord k.field.index s r
      → HoldsMonitor (class_object c.program (file_of_class k.field.class)) x
      ⊎ MakesClass c k.field.class s x
  pub frozen : (fi : ℕ) (o : Object) → Contains objects o → IsFrozenField c.program (tags_of c) fi
      → Changes fi c o s r → MakesObject c o.reference x.frames
  pub frozen_statics : (fi : ℕ) (k : IsFrozenStatic c.program fi) → ChangesWord k.field.index s r
      → MakesClass c k.field.class s x
