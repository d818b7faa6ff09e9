-- Objects of frozen classes between the call of their `<init>` and its return (JVMS 2.9): until
-- then no place has the object, and no other thread. If the `<init>` throws, no instruction uses it
-- ever after; this is said of threads in no attempt, since one that fails puts back the frame in
-- which it began, which may then use the object again.
use Rattle.std.specs.Prelude.{◌≡◌, ◌≢◌, ℕ, true, false, List, [], ◌∷◌, ◌++◌, Contains, Some, None}
use Rattle.std.specs.Prelude.{slice_get, slice_index}
use Rattle.std.specs.List.{AllZip}
use Rattle.jvm_types.specs.CodeTable.{is_init}
use Rattle.jvm_types.specs.Members.{is_static}
use Rattle.jvm_types.specs.declared.outcome.Thrown.{Thrown}
use Rattle.jvm_types.specs.declared.program.FieldInfo.{FieldInfo}
use Rattle.jvm_types.specs.declared.program.Kind.{Kind}
use Rattle.jvm_types.specs.declared.program.Kind.TheVariants as kinds
use Rattle.jvm_types.specs.declared.program.MethodInfo.{MethodInfo}
use Rattle.jvm_types.specs.declared.typing.VType.{VType}
use Rattle.jvm_types.specs.declared.typing.VType.TheVariants as types
use Rattle.checked_program.specs.FrozenPlaces.{IsFrozenClass}
use Rattle.checked_program.specs.MarkedProgram.{MarkedProgram, IsMarked}
use Rattle.machine_types.specs.Core.{Core, Happening, Of, NextPart, event, happened, core}
use Rattle.machine_types.specs.Frames.{Top, top_of, returned}
use Rattle.machine_types.specs.PlainMemory.{Object}
use Rattle.machine_types.specs.Settings.{AreSettings}
use Rattle.machine_types.specs.Standing.{Standing, tags_of}
use Rattle.machine_types.specs.Threads.{Frame, Thread}
use Rattle.machine_types.specs.Words.{value_word}
use Rattle.machine_types.specs.declared.config.Config.{Config}
use Rattle.machine_types.specs.declared.phase.Phase.TheVariants as phases
use Rattle.laws_states.specs.ChangeLaws.{run_objects}
use Rattle.laws_states.specs.RunFacts.{HaveWidth}

-- ---- who has an object

-- a slot has it only where its type is one of references
abbrev pub IsOther : (v : ℕ) → VType → (word : ℕ) → Type 0
IsOther v types.Int word = Unit {0}
IsOther v types.Top word = Unit {0}
IsOther v type word = word ≢ v

-- the instruction that the thread begins next finds v in no slot of its frame
abbrev pub UsesNot : MarkedProgram → (v : ℕ) → Thread → Type 0
UsesNot c v x =
    x.phase ≡ phases.Run → (f : Frame) (below : List Frame) → x.frames ≡ f ∷ below
    → (k : Standing c f)
    → AllZip (IsOther v) k.types.stack f.stack × AllZip (IsOther v) k.types.locals f.locals

abbrev pub KindHasNot : (v : ℕ) → Kind → (word : ℕ) → Type 0
KindHasNot v (kinds.Ref class) word = word ≢ v
KindHasNot v kind word = Unit {0}

-- no field of an object and no static field has v
pub record PlacesHaveNot (c : MarkedProgram) (v : ℕ) (objects : List Object) (words : List ℕ)
    : Type 0 where
  pub fields : (o : Object) (number : ℕ) (f : FieldInfo) → Contains objects o
      → slice_get c.program.fields number ≡ Some f → is_static f.flags ≡ false → o.class ≡ f.class
      → KindHasNot v f.kind (slice_index words (value_word o.reference f.index))
  pub statics : (number : ℕ) (f : FieldInfo) → slice_get c.program.fields number ≡ Some f
      → is_static f.flags ≡ true → KindHasNot v f.kind (slice_index words f.index)

-- ---- an `<init>` of a frozen class on the object v

pub record IsInitOn (c : MarkedProgram) (v : ℕ) (f : Frame) : Type 0 where
  pub method : MethodInfo
  pub there : slice_get c.program.methods f.method ≡ Some method
  pub init : is_init method ≡ true
  pub frozen : IsFrozenClass c.program (tags_of c) method.class
  pub receiver : f.receiver ≡ v

-- a frame of thread t, which is in no attempt, is one
pub record Constructs (c : MarkedProgram) (v : ℕ) (s : Core) (t : ℕ) : Type 0 where
  pub thread : Thread
  pub there : slice_get s.threads t ≡ Some thread
  pub outside : thread.attempt ≡ None
  pub frame : Frame
  pub among : Contains thread.frames frame
  pub init : IsInitOn c v frame

-- by its next event thread t, in no attempt, throws on in the frames below it
pub record ThrowsOut (c : MarkedProgram) (v : ℕ) (s : Core) (t : ℕ) : Type 0 where
  pub thread : Thread
  pub there : slice_get s.threads t ≡ Some thread
  pub outside : thread.attempt ≡ None
  pub frame : Frame
  pub below : List Frame
  pub frames : thread.frames ≡ frame ∷ below
  pub init : IsInitOn c v frame
  pub later : Thread
  pub behind : slice_get (event c s t).threads t ≡ Some later
  pub thrown : ℕ
  pub class : Thrown
  pub throws : later.phase ≡ phases.Throw thrown class
  pub gone : later.frames ≡ below

-- by its next event thread t returns from it
pub record ReturnsFrom (c : MarkedProgram) (v : ℕ) (s : Core) (t : ℕ) : Type 0 where
  pub thread : Thread
  pub there : slice_get s.threads t ≡ Some thread
  pub top : Top
  pub is_top : top_of c.program thread.frames ≡ Some top
  pub init : IsInitOn c v top.frame
  pub later : Thread
  pub behind : slice_get (event c s t).threads t ≡ Some later
  pub gone : later.frames ≡ returned c.program top

-- none of these events is a return from it
abbrev pub NeverReturns : MarkedProgram → (v : ℕ) → Core → List Happening → Type 0
NeverReturns c v s [] = Unit {0}
NeverReturns c v s (Of t ∷ hs) = (ReturnsFrom c v s t → ⊥) × NeverReturns c v (event c s t) hs
NeverReturns c v s (NextPart ∷ hs) = NeverReturns c v (happened c s NextPart) hs

-- ---- the laws, for every run

-- in a state with these objects
pub record NobodyHas (c : MarkedProgram) (v : ℕ) (objects : List Object) (s : Core) : Type 0 where
  pub places : PlacesHaveNot c v objects s.words
  pub threads : (u : ℕ) (x : Thread) → slice_get s.threads u ≡ Some x → UsesNot c v x

pub record NoOtherHas (c : MarkedProgram) (v t : ℕ) (objects : List Object) (s : Core)
    : Type 0 where
  pub places : PlacesHaveNot c v objects s.words
  pub threads : (u : ℕ) (x : Thread) → u ≢ t → slice_get s.threads u ≡ Some x → UsesNot c v x

-- once an `<init>` has thrown, nobody has its object, whatever happens then
abbrev pub ThrownInitsLeaveNoUse : Type 0
ThrownInitsLeaveNoUse =
    (c : MarkedProgram) (cfg : Config) (hs : List Happening) (t v : ℕ) (es : List Happening)
    → IsMarked c → HaveWidth cfg → AreSettings cfg → ThrowsOut c v (core c cfg hs) t
    → NobodyHas c v (run_objects c cfg (hs ++ Of t ∷ es)) (core c cfg (hs ++ Of t ∷ es))

-- as long as the `<init>` that a thread runs on an object has not returned, no place and no other
-- thread has the object
abbrev pub FinishedByOwnReturn : Type 0
FinishedByOwnReturn =
    (c : MarkedProgram) (cfg : Config) (hs : List Happening) (t v : ℕ) (es : List Happening)
    → IsMarked c → HaveWidth cfg → AreSettings cfg → Constructs c v (core c cfg hs) t
    → NeverReturns c v (core c cfg hs) es
    → NoOtherHas c v t (run_objects c cfg (hs ++ es)) (core c cfg (hs ++ es))
