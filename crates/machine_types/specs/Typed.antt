-- Types: frames and places have values of the types that verification and declarations give them
-- (JVMS 4.10.2.2, 2.3, 2.4).
use Rattle.std.specs.Prelude.{◌≡◌, ℕ, ◌⊎◌, ◌<◌, ◌^◌, true, false, List, [], ◌∷◌, length, drop}
use Rattle.std.specs.Prelude.{Option, Some, None, slice_get, slice_index, Contains}
use Rattle.std.specs.List.{AllZip}
use Rattle.jvm_types.specs.ClassTree.{is_subclass}
use Rattle.jvm_types.specs.Members.{is_static}
use Rattle.jvm_types.specs.Verifying.{new_class}
use Rattle.jvm_types.specs.declared.outcome.Thrown.{Thrown}
use Rattle.jvm_types.specs.declared.program.FieldInfo.{FieldInfo}
use Rattle.jvm_types.specs.declared.program.Kind.{Kind}
use Rattle.jvm_types.specs.declared.program.Kind.TheVariants as kinds
use Rattle.jvm_types.specs.declared.program.MethodInfo.{MethodInfo}
use Rattle.jvm_types.specs.declared.program.Program.{Program}
use Rattle.jvm_types.specs.declared.typing.VType.{VType}
use Rattle.jvm_types.specs.declared.typing.VType.TheVariants.{Int, Null, Ref, This, New, Top}
use Rattle.checked_program.specs.MarkedProgram.{MarkedProgram}
use Rattle.machine_types.specs.Core.{Core}
use Rattle.machine_types.specs.Elision.{put_back}
use Rattle.machine_types.specs.Frames.{pushed}
use Rattle.machine_types.specs.PlainMemory.{Object, header_of}
use Rattle.machine_types.specs.ReadyObjects.{class_of}
use Rattle.machine_types.specs.Threads.{Frame, Attempt, Thread}
use Rattle.machine_types.specs.declared.phase.Phase.{Phase}
use Rattle.machine_types.specs.Words.{header_class, header_word, value_word}
use Rattle.machine_types.specs.declared.phase.After.{After}
use Rattle.machine_types.specs.declared.phase.After.TheVariants as afters
use Rattle.machine_types.specs.declared.phase.Toward.{Toward}
use Rattle.machine_types.specs.declared.phase.Toward.TheVariants as towards
use Rattle.machine_types.specs.declared.phase.Phase.TheVariants as phases
use Rattle.machine_types.specs.Standing.{Standing, CallsMethod, row_at}
use Rattle.jvm_types.specs.declared.class_numbers.TheConstants.{INT_ARRAY_CLASS}

-- ---- values

-- The meaning of "an object of just this class stands there" is a parameter: the same lemmas serve
-- this fact and, with "the word is below the number of heap words", what is lawful.
abbrev pub Classes : Type 1
Classes = (class v : ℕ) → Type 0

-- null, or an object of the class or of one below it
abbrev pub IsNullOr : Classes → (class v : ℕ) → Type 0
IsNullOr is class v = (v ≡ 0) ⊎ ((d : ℕ) × (is d v) × (is_subclass d class ≡ true))

-- an object of the class that the `new` at a pc names
abbrev pub IsMadeAt : MethodInfo → Classes → (pc v : ℕ) → Type 0
IsMadeAt m is pc v = (class : ℕ) × (new_class m.code m.targets pc ≡ Some class) × (is class v)

abbrev pub Holds : MethodInfo → Classes → VType → (v : ℕ) → Type 0
Holds m is Int v = v < 2 ^ 32
Holds m is Null v = v ≡ 0
Holds m is (Ref class) v = IsNullOr is class v
Holds m is This v = is m.class v
Holds m is (New pc) v = IsMadeAt m is pc v
Holds m is Top v = Unit {0}

abbrev pub KindHolds : Classes → Kind → (v : ℕ) → Type 0
KindHolds is (kinds.Ref class) v = IsNullOr is class v
KindHolds is kind v = v < 2 ^ 32

-- ---- frames

-- of a frame whose stack lacks so many values on top
pub record FrameHolds (c : MarkedProgram) (is : Classes) (count : ℕ) (f : Frame) : Type 0 where
  pub stands : Standing c f
  pub stack : AllZip (Holds stands.method is) (drop count stands.types.stack) f.stack
  pub locals : AllZip (Holds stands.method is) stands.types.locals f.locals
  pub receiver : is_static stands.method.flags ≡ false → is stands.method.class f.receiver

-- it waits, at its call, without the values that the call took
pub record WaitHolds (c : MarkedProgram) (is : Classes) (callee : ℕ) (f : Frame) : Type 0 where
  pub count : ℕ
  pub holds : FrameHolds c is count f
  pub calls : CallsMethod c f holds.stands callee
  pub taken : count ≡ length (row_at c f holds.stands).takes

abbrev pub HoldBelow : MarkedProgram → Classes → (callee : ℕ) → List Frame → Type 0
HoldBelow c is callee [] = Unit {0}
HoldBelow c is callee (f ∷ fs) = WaitHolds c is callee f × HoldBelow c is f.method fs

-- all frames, with the top one as it is where an instruction begins
abbrev pub FramesHold : MarkedProgram → Classes → List Frame → Type 0
FramesHold c is [] = Unit {0}
FramesHold c is (f ∷ fs) = FrameHolds c is 0 f × HoldBelow c is f.method fs

-- the top frame throws: as it was before its instruction, or, behind a callee that an exception
-- ended, without what its call took
abbrev pub ThrownHolds : MarkedProgram → Classes → Frame → Type 0
ThrownHolds c is f = FrameHolds c is 0 f ⊎ ((callee : ℕ) × WaitHolds c is callee f)

abbrev pub FramesThrown : MarkedProgram → Classes → List Frame → Type 0
FramesThrown c is [] = Unit {0}
FramesThrown c is (f ∷ fs) = ThrownHolds c is f × HoldBelow c is f.method fs

-- ---- what a phase carries

-- the exception is an object of its class
abbrev pub IsException : Classes → (x : ℕ) → Thrown → Type 0
IsException is x class = is (class_of class) x

-- the word of the element that the array and the index on the stack name, with the int above them
-- where it is to be stored
abbrev pub IsElementOn : (word : ℕ) → Option ℕ → List ℕ → Type 0
IsElementOn word None (i ∷ a ∷ s) = word ≡ value_word a i
IsElementOn word (Some v) (w ∷ i ∷ a ∷ s) = (word ≡ value_word a i) × (v ≡ w)
IsElementOn word stored s = ⊥

abbrev pub ElementStands : (word : ℕ) → Option ℕ → List Frame → Type 0
ElementStands word stored [] = ⊥
ElementStands word stored (f ∷ fs) = IsElementOn word stored f.stack

-- an array that is there has the element
pub record HasElement (objects : List Object) (array i : ℕ) : Type 0 where
  pub object : Object
  pub there : Contains objects object
  pub is : object.reference ≡ array
  pub below : i < length object.values

-- the array and the index are those on the stack
abbrev pub HasElementOn : List Object → Option ℕ → List ℕ → Type 0
HasElementOn objects None (i ∷ a ∷ s) = HasElement objects a i
HasElementOn objects (Some v) (w ∷ i ∷ a ∷ s) = HasElement objects a i
HasElementOn objects stored s = ⊥

abbrev pub HasElementIn : List Object → Option ℕ → List Frame → Type 0
HasElementIn objects stored [] = ⊥
HasElementIn objects stored (f ∷ fs) = HasElementOn objects stored f.stack

abbrev pub AfterHolds : MarkedProgram → Classes → After → List Frame → Type 0
AfterHolds c is (afters.Unwind x class) fs = IsException is x class × FramesThrown c is fs
AfterHolds c is a fs = FramesHold c is fs

abbrev pub TowardHolds : MarkedProgram → Classes → Toward → List Frame → Type 0
TowardHolds c is (towards.Leave a) fs = AfterHolds c is a fs
TowardHolds c is towards.Wait fs = FramesHold c is fs

-- in Made the object is there as soon as its header is
abbrev pub with_object : Classes → (class a : ℕ) → Classes
with_object is class a = λ d v. is d v ⊎ ((d ≡ class) × (v ≡ a))

-- a monitor that is to be entered
abbrev pub IsObject : Classes → (m : ℕ) → Type 0
IsObject is m = (class : ℕ) × is class m

abbrev pub PhaseHolds : MarkedProgram → Classes → Phase → List Frame → Type 0
PhaseHolds c is (phases.Element word stored) fs = ElementStands word stored fs × FramesHold c is fs
PhaseHolds c is (phases.Made a word) fs =
    FramesHold c (with_object is (header_class word) a) (pushed a fs)
PhaseHolds c is (phases.Throw x class) fs = IsException is x class × FramesThrown c is fs
PhaseHolds c is (phases.Enter m tried) fs = IsObject is m × FramesHold c is fs
PhaseHolds c is (phases.Acquire m) fs = IsObject is m × FramesHold c is fs
PhaseHolds c is (phases.Take m count) fs = IsObject is m × FramesHold c is fs
PhaseHolds c is (phases.Flag m u) fs = IsObject is m × FramesHold c is fs
PhaseHolds c is (phases.TakeFat m r) fs = IsObject is m × FramesHold c is fs
PhaseHolds c is (phases.Leave m a) fs = AfterHolds c is a fs
PhaseHolds c is (phases.Grow m toward) fs = TowardHolds c is toward fs
PhaseHolds c is (phases.FlatOut m a) fs = AfterHolds c is a fs
PhaseHolds c is (phases.Own m r toward) fs = TowardHolds c is toward fs
PhaseHolds c is (phases.FatIn m r toward) fs = TowardHolds c is toward fs
PhaseHolds c is phase fs = FramesHold c is fs

-- ---- threads

-- its monitor, and the frames with that of its entry put back
abbrev pub AttemptHolds : MarkedProgram → Classes → List Frame → Option Attempt → Type 0
AttemptHolds c is fs None = Unit {0}
AttemptHolds c is fs (Some a) = IsObject is a.monitor × FramesHold c is (put_back a fs)

pub record ThreadHolds (c : MarkedProgram) (is : Classes) (s : Thread) : Type 0 where
  pub phase : PhaseHolds c is s.phase s.frames
  pub attempt : AttemptHolds c is s.frames s.attempt

-- ---- places

-- the objects by their references
abbrev pub HasClass : List Object → Classes
HasClass objects class v =
    (o : Object) × (Contains objects o) × (o.reference ≡ v) × (o.class ≡ class)

pub record PlacesHold (p : Program) (objects : List Object) (words : List ℕ) : Type 0 where
  pub headers : (o : Object) → Contains objects o
      → slice_index words (header_word o.reference) ≡ header_of o
  pub fields : (o : Object) (number : ℕ) (f : FieldInfo) → Contains objects o
      → slice_get p.fields number ≡ Some f → is_static f.flags ≡ false → o.class ≡ f.class
      → KindHolds (HasClass objects) f.kind (slice_index words (value_word o.reference f.index))
  pub elements : (o : Object) (i : ℕ) → Contains objects o → o.class ≡ INT_ARRAY_CLASS
      → i < length o.values → slice_index words (value_word o.reference i) < 2 ^ 32
  pub statics : (number : ℕ) (f : FieldInfo) → slice_get p.fields number ≡ Some f
      → is_static f.flags ≡ true → KindHolds (HasClass objects) f.kind (slice_index words f.index)

-- of a state with these objects
pub record Typed (c : MarkedProgram) (objects : List Object) (s : Core) : Type 0 where
  pub threads : (t : ℕ) (x : Thread) → slice_get s.threads t ≡ Some x
      → ThreadHolds c (HasClass objects) x
  -- no element is read or written behind the last one
  pub elements : (t : ℕ) (x : Thread) (word : ℕ) (stored : Option ℕ)
      → slice_get s.threads t ≡ Some x → x.phase ≡ phases.Element word stored
      → HasElementIn objects stored x.frames
  pub places : PlacesHold c.program objects s.words
