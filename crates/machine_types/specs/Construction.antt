-- Unfinished objects of frozen classes are in no place, in no other thread, and in no frame but the
-- one that builds them. So are arrays that go into an owned field; once stored, they are in no
-- other place, and in frames in coloured slots of methods of the field's object alone.
use Rattle.std.specs.Prelude.{◌≡◌, ℕ, suc, ◌-◌, ◌==◌, Bool, true, false, ◌&&◌, List, [], ◌∷◌}
use Rattle.std.specs.Prelude.{length, drop, Contains, Option, Some, None, slice_get, slice_index}
use Rattle.jvm_types.specs.CodeTable.{is_init}
use Rattle.jvm_types.specs.Members.{is_static}
use Rattle.jvm_types.specs.ProgramInvariant.{words_of}
use Rattle.jvm_types.specs.Verifying.{new_class, started}
use Rattle.jvm_types.specs.declared.program.FieldInfo.{FieldInfo}
use Rattle.jvm_types.specs.declared.program.Kind.{Kind}
use Rattle.jvm_types.specs.declared.program.Kind.TheVariants as kinds
use Rattle.jvm_types.specs.declared.program.MethodInfo.{MethodInfo}
use Rattle.jvm_types.specs.declared.code.Op.{Op}
use Rattle.jvm_types.specs.declared.code.Op.TheVariants as ops
use Rattle.jvm_types.specs.declared.program.Target.{Target}
use Rattle.jvm_types.specs.declared.program.Target.TheVariants as targets
use Rattle.jvm_types.specs.declared.class_numbers.TheConstants.{INT_ARRAY_CLASS}
use Rattle.jvm_types.specs.declared.typing.VType.{VType}
use Rattle.jvm_types.specs.declared.typing.VType.TheVariants as types
use Rattle.checked_program.specs.FrozenPlaces.{IsFrozenClass, IsFrozenField, IsGuardedField}
use Rattle.checked_program.specs.OwnedArrays.{IsOwnedArrayField, IsOwnedAt}
use Rattle.checked_program.specs.MarkedProgram.{MarkedProgram}
use Rattle.checked_program.specs.declared.tag.Tag.{Tag}
use Rattle.checked_program.specs.declared.tag.Tag.TheVariants.{This}
use Rattle.machine_types.specs.Core.{Core}
use Rattle.machine_types.specs.Elision.{put_back}
use Rattle.machine_types.specs.Frames.{pushed}
use Rattle.machine_types.specs.OwnedPlaces.{Stores, IsStoredAt, IsStoredNowhere, IsFieldWord}
use Rattle.machine_types.specs.PlainMemory.{Object}
use Rattle.machine_types.specs.Threads.{Frame, Attempt, Thread}
use Rattle.machine_types.specs.declared.phase.Phase.{Phase}
use Rattle.machine_types.specs.declared.lock.Held.{Held}
use Rattle.machine_types.specs.Words.{value_word}
use Rattle.jvm_types.specs.declared.fixed_words.TheConstants.{NEXT_FREE_WORD}
use Rattle.machine_types.specs.declared.phase.After.{After}
use Rattle.machine_types.specs.declared.phase.After.TheVariants as afters
use Rattle.machine_types.specs.declared.phase.Toward.{Toward}
use Rattle.machine_types.specs.declared.phase.Toward.TheVariants as towards
use Rattle.machine_types.specs.declared.phase.Phase.TheVariants as phases
use Rattle.machine_types.specs.Standing.{Standing, CallsMethod, Operands, Thrown, row_at, tags_of}
use Rattle.machine_types.specs.Structure.{operands_in}
use Rattle.machine_types.specs.Worlds.{Item, Header, Made, Begun, Unstored, builder, World}
use Rattle.machine_types.specs.Worlds.{IsFinished, IsOwnOrFinished, IsWorld, IsViewOf, finished}
use Rattle.machine_types.specs.Worlds.{with_builder}

-- ---- some frozen classes, as a test: those with a frozen or a guarded field are among them

pub record AreFrozen (c : MarkedProgram) (frozen : ℕ → Bool) : Type 0 where
  pub those : (class : ℕ) → frozen class ≡ true → IsFrozenClass c.program (tags_of c) class
  pub with_frozen : (fi : ℕ) (k : IsFrozenField c.program (tags_of c) fi)
      → frozen k.field.class ≡ true
  pub with_guarded : (fi : ℕ) (k : IsGuardedField c.program (tags_of c) fi)
      → frozen k.field.class ≡ true

-- the owned array fields, as a test
pub record AreOwned (c : MarkedProgram) (owned : ℕ → Bool) : Type 0 where
  pub those : (fi : ℕ) → owned fi ≡ true → IsOwnedArrayField c.program (tags_of c) fi
  pub all : (fi : ℕ) → IsOwnedArrayField c.program (tags_of c) fi → owned fi ≡ true

-- an instruction stores a new array in an owned field
abbrev pub puts_owned : (owned : ℕ → Bool) → Op → Target → Bool
puts_owned owned (ops.Putfield i) (targets.Field fi) = owned fi
puts_owned owned op target = false

abbrev pub is_frozen_class : (frozen : ℕ → Bool) → Option ℕ → Bool
is_frozen_class frozen None = false
is_frozen_class frozen (Some class) = frozen class

-- an `<init>` of a frozen class
abbrev pub builds : (frozen : ℕ → Bool) → MethodInfo → Bool
builds frozen m = is_init m && frozen m.class

-- what the `new` at a pc makes is of a frozen class
abbrev pub makes_frozen : (frozen : ℕ → Bool) → MethodInfo → (pc : ℕ) → Bool
makes_frozen frozen m pc = is_frozen_class frozen (new_class m.code m.targets pc)

-- ---- slots: what a value is, by its type; in an `<init>` of a frozen class by its tag first

abbrev pub if_so : Bool → (A B : Type 0) → Type 0
if_so true A B = A
if_so false A B = B

-- Fresh pc v: v is what the `new` at the pc made
abbrev pub SlotByType : (Old : ℕ → Type 0) (Fresh : (pc v : ℕ) → Type 0) (young : ℕ → Bool) → VType
    → (v : ℕ) → Type 0
SlotByType Old Fresh young types.Null v = v ≡ 0
SlotByType Old Fresh young (types.Ref class) v = Old v
SlotByType Old Fresh young types.This v = Old v
SlotByType Old Fresh young (types.New pc) v = if_so (young pc) (Fresh pc v) (Old v)
SlotByType Old Fresh young type v = Unit {0}

-- with the tag of `this` the receiver, whatever its type; and no other slot has its type
abbrev pub OwnSlot : (Old : ℕ → Type 0) (Fresh : (pc v : ℕ) → Type 0) (young : ℕ → Bool)
    → (receiver : ℕ) → VType → Tag → (v : ℕ) → Type 0
OwnSlot Old Fresh young receiver type This v = v ≡ receiver
OwnSlot Old Fresh young receiver types.This tag v = ⊥
OwnSlot Old Fresh young receiver type tag v = SlotByType Old Fresh young type v

abbrev pub SlotIs : (Old : ℕ → Type 0) (Fresh : (pc v : ℕ) → Type 0) (own : Bool) (young : ℕ → Bool)
    → (receiver : ℕ) → VType → Tag → (v : ℕ) → Type 0
SlotIs Old Fresh true young receiver type tag v = OwnSlot Old Fresh young receiver type tag v
SlotIs Old Fresh false young receiver type tag v = SlotByType Old Fresh young type v

abbrev pub SlotsAre : (VType → Tag → (v : ℕ) → Type 0) → List VType → List Tag → List ℕ → Type 0
SlotsAre Is [] [] [] = Unit {0}
SlotsAre Is (type ∷ types) (tag ∷ tags) (v ∷ vs) = Is type tag v × SlotsAre Is types tags vs
SlotsAre Is types tags vs = ⊥

-- ---- what a fresh slot of a frame has: an object that the frame made; or, where it waits for the
-- `<init>` of one, the receiver that it called that on; where an exception is thrown nothing is
-- said, since no instruction takes it

pub data BuilderTurn : Type 0 where
  Runs : BuilderTurn
  -- for a method with a receiver, on what the typing says starts by it
  WaitsFor : (receiver : ℕ) (begun : Option (VType × ℕ)) → BuilderTurn
  Throws : BuilderTurn

abbrev pub FreshAtCall : World → (t height receiver : ℕ) → Option (VType × ℕ) → (pc v : ℕ) → Type 0
FreshAtCall w t height receiver (Some (types.New at, class)) pc v =
    if_so (pc == at) (v ≡ receiver) (w v ≡ Some (builder t height (Made pc)))
FreshAtCall w t height receiver begun pc v = w v ≡ Some (builder t height (Made pc))

abbrev pub IsFresh : World → (t height : ℕ) → BuilderTurn → (pc v : ℕ) → Type 0
IsFresh w t height Runs pc v = w v ≡ Some (builder t height (Made pc))
IsFresh w t height (WaitsFor receiver begun) pc v = FreshAtCall w t height receiver begun pc v
IsFresh w t height Throws pc v = Unit {0}

-- ---- frames

-- the receiver of an `<init>` of a frozen class is begun; every other is finished, or null
abbrev pub ReceiverIs : World → (next t height : ℕ) → (own : Bool) → (receiver : ℕ) → Type 0
ReceiverIs w next t height true receiver = w receiver ≡ Some (builder t height Begun)
ReceiverIs w next t height false receiver = IsFinished w next receiver

abbrev pub SlotOf : (frozen : ℕ → Bool) → World → (next t height : ℕ) → BuilderTurn → MethodInfo
    → (receiver : ℕ) → VType → Tag → (v : ℕ) → Type 0
SlotOf frozen w next t height turn m receiver =
    SlotIs (IsFinished w next) (IsFresh w t height turn) (builds frozen m) (makes_frozen frozen m)
    receiver

-- the array on the top is the frame's own where the instruction stores it in an owned field
abbrev pub StackWith : (Is : VType → Tag → (v : ℕ) → Type 0) → (New : (v : ℕ) → Type 0)
    → (puts : Bool) → List VType → List Tag → List ℕ → Type 0
StackWith Is New true (type ∷ types) (tag ∷ tags) (v ∷ vs) = New v × SlotsAre Is types tags vs
StackWith Is New puts types tags vs = SlotsAre Is types tags vs

abbrev pub StackIs : (Is : VType → Tag → (v : ℕ) → Type 0) → (New : (v : ℕ) → Type 0)
    → (puts : Bool) → BuilderTurn → (count : ℕ) → List VType → List Tag → List ℕ → Type 0
StackIs Is New puts Runs count types tags vs = StackWith Is New puts types tags vs
StackIs Is New puts (WaitsFor receiver begun) count types tags vs =
    SlotsAre Is (drop count types) (drop count tags) vs
StackIs Is New puts Throws count types tags vs = Unit {0}

-- ---- arrays that were stored: each slot of the stack by its colours, and no local has one

-- of a reference of any type: it was stored nowhere
abbrev pub IsNoStored : Stores → VType → (v : ℕ) → Type 0
IsNoStored stores types.Int v = Unit {0}
IsNoStored stores types.Top v = Unit {0}
IsNoStored stores type v = IsStoredNowhere stores v

-- of a local: where an exception is thrown nothing is said of what a `new` made
abbrev pub IsNoStoredLocal : Stores → BuilderTurn → VType → (v : ℕ) → Type 0
IsNoStoredLocal stores Throws (types.New pc) v = Unit {0}
IsNoStoredLocal stores turn type v = IsNoStored stores type v

-- where the slot is coloured for an owned field, it has null or an array that was stored in that
-- field of the receiver
pub record IsArraySlot (c : MarkedProgram) (stores : Stores) (f : Frame) (number place : ℕ)
    (type : VType) (v : ℕ) : Type 0 where
  pub owned : (k : IsOwnedAt c.program (tags_of c) f.method number place) (word : ℕ)
      → IsFieldWord c k.fi f.receiver word → IsStoredAt stores word v
  pub other : (IsOwnedAt c.program (tags_of c) f.method number place → ⊥) → IsNoStored stores type v

-- slots from a place on
abbrev pub SlotsFrom : ((place : ℕ) → VType → (v : ℕ) → Type 0) → (place : ℕ) → List VType → List ℕ
    → Type 0
SlotsFrom Is place (type ∷ types) (v ∷ vs) = Is place type v × SlotsFrom Is (suc place) types vs
SlotsFrom Is place types vs = Unit {0}

abbrev pub ArraysIn : ((place : ℕ) → VType → (v : ℕ) → Type 0) → BuilderTurn → (count : ℕ)
    → List VType → List ℕ → Type 0
ArraysIn Is Runs count types vs = SlotsFrom Is 0 types vs
ArraysIn Is (WaitsFor receiver begun) count types vs = SlotsFrom Is count (drop count types) vs
ArraysIn Is Throws count types vs = Unit {0}

-- what a construction says beside its world: which fields are owned, and what was stored in them
pub record Owning : Type 0 where
  pub owned : ℕ → Bool
  pub stores : Stores

pub record FrameKeeps (c : MarkedProgram) (frozen : ℕ → Bool) (own : Owning) (w : World)
    (next t height : ℕ) (turn : BuilderTurn) (f : Frame) : Type 0 where
  pub stands : Standing c f
  pub receiver : ReceiverIs w next t height (builds frozen stands.method) f.receiver
  pub stack : StackIs (SlotOf frozen w next t height turn stands.method f.receiver)
      (λ v. w v ≡ Some (builder t height Unstored))
      (puts_owned own.owned stands.insn.op stands.target) turn (length (row_at c f stands).takes)
      stands.types.stack stands.tags.stack f.stack
  pub locals : SlotsAre (SlotOf frozen w next t height turn stands.method f.receiver)
      stands.types.locals stands.tags.locals f.locals
  pub arrays : ArraysIn (IsArraySlot c own.stores f stands.number) turn
      (length (row_at c f stands).takes) stands.types.stack f.stack
  pub no_arrays : SlotsFrom (λ place. IsNoStoredLocal own.stores turn) 0 stands.types.locals
      f.locals

-- it waits for a method with the receiver
pub record WaitKeeps (c : MarkedProgram) (frozen : ℕ → Bool) (own : Owning) (w : World)
    (next t height callee receiver : ℕ) (f : Frame) : Type 0 where
  pub begun : Option (VType × ℕ)
  pub keeps : FrameKeeps c frozen own w next t height (WaitsFor receiver begun) f
  pub calls : CallsMethod c f keeps.stands callee
  pub begun_is : begun
      ≡ started keeps.stands.method.class (row_at c f keeps.stands).takes keeps.stands.types.stack

abbrev pub KeepBelow : MarkedProgram → (frozen : ℕ → Bool) → Owning → World → (next t : ℕ) → Frame
    → List Frame → Type 0
KeepBelow c frozen own w next t g [] = Unit {0}
KeepBelow c frozen own w next t g (f ∷ fs) =
    WaitKeeps c frozen own w next t (length fs) g.method g.receiver f
    × KeepBelow c frozen own w next t f fs

abbrev pub FramesKeep : MarkedProgram → (frozen : ℕ → Bool) → Owning → World → (next t : ℕ)
    → BuilderTurn → List Frame → Type 0
FramesKeep c frozen own w next t turn [] = Unit {0}
FramesKeep c frozen own w next t turn (f ∷ fs) =
    FrameKeeps c frozen own w next t (length fs) turn f × KeepBelow c frozen own w next t f fs

-- ---- threads

abbrev pub turn_by : Operands → BuilderTurn
turn_by Thrown = Throws
turn_by operands = Runs

-- the new object with its header: of a frozen class, an array that goes into an owned field, or
-- neither
abbrev pub made_world : World → (a t height : ℕ) → Option Item → World
made_world w a t height (Some item) = with_builder w a (builder t height item)
made_world w a t height None = finished w a

-- In Made the top frame lacks its object. With it the frames stand as the world will be when the
-- header is stored.
pub record MadeKeeps (c : MarkedProgram) (frozen : ℕ → Bool) (own : Owning) (w : World)
    (next t a height : ℕ) (fs : List Frame) : Type 0 where
  pub item : Option Item
  -- its `<init>` has not begun
  pub not_begun : item ≡ Some Begun → ⊥
  pub now : w a ≡ Some (builder t height Header)
  pub keep : FramesKeep c frozen own (made_world w a t height item) next t Runs (pushed a fs)

abbrev pub PhaseKeepsFrames : MarkedProgram → (frozen : ℕ → Bool) → Owning → World → (next t : ℕ)
    → Phase → List Frame → Type 0
PhaseKeepsFrames c frozen own w next t (phases.Made a word) fs =
    MadeKeeps c frozen own w next t a (length fs - 1) fs
PhaseKeepsFrames c frozen own w next t phase fs =
    FramesKeep c frozen own w next t (turn_by (operands_in phase)) fs

-- an exception that is carried is finished
abbrev pub AfterKeeps : World → (next : ℕ) → After → Type 0
AfterKeeps w next (afters.Unwind x class) = IsFinished w next x
AfterKeeps w next a = Unit {0}

abbrev pub TowardKeeps : World → (next : ℕ) → Toward → Type 0
TowardKeeps w next (towards.Leave a) = AfterKeeps w next a
TowardKeeps w next towards.Wait = Unit {0}

-- a monitor is built by no other thread
abbrev pub PhaseKeeps : World → (next t : ℕ) → Phase → Type 0
PhaseKeeps w next t (phases.Throw x class) = IsFinished w next x
PhaseKeeps w next t (phases.Enter m tried) = IsOwnOrFinished w next t m
PhaseKeeps w next t (phases.Acquire m) = IsOwnOrFinished w next t m
PhaseKeeps w next t (phases.Take m count) = IsOwnOrFinished w next t m
PhaseKeeps w next t (phases.Flag m u) = IsOwnOrFinished w next t m
PhaseKeeps w next t (phases.TakeFat m r) = IsOwnOrFinished w next t m
PhaseKeeps w next t (phases.Leave m a) = IsOwnOrFinished w next t m × AfterKeeps w next a
PhaseKeeps w next t (phases.Grow m toward) = IsOwnOrFinished w next t m × TowardKeeps w next toward
PhaseKeeps w next t (phases.FlatOut m a) = IsOwnOrFinished w next t m × AfterKeeps w next a
PhaseKeeps w next t (phases.Own m r toward) = IsOwnOrFinished w next t m × TowardKeeps w next toward
PhaseKeeps w next t (phases.FatIn m r toward) =
    IsOwnOrFinished w next t m × TowardKeeps w next toward
PhaseKeeps w next t (phases.WaitBit m r) = IsOwnOrFinished w next t m
PhaseKeeps w next t (phases.WaitOut m r) = IsOwnOrFinished w next t m
PhaseKeeps w next t (phases.WaitLook m r depth) = IsOwnOrFinished w next t m
PhaseKeeps w next t (phases.Retake m r depth) = IsOwnOrFinished w next t m
PhaseKeeps w next t (phases.NotifyLook m r) = IsOwnOrFinished w next t m
PhaseKeeps w next t (phases.NotifyOne m r u) = IsOwnOrFinished w next t m
PhaseKeeps w next t (phases.NotifyAll m r) = IsOwnOrFinished w next t m
PhaseKeeps w next t phase = Unit {0}

-- and the frames with that of the entry put back, as the world is if the attempt fails
pub record AttemptKeeps (c : MarkedProgram) (frozen : ℕ → Bool) (own : Owning) (w : World)
    (next t : ℕ) (fs : List Frame) (a : Attempt) : Type 0 where
  pub monitor : IsOwnOrFinished w next t a.monitor
  pub goes_back : FramesKeep c frozen own w next t Runs (put_back a fs)

abbrev pub AttemptKeepsIn : MarkedProgram → (frozen : ℕ → Bool) → Owning → World → (next t : ℕ)
    → List Frame → Option Attempt → Type 0
AttemptKeepsIn c frozen own w next t fs None = Unit {0}
AttemptKeepsIn c frozen own w next t fs (Some a) = AttemptKeeps c frozen own w next t fs a

-- was: the phase that counts. The frames and the phase are of the world as the thread sees it.
pub record ThreadKeeps (c : MarkedProgram) (frozen : ℕ → Bool) (own : Owning) (w : World)
    (next t : ℕ) (was : Phase) (s : Thread) : Type 0 where
  pub now : World
  pub now_is : IsViewOf now w t s.attempt
  -- what it sees is a world, as w is
  pub now_world : IsWorld w (words_of c.program) next → IsWorld now (words_of c.program) next
  pub frames : PhaseKeepsFrames c frozen own now next t was s.frames
  pub phase : PhaseKeeps now next t was
  pub held : (h : Held) → Contains s.held h → IsOwnOrFinished w next t h.monitor
  pub attempt : AttemptKeepsIn c frozen own w next t s.frames s.attempt

-- ---- places

abbrev pub KindKeeps : World → (next : ℕ) → Kind → (v : ℕ) → Type 0
KindKeeps w next (kinds.Ref class) v = IsFinished w next v
KindKeeps w next kind v = Unit {0}

-- an owned field has null, or an array that was stored there; no other place has such an array
abbrev pub PlaceStores : Stores → (word : ℕ) → (owned : Bool) → Kind → (v : ℕ) → Type 0
PlaceStores stores word true kind v = IsStoredAt stores word v
PlaceStores stores word false (kinds.Ref class) v = IsStoredNowhere stores v
PlaceStores stores word false kind v = Unit {0}

-- no place has an unfinished object
pub record PlacesKeep (c : MarkedProgram) (own : Owning) (w : World) (next : ℕ)
    (objects : List Object) (words : List ℕ) : Type 0 where
  pub fields : (o : Object) (number : ℕ) (f : FieldInfo) → Contains objects o
      → slice_get c.program.fields number ≡ Some f → is_static f.flags ≡ false → o.class ≡ f.class
      → KindKeeps w next f.kind (slice_index words (value_word o.reference f.index))
  pub statics : (number : ℕ) (f : FieldInfo) → slice_get c.program.fields number ≡ Some f
      → is_static f.flags ≡ true → KindKeeps w next f.kind (slice_index words f.index)
  pub arrays : (o : Object) (number : ℕ) (f : FieldInfo) → Contains objects o
      → slice_get c.program.fields number ≡ Some f → is_static f.flags ≡ false → o.class ≡ f.class
      → PlaceStores own.stores (value_word o.reference f.index) (own.owned number) f.kind
      (slice_index words (value_word o.reference f.index))
  pub static_arrays : (number : ℕ) (f : FieldInfo) → slice_get c.program.fields number ≡ Some f
      → is_static f.flags ≡ true
      → PlaceStores own.stores f.index false f.kind (slice_index words f.index)
  -- what was stored in an owned field is an array
  pub stored : (v word : ℕ) → own.stores v ≡ Some word
      → (o : Object) × (Contains objects o) × (o.reference ≡ v) × (o.class ≡ INT_ARRAY_CLASS)

-- ---- the whole

pub record Construction (c : MarkedProgram) (frozen : ℕ → Bool) (own : Owning) (w : World)
    (was : ℕ → Phase) (objects : List Object) (s : Core) : Type 0 where
  pub frozen_are : AreFrozen c frozen
  pub owned_are : AreOwned c own.owned
  pub world : IsWorld w (words_of c.program) (slice_index s.words NEXT_FREE_WORD)
  pub each : (t : ℕ) (x : Thread) → slice_get s.threads t ≡ Some x
      → ThreadKeeps c frozen own w (slice_index s.words NEXT_FREE_WORD) t (was t) x
  pub places : PlacesKeep c own w (slice_index s.words NEXT_FREE_WORD) objects s.words
