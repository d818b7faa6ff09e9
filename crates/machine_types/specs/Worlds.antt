-- Which objects are unfinished, and which frame of which thread builds each. Of the classes that
-- are frozen, an object is unfinished from its `new` until its `<init>` has returned; an array that
-- goes into an owned field, until it is stored there; of every other, until its header is stored.
use Rattle.std.specs.Prelude.{◌≡◌, ◌≢◌, ◌<◌, ◌≤◌, ℕ, ◌==◌, Bool, true, false, ◌&&◌, Option, Some}
use Rattle.std.specs.Prelude.{None, if◌then◌else◌}
use Rattle.machine_types.specs.Threads.{Attempt}

-- ---- what an object is to the frame that builds it

pub data Item : Type 0 where
  -- its header is not stored yet
  Header : Item
  -- the `new` at a pc made it, and no `<init>` was called on it
  Made : (pc : ℕ) → Item
  -- the receiver of the frame, an `<init>`
  Begun : Item
  -- a new array, which the instruction that the frame stands at stores in an owned field
  Unstored : Item
  -- the frame is gone, and the object was never finished
  Lost : Item

-- height: the number of frames below the one that builds it
pub record Builder : Type 0 where
  pub thread : ℕ
  pub height : ℕ
  pub item : Item

abbrev pub builder : (t height : ℕ) → Item → Builder
builder t height item = record { thread = t; height = height; item = item }

-- the builder of each object; None: it is finished, or there is none
abbrev pub World : Type 0
World = ℕ → Option Builder

-- ---- references

-- a finished object, or null; next: the next free word
abbrev pub IsFinished : World → (next v : ℕ) → Type 0
IsFinished w next v = (v < next) × (w v ≡ None)

-- one that no other thread builds: the monitor of a synchronized `<init>` is its own object
abbrev pub IsOwnOrFinished : World → (next t v : ℕ) → Type 0
IsOwnOrFinished w next t v = (v < next) × ((b : Builder) → w v ≡ Some b → b.thread ≡ t)

-- ---- the whole world; first: the word behind those that are there from the start

pub record IsWorld (w : World) (first next : ℕ) : Type 0 where
  -- a frame builds one object as one item
  pub one : (v u : ℕ) (b : Builder) → b.item ≢ Lost → w v ≡ Some b → w u ≡ Some b → v ≡ u
  pub inside : (v : ℕ) (b : Builder) → w v ≡ Some b → (first ≤ v) × (v < next)
  pub room : first ≤ next

-- ---- worlds with one change

abbrev pub finished : World → (a : ℕ) → World
finished w a v = if v == a then None else w v

abbrev pub same_item : Item → Item → Bool
same_item Header Header = true
same_item (Made pc) (Made at) = pc == at
same_item Begun Begun = true
same_item Unstored Unstored = true
same_item Lost Lost = true
same_item x y = false

abbrev pub same_builder : Builder → Builder → Bool
same_builder b d = (b.thread == d.thread) && (b.height == d.height) && same_item b.item d.item

-- an object that had the builder is lost: its frame is gone, or has made another at the same place
abbrev pub lost_if : Builder → Option Builder → Option Builder
lost_if b None = None
lost_if b (Some d) = if same_builder b d then Some (record d { item = Lost }) else Some d

-- an object gets a builder, which no other has then
abbrev pub with_builder : World → (a : ℕ) → Builder → World
with_builder w a b v = if v == a then Some b else lost_if b (w v)

-- ---- what a thread sees of the world: in an attempt it may go on with the objects that it builds,
-- which counts for all when the attempt is done, and for none when it fails

pub record IsViewOf (now w : World) (t : ℕ) (attempt : Option Attempt) : Type 0 where
  pub same : attempt ≡ None → (v : ℕ) → now v ≡ w v
  pub others : (v : ℕ) → ((b : Builder) → w v ≡ Some b → b.thread ≢ t) → now v ≡ w v
  pub own : (v : ℕ) (b d : Builder) → w v ≡ Some b → b.thread ≡ t → now v ≡ Some d → d.thread ≡ t

-- ---- from one world to a later one, by an event of the thread t in whose course frames above the
-- height stay or go

pub record GoesOn (w later : World) (next more t height : ℕ) : Type 0 where
  pub grows : next ≤ more
  pub finished : (v : ℕ) → IsFinished w next v → later v ≡ None
  pub others : (v : ℕ) (b : Builder) → b.thread ≢ t → w v ≡ Some b → later v ≡ Some b
  pub no_more : (v : ℕ) (b : Builder) → b.thread ≢ t → later v ≡ Some b → w v ≡ Some b
  pub lower : (v : ℕ) (b : Builder) → b.thread ≡ t → b.height < height → w v ≡ Some b
      → later v ≡ Some b
