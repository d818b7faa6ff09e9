-- What each kind of step tells its seat, by the word that it found.
use Rattle.std.specs.Prelude.{◌≡◌, ◌≢◌, ℕ, ◌+◌, ◌<◌, ◌≤◌, List, [], Bool, true, if◌then◌else◌}
use Rattle.std.specs.Prelude.{unwrap_or}
use Rattle.machine_types.specs.LockWords.{is_lock_word, lock_of, word_of_lock}
use Rattle.machine_types.specs.declared.lock.LockWord.{LockWord}
use Rattle.machine_types.specs.declared.lock.LockWord.TheVariants.{Free}
use Rattle.solero_cell.specs.declared.views.Moment.{Moment}
use Rattle.solero_cell.specs.declared.views.Moment.TheVariants.{AtRest, UnderWay}
use Rattle.solero_cell.specs.declared.views.Record.{Record}
use Rattle.solero_cell.specs.declared.views.Storing.{Storing}
use Rattle.solero_cell.specs.declared.views.View.{View}
use Rattle.solero_cell.specs.Histories.{History, IsRecordSeen, OwnStand, RecordStands}
use Rattle.solero_cell.specs.CellViews.{record_of, noted, has_failed, forgot, has_read, has_taken}
use Rattle.solero_cell.specs.CellViews.{has_looked, has_written, has_released, has_compared}
use Rattle.solero_cell.specs.Moments.{word_of_moment}

abbrev pub note_of : View → ℕ
note_of v = unwrap_or v.note 0

-- the free word of the count that was noted
abbrev pub noted_word : View → ℕ
noted_word v = word_of_lock (Free (note_of v))

abbrev pub storing_of : View → Storing
storing_of v = unwrap_or v.storing (record { stored = []; left = [] })

abbrev pub joining_of : View → Record
joining_of v = unwrap_or v.joining (record_of 0 [])

-- ---- a note load: what is not free fails the try

pub record HasNoted (was : View) (c : ℕ) (now : View) : Type 0 where
  pub place : ℕ
  pub view : now ≡ noted place c was
  pub later : was.latest.count ≤ c

-- the word is the held one
pub record HasFoundHeld (was : View) (word : ℕ) (now : View) : Type 0 where
  pub place : ℕ
  pub count : ℕ
  pub view : now ≡ has_failed place (UnderWay count) was
  pub word_is : word ≡ word_of_moment (UnderWay count)

abbrev pub NotedBy : LockWord → (word : ℕ) → (was now : View) → Type 0
NotedBy (Free c) word was now = HasNoted was c now
NotedBy lock word was now = HasFoundHeld was word now

pub record TellsNote (was : View) (word : ℕ) (now : View) : Type 0 where
  pub lock : is_lock_word word ≡ true
  pub noted : NotedBy (lock_of word) word was now

-- ---- a finish load: another word than the noted one ends the attempt, and fails the try where
-- this attempt is its last

abbrev pub attempt_ended : (is_last : Bool) → (place : ℕ) → Moment → View → View
attempt_ended is_last n m v = if is_last then has_failed n m v else has_looked n m v

pub record HasRead (was now : View) : Type 0 where
  pub place : ℕ
  pub view : now
      ≡ has_read (record_of (note_of was) was.loaded)
      (has_looked place (AtRest (note_of was)) (forgot was))
  pub seen : IsRecordSeen was (record_of (note_of was) was.loaded)

-- the attempt has ended with the word of this moment
pub record EndsAttempt (is_last : Bool) (was : View) (word : ℕ) (now : View) : Type 0 where
  pub place : ℕ
  pub moment : Moment
  pub view : now ≡ attempt_ended is_last place moment (forgot was)
  pub word_is : word ≡ word_of_moment moment

pub record TellsFinish (is_last : Bool) (was : View) (word : ℕ) (now : View) : Type 0 where
  pub same : word ≡ noted_word was → HasRead was now
  pub other : word ≢ noted_word was → EndsAttempt is_last was word now

-- ---- a take exchange: another word than the noted one fails the try

pub record HasTakenLock (values : List ℕ) (was now : View) : Type 0 where
  pub place : ℕ
  pub view : now ≡ has_taken values (has_looked place (UnderWay (note_of was)) was)

pub record HasLost (was : View) (word : ℕ) (now : View) : Type 0 where
  pub place : ℕ
  pub moment : Moment
  pub view : now ≡ has_failed place moment was
  pub word_is : word ≡ word_of_moment moment

pub record TellsTake (values : List ℕ) (was : View) (word : ℕ) (now : View) : Type 0 where
  pub same : word ≡ noted_word was → HasTakenLock values was now
  pub other : word ≢ noted_word was → HasLost was word now

-- ---- a release store

pub record HasWritten (was now : View) : Type 0 where
  pub place : ℕ
  pub view : now
      ≡ has_written (record_of (note_of was + 1) (storing_of was).stored)
      (has_looked place (AtRest (note_of was + 1)) (has_released was))
  pub seen : IsRecordSeen was (record_of (note_of was + 1) (storing_of was).stored)
  pub above : was.latest.count < note_of was + 1

-- ---- the second load of a join: both latest records are of one history

pub record HasCompared (was now : View) : Type 0 where
  pub view : now ≡ has_compared (joining_of was) was
  pub history : History
  pub own : OwnStand was.opening history was
  pub other : RecordStands was.opening history (joining_of was)
