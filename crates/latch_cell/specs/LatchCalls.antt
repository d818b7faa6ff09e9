-- What each answer of a read and of a write says of the seat.
use Rattle.std.specs.Prelude.{◌≡◌, ℕ, ◌+◌, ◌-◌, ◌^◌, ◌<◌, ◌≤◌, List, ◌⊎◌, length}
use Rattle.solero_cell.specs.declared.answers.CellWrite.{CellWrite}
use Rattle.solero_cell.specs.declared.answers.CellWrite.TheVariants as wrote
use Rattle.solero_cell.specs.declared.views.Moment.{Moment}
use Rattle.solero_cell.specs.declared.views.Moment.TheVariants.{AtRest, UnderWay}
use Rattle.solero_cell.specs.declared.views.View.{View}
use Rattle.solero_cell.specs.Histories.{IsRecordSeen}
use Rattle.solero_cell.specs.CellViews.{record_of, noted, has_looked, has_read, has_released}
use Rattle.solero_cell.specs.CellViews.{IsStill}
use Rattle.solero_cell.specs.Calls.{Seated, IsLost}
use Rattle.solero_cell.specs.Steps.{HasFoundHeld}
use Rattle.latch_cell.specs.declared.answers.LatchRead.{LatchRead}
use Rattle.latch_cell.specs.declared.answers.LatchRead.TheVariants.{Got, Changed}
use Rattle.latch_cell.specs.Copies.{latch_words}
use Rattle.latch_cell.specs.LatchRules.{count_of}
use Rattle.latch_cell.specs.LatchSteps.{has_counted, has_missed, has_published}

-- what holds of every seat between two calls
pub record IsLatchSeat (s : Seated) : Type 0 where
  pub still : IsStill s.view
  pub share : 0 < s.view.share.parts
  pub words : s.table_id.words ≡ latch_words (length s.view.opening.values)
  pub slots : s.table_id.slots ≡ 0
  pub few : length s.view.opening.values ≤ 64

-- ---- a read

-- an attempt has found a count, and a higher one at its end: a whole write ended in it
pub record IsCopyAttemptOver (was now : View) : Type 0 where
  pub noted_at : ℕ
  pub noted : Moment
  pub place : ℕ
  pub found : Moment
  pub view : now ≡ has_looked place found (has_counted noted_at noted was)
  pub above : count_of noted < count_of found

-- the attempt begins at the view, or behind one that ended without an answer
abbrev pub IsCopyTryBegun : (was now : View) → Type 0
IsCopyTryBegun was now = (now ≡ was) ⊎ IsCopyAttemptOver was now

-- the count of the values was found before they were loaded, and behind that again
pub record IsCopyGot (was : View) (c : ℕ) (values : List ℕ) (now : View) : Type 0 where
  pub begun : View
  pub begins : IsCopyTryBegun was begun
  pub noted_at : ℕ
  pub noted : Moment
  pub place : ℕ
  pub found : Moment
  pub view : now
      ≡ has_read (record_of c values) (has_looked place found (has_counted noted_at noted begun))
  pub noted_is : c ≡ count_of noted
  pub found_is : c ≡ count_of found
  pub later : was.latest.count ≤ c
  pub seen : IsRecordSeen was (record_of c values)

-- two attempts were over; the counts are those that the second one found
pub record IsCopyChanged (was : View) (noted found : ℕ) (now : View) : Type 0 where
  pub begun : View
  pub begins : IsCopyAttemptOver was begun
  pub noted_at : ℕ
  pub first : Moment
  pub place : ℕ
  pub last : Moment
  pub view : now ≡ has_missed place last (has_counted noted_at first begun)
  pub noted_is : noted ≡ count_of first
  pub found_is : found ≡ count_of last
  pub above : noted < found

abbrev pub IsLatchTried : (was : View) → (values : List ℕ) → LatchRead → (now : View) → Type 0
IsLatchTried was values (Got c) now = IsCopyGot was c values now
IsLatchTried was values (Changed noted found) now = IsCopyChanged was noted found now

-- `out` has the values after Got, and is unchanged after the other answer
abbrev pub IsLatchRead : (was : View) (out : List ℕ) → LatchRead → (now : View) (filled : List ℕ)
    → Type 0
IsLatchRead was out (Got c) now filled = IsCopyGot was c filled now
IsLatchRead was out (Changed noted found) now filled =
    IsCopyChanged was noted found now × (filled ≡ out)

-- ---- a write: the lock was taken, the count stored behind the values, and the lock let go

pub record IsLatchWrote (was : View) (values : List ℕ) (c : ℕ) (now : View) : Type 0 where
  pub before : ℕ
  pub count : c ≡ before + 1
  pub noted_at : ℕ
  pub taken_at : ℕ
  pub published_at : ℕ
  pub place : ℕ
  pub view : now
      ≡ has_released (has_looked place (AtRest c)
      (has_published (record_of c values) (has_looked published_at (UnderWay c)
      (has_looked taken_at (UnderWay before) (noted noted_at before was)))))
  pub later : was.latest.count < c
  pub seen : IsRecordSeen was (record_of c values)
  pub fits : c < 2 ^ 62

abbrev pub IsLatchWritten : (was : View) (values : List ℕ) → CellWrite → (now : View) → Type 0
IsLatchWritten was values (wrote.Wrote c) now = IsLatchWrote was values c now
IsLatchWritten was values (wrote.NotFree word) now = HasFoundHeld was word now
IsLatchWritten was values (wrote.Lost expected found) now = IsLost was expected found now
IsLatchWritten was values wrote.Full now = (place : ℕ) × (now ≡ noted place (2 ^ 62 - 1) was)
