-- A write behind its note, and behind its take exchange.
use Rattle.std.specs.Prelude.{◌≡◌, ◌≢◌, ℕ, ◌+◌, ◌-◌, ◌^◌, ◌<◌, List, [], Some, None}
use Rattle.solero_cell.specs.declared.answers.CellWrite.{CellWrite}
use Rattle.solero_cell.specs.declared.answers.CellWrite.TheVariants.{Wrote, NotFree, Lost, Full}
use Rattle.solero_cell.specs.declared.views.Moment.{Moment}
use Rattle.solero_cell.specs.declared.views.Moment.TheVariants.{AtRest, UnderWay}
use Rattle.solero_cell.specs.declared.views.View.{View}
use Rattle.solero_cell.specs.Histories.{IsRecordSeen}
use Rattle.solero_cell.specs.CellViews.{record_of, has_looked, has_failed, has_written}
use Rattle.solero_cell.specs.CellViews.{has_released}
use Rattle.solero_cell.specs.Moments.{word_of_moment}

-- the write of these values has the lock, and has stored nothing
pub record IsLockTaken (count : ℕ) (values : List ℕ) (v : View) : Type 0 where
  pub noted : v.note ≡ Some count
  pub storing : v.storing ≡ Some (record { stored = []; left = values })
  pub loaded : v.loaded ≡ []
  pub joining : v.joining ≡ None

-- the values stand in the cell, under the next count
pub record IsFilled (was : View) (count : ℕ) (values : List ℕ) (now : View) : Type 0 where
  pub place : ℕ
  pub view : now
      ≡ has_written (record_of (count + 1) values)
      (has_looked place (AtRest (count + 1)) (has_released was))
  pub later : was.latest.count < count + 1
  pub seen : IsRecordSeen was (record_of (count + 1) values)

-- the lock was taken, and let go behind the values
pub record IsFilledBehind (was : View) (count : ℕ) (values : List ℕ) (now : View) : Type 0 where
  pub taken_at : ℕ
  pub filled : IsFilled (has_looked taken_at (UnderWay count) was) count values now

pub record IsLostBehind (was : View) (count expected found : ℕ) (now : View) : Type 0 where
  pub place : ℕ
  pub moment : Moment
  pub view : now ≡ has_failed place moment was
  pub word_is : expected ≡ word_of_moment (AtRest count)
  pub found_is : found ≡ word_of_moment moment
  pub differ : expected ≢ found
  pub fits : count + 1 < 2 ^ 62

abbrev pub IsWrittenBehind : (was : View) (count : ℕ) (values : List ℕ) → CellWrite → (now : View)
    → Type 0
IsWrittenBehind was count values (Wrote c) now =
    (c ≡ count + 1) × (c < 2 ^ 62) × IsFilledBehind was count values now
IsWrittenBehind was count values (NotFree word) now = ⊥
IsWrittenBehind was count values (Lost expected found) now =
    IsLostBehind was count expected found now
IsWrittenBehind was count values Full now = (count ≡ 2 ^ 62 - 1) × (now ≡ was)
