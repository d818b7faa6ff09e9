-- A write behind its note, and behind its take exchange.
use Rattle.std.specs.Prelude.{◌≡◌, ℕ, ◌+◌, ◌-◌, ◌^◌, ◌<◌, List}
use Rattle.solero_cell.specs.declared.answers.CellWrite.{CellWrite}
use Rattle.solero_cell.specs.declared.answers.CellWrite.TheVariants.{Wrote, NotFree, Lost, Full}
use Rattle.solero_cell.specs.declared.views.Moment.TheVariants.{AtRest, UnderWay}
use Rattle.solero_cell.specs.declared.views.View.{View}
use Rattle.solero_cell.specs.Histories.{IsRecordSeen}
use Rattle.solero_cell.specs.CellViews.{record_of, has_looked, has_released}
use Rattle.solero_cell.specs.Filling.{IsLostBehind}
use Rattle.latch_cell.specs.LatchSteps.{has_published}

-- the values stand in the cell, under the next count, and the lock was let go
pub record IsCopyFilled (was : View) (count : ℕ) (values : List ℕ) (now : View) : Type 0 where
  pub published_at : ℕ
  pub place : ℕ
  pub view : now
      ≡ has_released (has_looked place (AtRest (count + 1))
      (has_published (record_of (count + 1) values)
      (has_looked published_at (UnderWay (count + 1)) was)))
  pub later : was.latest.count < count + 1
  pub seen : IsRecordSeen was (record_of (count + 1) values)

-- behind the exchange that took the lock
pub record IsCopyFilledBehind (was : View) (count : ℕ) (values : List ℕ) (now : View)
    : Type 0 where
  pub taken_at : ℕ
  pub filled : IsCopyFilled (has_looked taken_at (UnderWay count) was) count values now

abbrev pub IsLatchWrittenBehind : (was : View) (count : ℕ) (values : List ℕ) → CellWrite
    → (now : View) → Type 0
IsLatchWrittenBehind was count values (Wrote c) now =
    (c ≡ count + 1) × (c < 2 ^ 62) × IsCopyFilledBehind was count values now
IsLatchWrittenBehind was count values (NotFree word) now = ⊥
IsLatchWrittenBehind was count values (Lost expected found) now =
    IsLostBehind was count expected found now
IsLatchWrittenBehind was count values Full now = (count ≡ 2 ^ 62 - 1) × (now ≡ was)
