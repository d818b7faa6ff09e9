-- What those kinds of step tell a seat that the first cell does not have: loads of the count, the
-- store of the count, and the store that lets the lock go.
use Rattle.std.specs.Prelude.{◌≡◌, ◌≢◌, ℕ, ◌+◌, ◌<◌, ◌≤◌, [], Bool, if◌then◌else◌, Some}
use Rattle.solero_cell.specs.declared.views.Moment.{Moment}
use Rattle.solero_cell.specs.declared.views.Moment.TheVariants.{AtRest, UnderWay}
use Rattle.solero_cell.specs.declared.views.Record.{Record}
use Rattle.solero_cell.specs.declared.views.View.{View}
use Rattle.solero_cell.specs.Histories.{IsRecordSeen}
use Rattle.solero_cell.specs.CellViews.{record_of, has_looked, forgot, has_read, has_written}
use Rattle.solero_cell.specs.CellViews.{has_released}
use Rattle.solero_cell.specs.Steps.{note_of, storing_of}
use Rattle.latch_cell.specs.LatchRules.{count_of}

-- ---- a read notes the count

abbrev pub has_counted : (place : ℕ) → Moment → View → View
has_counted n m v = record (has_looked n m v) { note = Some (count_of m); notes = v.notes + 1 }

pub record HasCounted (was : View) (c : ℕ) (now : View) : Type 0 where
  pub place : ℕ
  pub moment : Moment
  pub view : now ≡ has_counted place moment was
  pub count_is : c ≡ count_of moment
  pub later : was.latest.count ≤ c

-- ---- a read's last load: where the count is another one, a whole write has ended since the note

pub record HasReadCopy (was now : View) : Type 0 where
  pub place : ℕ
  pub moment : Moment
  pub count_is : note_of was ≡ count_of moment
  pub view : now
      ≡ has_read (record_of (note_of was) was.loaded) (has_looked place moment (forgot was))
  pub seen : IsRecordSeen was (record_of (note_of was) was.loaded)

-- a try failed, and found this moment's count
abbrev pub has_missed : (place : ℕ) → Moment → View → View
has_missed n m v = record (has_looked n m v) { failed = v.failed + 1; found = Some (count_of m) }

abbrev pub copy_attempt_ended : (is_last : Bool) → (place : ℕ) → Moment → View → View
copy_attempt_ended is_last n m v = if is_last then has_missed n m v else has_looked n m v

pub record EndsCopyAttempt (is_last : Bool) (was : View) (c : ℕ) (now : View) : Type 0 where
  pub place : ℕ
  pub moment : Moment
  pub view : now ≡ copy_attempt_ended is_last place moment (forgot was)
  pub count_is : c ≡ count_of moment
  pub above : note_of was < c

pub record TellsCopyFinish (is_last : Bool) (was : View) (c : ℕ) (now : View) : Type 0 where
  pub same : c ≡ note_of was → HasReadCopy was now
  pub other : c ≢ note_of was → EndsCopyAttempt is_last was c now

-- ---- the count of a write is stored: its values stand, and of a next write nothing is stored yet

abbrev pub has_published : Record → View → View
has_published r v =
    record (has_written r v) {
      note = Some r.count;
      storing = Some (record { stored = []; left = r.values });
    }

pub record HasPublished (was now : View) : Type 0 where
  pub place : ℕ
  pub view : now
      ≡ has_published (record_of (note_of was + 1) (storing_of was).stored)
      (has_looked place (UnderWay (note_of was + 1)) was)
  pub seen : IsRecordSeen was (record_of (note_of was + 1) (storing_of was).stored)
  pub above : was.latest.count < note_of was + 1

-- ---- the lock is let go

pub record HasLetGo (was now : View) : Type 0 where
  pub place : ℕ
  pub view : now ≡ has_released (has_looked place (AtRest (note_of was)) was)
