-- One attempt at a read, and what follows its note.
use Rattle.std.specs.Prelude.{◌≡◌, ℕ, ◌<◌, ◌≤◌, List, Bool}
use Rattle.solero_cell.specs.declared.views.Moment.{Moment}
use Rattle.solero_cell.specs.declared.views.View.{View}
use Rattle.solero_cell.specs.Histories.{IsRecordSeen}
use Rattle.solero_cell.specs.CellViews.{record_of, has_looked, has_read}
use Rattle.latch_cell.specs.declared.answers.LatchRead.{LatchRead}
use Rattle.latch_cell.specs.declared.answers.LatchRead.TheVariants.{Got, Changed}
use Rattle.latch_cell.specs.LatchRules.{count_of}
use Rattle.latch_cell.specs.LatchSteps.{has_counted, copy_attempt_ended}

pub record IsBehindCopyGot (was : View) (c : ℕ) (values : List ℕ) (now : View) : Type 0 where
  pub place : ℕ
  pub found : Moment
  pub view : now ≡ has_read (record_of c values) (has_looked place found was)
  pub found_is : c ≡ count_of found
  pub seen : IsRecordSeen was (record_of c values)

pub record IsBehindCopyChanged (is_last : Bool) (was : View) (noted found : ℕ) (now : View)
    : Type 0 where
  pub place : ℕ
  pub last : Moment
  pub view : now ≡ copy_attempt_ended is_last place last was
  pub found_is : found ≡ count_of last
  pub above : noted < found

abbrev pub IsBehindCount : (is_last : Bool) → (was : View) → (c : ℕ) → (values : List ℕ)
    → LatchRead → (now : View) → Type 0
IsBehindCount is_last was c values (Got count) now =
    (count ≡ c) × IsBehindCopyGot was c values now
IsBehindCount is_last was c values (Changed noted found) now =
    (noted ≡ c) × IsBehindCopyChanged is_last was noted found now

pub record HasGotCopy (was : View) (c : ℕ) (values : List ℕ) (now : View) : Type 0 where
  pub noted_at : ℕ
  pub noted : Moment
  pub place : ℕ
  pub found : Moment
  pub view : now
      ≡ has_read (record_of c values) (has_looked place found (has_counted noted_at noted was))
  pub noted_is : c ≡ count_of noted
  pub found_is : c ≡ count_of found
  pub later : was.latest.count ≤ c
  pub seen : IsRecordSeen was (record_of c values)

pub record HasChangedCopy (is_last : Bool) (was : View) (noted found : ℕ) (now : View)
    : Type 0 where
  pub noted_at : ℕ
  pub first : Moment
  pub place : ℕ
  pub last : Moment
  pub view : now ≡ copy_attempt_ended is_last place last (has_counted noted_at first was)
  pub noted_is : noted ≡ count_of first
  pub found_is : found ≡ count_of last
  pub above : noted < found

abbrev pub IsLatchAttempt : (is_last : Bool) → (was : View) → (values : List ℕ) → LatchRead
    → (now : View) → Type 0
IsLatchAttempt is_last was values (Got c) now = HasGotCopy was c values now
IsLatchAttempt is_last was values (Changed noted found) now =
    HasChangedCopy is_last was noted found now
