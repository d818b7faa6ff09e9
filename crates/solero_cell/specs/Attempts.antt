-- One attempt at a read, and the answer of a read before `out` is filled.
use Rattle.std.specs.Prelude.{◌≡◌, ◌≢◌, ℕ, ◌≤◌, List, Bool}
use Rattle.solero_cell.specs.declared.answers.CellRead.{CellRead}
use Rattle.solero_cell.specs.declared.answers.CellRead.TheVariants.{Got, NotFree, Changed}
use Rattle.solero_cell.specs.declared.views.Moment.{Moment}
use Rattle.solero_cell.specs.declared.views.Moment.TheVariants.{AtRest}
use Rattle.solero_cell.specs.declared.views.View.{View}
use Rattle.solero_cell.specs.Histories.{IsRecordSeen}
use Rattle.solero_cell.specs.CellViews.{record_of, noted, has_looked, has_read}
use Rattle.solero_cell.specs.Moments.{word_of_moment}
use Rattle.solero_cell.specs.Steps.{HasFoundHeld, attempt_ended}
use Rattle.solero_cell.specs.Calls.{IsGot, IsNotFree, IsChanged}

pub record HasGot (was : View) (c : ℕ) (values : List ℕ) (now : View) : Type 0 where
  pub noted_at : ℕ
  pub place : ℕ
  pub view : now
      ≡ has_read (record_of c values) (has_looked place (AtRest c) (noted noted_at c was))
  pub later : was.latest.count ≤ c
  pub seen : IsRecordSeen was (record_of c values)

pub record HasChanged (is_last : Bool) (was : View) (word found : ℕ) (now : View) : Type 0 where
  pub noted_at : ℕ
  pub count : ℕ
  pub place : ℕ
  pub moment : Moment
  pub view : now ≡ attempt_ended is_last place moment (noted noted_at count was)
  pub word_is : word ≡ word_of_moment (AtRest count)
  pub found_is : found ≡ word_of_moment moment
  pub differ : word ≢ found

abbrev pub IsAttempt : (is_last : Bool) → (was : View) → (values : List ℕ) → CellRead → (now : View)
    → Type 0
IsAttempt is_last was values (Got c) now = HasGot was c values now
IsAttempt is_last was values (NotFree word) now = HasFoundHeld was word now
IsAttempt is_last was values (Changed word found) now = HasChanged is_last was word found now

abbrev pub IsTried : (was : View) → (values : List ℕ) → CellRead → (now : View) → Type 0
IsTried was values (Got c) now = IsGot was c values now
IsTried was values (NotFree word) now = IsNotFree was word now
IsTried was values (Changed word found) now = IsChanged was word found now

-- what follows the note of an attempt
pub record IsBehindGot (was : View) (c : ℕ) (values : List ℕ) (now : View) : Type 0 where
  pub place : ℕ
  pub view : now ≡ has_read (record_of c values) (has_looked place (AtRest c) was)
  pub seen : IsRecordSeen was (record_of c values)

pub record IsBehindChanged (is_last : Bool) (was : View) (c : ℕ) (word found : ℕ) (now : View)
    : Type 0 where
  pub place : ℕ
  pub moment : Moment
  pub view : now ≡ attempt_ended is_last place moment was
  pub word_is : word ≡ word_of_moment (AtRest c)
  pub found_is : found ≡ word_of_moment moment
  pub differ : word ≢ found

abbrev pub IsBehindRead : (is_last : Bool) → (was : View) → (c : ℕ) → (values : List ℕ) → CellRead
    → (now : View) → Type 0
IsBehindRead is_last was c values (Got count) now = (count ≡ c) × IsBehindGot was c values now
IsBehindRead is_last was c values (NotFree word) now = ⊥
IsBehindRead is_last was c values (Changed word found) now =
    IsBehindChanged is_last was c word found now
