-- What each answer of a read, of a write and of a join says of the seat.
use Rattle.std.specs.Prelude.{◌≡◌, ◌≢◌, ℕ, ◌+◌, ◌-◌, ◌^◌, ◌<◌, ◌≤◌, List, ◌⊎◌, length}
use Rattle.std.specs.Prelude.{slice_index_or, suc}
use mathlib.Core.Option.{some}
use lib.ListN.{get_elem?}
use Rattle.atomic_table.specs.Seated.{TableId}
use Rattle.solero_cell.specs.declared.answers.CellRead.{CellRead}
use Rattle.solero_cell.specs.declared.answers.CellRead.TheVariants.{Got, NotFree, Changed}
use Rattle.solero_cell.specs.declared.answers.CellWrite.{CellWrite}
use Rattle.solero_cell.specs.declared.answers.CellWrite.TheVariants as wrote
use Rattle.solero_cell.specs.declared.views.Moment.{Moment}
use Rattle.solero_cell.specs.declared.views.Moment.TheVariants.{AtRest, UnderWay}
use Rattle.solero_cell.specs.declared.views.Record.{Record}
use Rattle.solero_cell.specs.declared.views.Share.{Share}
use Rattle.solero_cell.specs.declared.views.View.{View}
use Rattle.solero_cell.specs.Histories.{IsRecordSeen}
use Rattle.solero_cell.specs.CellRules.{HasOneHistory}
use Rattle.solero_cell.specs.CellViews.{record_of, noted, has_looked, has_failed, has_read}
use Rattle.solero_cell.specs.CellViews.{has_written, spent, IsStill}
use Rattle.solero_cell.specs.Moments.{word_of_moment}
use Rattle.solero_cell.specs.Steps.{HasFoundHeld}

-- a seat at a cell: of which table, and what it knows
pub record Seated : Type 0 where
  pub table_id : TableId
  pub view : View

-- the table is that of the seat
abbrev pub IsTableOfSeat : TableId → (opening : Record) → Seated → Type 0
IsTableOfSeat table opening s = (table ≡ s.table_id) × (opening ≡ s.view.opening)

-- what holds of every seat between two calls
pub record IsSeat (s : Seated) : Type 0 where
  pub still : IsStill s.view
  pub share : 0 < s.view.share.parts
  pub words : s.table_id.words ≡ suc (length s.view.opening.values)
  pub slots : s.table_id.slots ≡ 0
  pub few : length s.view.opening.values ≤ 64

-- ---- a read

-- an attempt has found the free word of a count, and another word at its end
pub record IsAttemptOver (was now : View) : Type 0 where
  pub noted_at : ℕ
  pub count : ℕ
  pub place : ℕ
  pub moment : Moment
  pub view : now ≡ has_looked place moment (noted noted_at count was)
  pub differ : word_of_moment (AtRest count) ≢ word_of_moment moment

-- the attempt begins at the view, or behind one that ended without an answer
abbrev pub IsTryBegun : (was now : View) → Type 0
IsTryBegun was now = (now ≡ was) ⊎ IsAttemptOver was now

pub record IsGot (was : View) (c : ℕ) (values : List ℕ) (now : View) : Type 0 where
  pub begun : View
  pub begins : IsTryBegun was begun
  pub noted_at : ℕ
  pub place : ℕ
  pub view : now
      ≡ has_read (record_of c values) (has_looked place (AtRest c) (noted noted_at c begun))
  pub later : was.latest.count ≤ c
  pub seen : IsRecordSeen was (record_of c values)

-- the word that was found is the held one: a write was under way
pub record IsNotFree (was : View) (word : ℕ) (now : View) : Type 0 where
  pub begun : View
  pub begins : IsTryBegun was begun
  pub found : HasFoundHeld begun word now

-- two attempts were over; the words are those that the second one found
pub record IsChanged (was : View) (word found : ℕ) (now : View) : Type 0 where
  pub begun : View
  pub begins : IsAttemptOver was begun
  pub noted_at : ℕ
  pub count : ℕ
  pub place : ℕ
  pub moment : Moment
  pub view : now ≡ has_failed place moment (noted noted_at count begun)
  pub word_is : word ≡ word_of_moment (AtRest count)
  pub found_is : found ≡ word_of_moment moment
  pub differ : word ≢ found

-- `out` has the values after Got, and is unchanged after every other answer
abbrev pub IsCellRead : (was : View) (out : List ℕ) → CellRead → (now : View) (filled : List ℕ)
    → Type 0
IsCellRead was out (Got c) now filled = IsGot was c filled now
IsCellRead was out (NotFree word) now filled = IsNotFree was word now × (filled ≡ out)
IsCellRead was out (Changed word found) now filled = IsChanged was word found now × (filled ≡ out)

-- ---- a write

pub record IsWrote (was : View) (values : List ℕ) (c : ℕ) (now : View) : Type 0 where
  pub before : ℕ
  pub count : c ≡ before + 1
  pub noted_at : ℕ
  pub taken_at : ℕ
  pub place : ℕ
  pub view : now
      ≡ has_written (record_of c values) (has_looked place (AtRest c)
      (has_looked taken_at (UnderWay before) (noted noted_at before was)))
  pub later : was.latest.count < c
  pub seen : IsRecordSeen was (record_of c values)
  pub fits : c < 2 ^ 62

pub record IsLost (was : View) (expected found : ℕ) (now : View) : Type 0 where
  pub noted_at : ℕ
  pub count : ℕ
  pub place : ℕ
  pub moment : Moment
  pub view : now ≡ has_failed place moment (noted noted_at count was)
  pub word_is : expected ≡ word_of_moment (AtRest count)
  pub found_is : found ≡ word_of_moment moment
  pub differ : expected ≢ found
  pub fits : count + 1 < 2 ^ 62

abbrev pub IsCellWritten : (was : View) (values : List ℕ) → CellWrite → (now : View) → Type 0
IsCellWritten was values (wrote.Wrote c) now = IsWrote was values c now
IsCellWritten was values (wrote.NotFree word) now = HasFoundHeld was word now
IsCellWritten was values (wrote.Lost expected found) now = IsLost was expected found now
IsCellWritten was values wrote.Full now = (place : ℕ) × (now ≡ noted place (2 ^ 62 - 1) was)

-- the same seat later
abbrev pub StaysAtTable : Seated → Seated → Type 0
StaysAtTable s t = (t.table_id ≡ s.table_id) × (t.view.opening ≡ s.view.opening)

abbrev pub AreSeatsOf : TableId → (opening : Record) → List Seated → Type 0
AreSeatsOf table opening seats =
    (i : ℕ) (d : Seated) → i < length seats → IsTableOfSeat table opening (slice_index_or seats i d)

-- ---- the end of a cell

-- the share is 1
abbrev pub IsWhole : Share → Type 0
IsWhole s = s.parts ≡ 2 ^ s.depth

-- the seat with this number has taken in all others
abbrev pub IsOnlySeat : (number : ℕ) → List View → Type 0
IsOnlySeat number views = (i : ℕ) (v : View) → i ≢ number → get_elem? views i ≡ some v → v ≡ spent

-- words of the cell, and what its seats knew then, this one among them
pub record IsAtEnd (v : View) : Type 0 where
  pub words : List ℕ
  pub views : List View
  pub number : ℕ
  pub shows : HasOneHistory v.opening words views
  pub here : get_elem? views number ≡ some v
  pub whole : IsWhole v.share → IsOnlySeat number views
