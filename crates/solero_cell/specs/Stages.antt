-- How far a seat's call is.
use Rattle.std.specs.Prelude.{◌≡◌, ℕ, ◌<◌, ◌≤◌, suc, [], length, None, IsSome}
use Rattle.atomic_table.specs.Seated.{TableId}
use Rattle.solero_cell.specs.declared.views.Record.{Record}
use Rattle.solero_cell.specs.declared.views.View.{View}
use Rattle.solero_cell.specs.CellViews.{IsStill}
use Rattle.solero_cell.specs.Steps.{noted_word, storing_of}

-- the view is that of a seat at the table, which has the words of a cell
pub record IsSeatAt (table : TableId) (opening : Record) (seat : TableId) (v : View) : Type 0 where
  pub of : seat ≡ table
  pub opening_is : v.opening ≡ opening
  pub share : 0 < v.share.parts
  pub words : table.words ≡ suc (length opening.values)
  pub few : length opening.values ≤ 64

-- an attempt at a read has loaded so many values since its note
pub record IsLoading (count : ℕ) (v : View) : Type 0 where
  pub noted : IsSome v.note
  pub loaded : length v.loaded ≡ count
  pub storing : v.storing ≡ None
  pub joining : v.joining ≡ None

-- a write has noted a count, whose free word this is
pub record IsNoted (word : ℕ) (v : View) : Type 0 where
  pub noted : IsSome v.note
  pub word_is : word ≡ noted_word v
  pub still : IsStill v

-- a write has stored so many values
pub record IsStoring (count : ℕ) (v : View) : Type 0 where
  pub noted : IsSome v.note
  pub storing : IsSome v.storing
  pub stored : length (storing_of v).stored ≡ count
  pub loaded : v.loaded ≡ []
  pub joining : v.joining ≡ None

-- a seat has taken in another, and their latest records are still to be compared
pub record IsJoining (v : View) : Type 0 where
  pub joining : IsSome v.joining
  pub loaded : v.loaded ≡ []
  pub storing : v.storing ≡ None
