-- The one history of a cell: the values of its opening, and those of each write, in the order of
-- their counts.
use Rattle.std.specs.Prelude.{◌≡◌, ℕ, ◌+◌, List, [], ◌∷◌, length, slice_get, Some}
use Rattle.solero_cell.specs.declared.views.Record.{Record}
use Rattle.solero_cell.specs.declared.views.View.{View}

-- the values of each write
abbrev pub History : Type 0
History = List (List ℕ)

-- the count of a cell with this history
abbrev pub last_count : (opening : Record) → History → ℕ
last_count opening h = opening.count + length h

-- the record is the opening one, or the write of its count
pub record RecordStands (opening : Record) (h : History) (r : Record) : Type 0 where
  pub place : ℕ
  pub count : r.count ≡ opening.count + place
  pub values : slice_get (opening.values ∷ h) place ≡ Some r.values

abbrev pub AllStand : (opening : Record) → History → List Record → Type 0
AllStand opening h [] = Unit {0}
AllStand opening h (r ∷ rs) = RecordStands opening h r × AllStand opening h rs

pub record IsLast (opening : Record) (h : History) (r : Record) : Type 0 where
  pub count : r.count ≡ last_count opening h
  pub values : slice_get (opening.values ∷ h) (length h) ≡ Some r.values

-- the writes and the latest record of a seat
pub record OwnStand (opening : Record) (h : History) (v : View) : Type 0 where
  pub writes : AllStand opening h v.writes
  pub latest : RecordStands opening h v.latest

-- some history of its cell has the seat's records, and ends with this one
pub record IsRecordSeen (v : View) (r : Record) : Type 0 where
  pub history : History
  pub own : OwnStand v.opening history v
  pub last : IsLast v.opening history r

-- the records of two seats stand in one history of their cell
pub record AreOfOne (v w : View) : Type 0 where
  pub history : History
  pub mine : OwnStand v.opening history v
  pub other : OwnStand v.opening history w
