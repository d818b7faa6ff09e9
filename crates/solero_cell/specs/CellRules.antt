-- The rule of a cell's table: what its words and the views of its seats are to one another, between
-- any two steps.
use Rattle.std.specs.Prelude.{◌≡◌, ℕ, suc, ◌+◌, ◌*◌, ◌^◌, ◌-◌, ◌<◌, ◌≤◌, List, length, take, drop}
use Rattle.std.specs.Prelude.{Bool, ◌&&◌, ◌==◌, nat_lt, nat_le, if◌then◌else◌, slice_index, Option}
use Rattle.std.specs.Prelude.{Some, IfSome, is_some, ◌⊎◌}
use Rattle.std.specs.List.{sum_by}
use mathlib.Core.Option.{some}
use lib.ListN.{get_elem?}
use Rattle.machine_types.specs.LockWords.{word_of_lock}
use Rattle.machine_types.specs.declared.lock.LockWord.TheVariants.{Free, Held}
use Rattle.solero_cell.specs.declared.views.Moment.{Moment}
use Rattle.solero_cell.specs.declared.views.Moment.TheVariants.{AtRest}
use Rattle.solero_cell.specs.declared.views.Record.{Record}
use Rattle.solero_cell.specs.declared.views.Share.{Share}
use Rattle.solero_cell.specs.declared.views.Storing.{Storing}
use Rattle.solero_cell.specs.declared.views.View.{View}
use Rattle.solero_cell.specs.Histories.{History, last_count, RecordStands, IsLast, OwnStand}
use Rattle.solero_cell.specs.Moments.{AllFound, IsRowOfMoments, moment_now, time_of}
use Rattle.solero_cell.specs.CellViews.{record_of, spent}

-- the words of the values
abbrev pub cell_values : (words : List ℕ) → List ℕ
cell_values words = drop 1 words

-- ---- what holds of each view

-- a write under way has noted the cell's count, and its values stand where those of the next count
-- belong as far as it has stored them
pub record IsUnderWay (opening : Record) (h : History) (place : (count : ℕ) → List ℕ)
    (note : Option ℕ) (s : Storing) : Type 0 where
  pub note_is : note ≡ Some (last_count opening h)
  pub stored : s.stored ≡ take (length s.stored) (place (last_count opening h + 1))
  pub long : length s.stored + length s.left ≡ length opening.values

-- of which counts a read may still go on, and where the values of a count stand
pub record SeatKnowledge (opening : Record) (h : History) (IsLeft : (count : ℕ) → Type 0)
    (place : (count : ℕ) → List ℕ) (v : View) : Type 0 where
  pub opening_is : v.opening ≡ opening
  pub own : OwnStand opening h v
  pub note : IfSome v.note (λ c. c ≤ last_count opening h)
  -- while the noted count is left, the values that were loaded are a beginning of its values
  pub loaded : (c : ℕ) → v.note ≡ Some c → IsLeft c → v.loaded ≡ take (length v.loaded) (place c)
  pub storing : IfSome v.storing (IsUnderWay opening h place v.note)
  pub joining : IfSome v.joining (RecordStands opening h)

-- the word of the lock is the free one of the count, and all values stand in one place
abbrev pub ViewKnowledge : (opening : Record) → History → (words : List ℕ) → View → Type 0
ViewKnowledge opening h words v =
    SeatKnowledge opening h (λ c. slice_index words 0 ≡ word_of_lock (Free c))
    (λ c. cell_values words) v

-- a view without a share is spent
abbrev pub SeatFits : (Knows : View → Type 0) → View → Type 0
SeatFits Knows v = (v ≡ spent) ⊎ ((0 < v.share.parts) × Knows v)

-- ---- what holds of all views

abbrev pub one_if : Bool → ℕ
one_if b = if b then 1 else 0

-- how often a count stands among the writes of a seat
abbrev pub times : (count : ℕ) → View → ℕ
times n v = sum_by (λ r. one_if (r.count == n)) v.writes

-- how many writes are under way
abbrev pub storing_count : View → ℕ
storing_count v = one_if (is_some v.storing)

abbrev pub written_count : View → ℕ
written_count v = length v.writes

-- above the first, and up to the last
abbrev pub is_in_span : (n first last : ℕ) → Bool
is_in_span n first last = nat_lt first n && nat_le n last

-- a share in parts of 2^depth, where it has no smaller ones
abbrev pub in_parts : (depth : ℕ) → Share → ℕ
in_parts depth s = s.parts * 2 ^ (depth - s.depth)

abbrev pub HaveDepth : (depth : ℕ) → List View → Type 0
HaveDepth depth views = (i : ℕ) (v : View) → get_elem? views i ≡ some v → v.share.depth ≤ depth

-- the shares add up to 1
abbrev pub AreWhole : List View → Type 0
AreWhole views =
    (depth : ℕ) → HaveDepth depth views → sum_by (λ v. in_parts depth v.share) views ≡ 2 ^ depth

-- the word is free with the cell's count, and the words are the values of that count
pub record IsAtRest (opening : Record) (h : History) (words : List ℕ) (views : List View)
    : Type 0 where
  pub word : slice_index words 0 ≡ word_of_lock (Free (last_count opening h))
  pub values : IsLast opening h (record_of (last_count opening h) (cell_values words))
  pub nobody : sum_by storing_count views ≡ 0

-- the word is held, and one view is in the middle of a write
pub record IsHeldByWrite (words : List ℕ) (views : List View) : Type 0 where
  pub word : slice_index words 0 ≡ word_of_lock (Held 0)
  pub one : sum_by storing_count views ≡ 1

-- how often a seat has looked at a place
abbrev pub looks_at : (place : ℕ) → View → ℕ
looks_at n v = sum_by (λ l. one_if (l.place == n)) v.looks

-- the looks of all seats are one row of moments in the order of these times, which ends with what
-- is now
pub record HaveLooked (time : Moment → ℕ) (from now : Moment) (views : List View) : Type 0 where
  pub moments : List Moment
  pub way : IsRowOfMoments time from moments now
  -- each seat tells what it found, and each place of the row is that of one look
  pub found : (i : ℕ) (v : View) → get_elem? views i ≡ some v → AllFound moments v.looks
  pub once : (n : ℕ) → sum_by (looks_at n) views ≡ one_if (nat_lt n (length moments))

-- each seat knows this, or is spent; the counts of all writes are those above the opening one, up
-- to the cell's, each once; the shares are a whole, and the looks one row
pub record ShareHistory (opening : Record) (h : History) (Knows : View → Type 0)
    (time : Moment → ℕ) (now : Moment) (views : List View) : Type 0 where
  pub each : (i : ℕ) (v : View) → get_elem? views i ≡ some v → SeatFits Knows v
  pub once : (n : ℕ)
      → sum_by (times n) views ≡ one_if (is_in_span n opening.count (last_count opening h))
  pub count : sum_by written_count views ≡ length h
  pub whole : AreWhole views
  pub looks : HaveLooked time (AtRest opening.count) now views

-- ---- the rule

pub record HasOneHistory (opening : Record) (words : List ℕ) (views : List View) : Type 0 where
  pub history : History
  pub long : length words ≡ suc (length opening.values)
  pub lock : IsAtRest opening history words views ⊎ IsHeldByWrite words views
  pub seats : ShareHistory opening history (ViewKnowledge opening history words) time_of
      (moment_now opening history (slice_index words 0)) views
