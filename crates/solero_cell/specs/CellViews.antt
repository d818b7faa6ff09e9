-- What the steps of a seat make of its view.
use Rattle.std.specs.Prelude.{◌≡◌, ℕ, ◌+◌, ◌*◌, ◌^◌, List, [], ◌∷◌, ◌++◌, nat_lt}
use Rattle.std.specs.Prelude.{if◌then◌else◌, None, Some}
use Rattle.solero_cell.specs.declared.views.Moment.{Moment}
use Rattle.solero_cell.specs.declared.views.Moment.TheVariants.{AtRest}
use Rattle.solero_cell.specs.declared.views.Record.{Record}
use Rattle.solero_cell.specs.declared.views.Share.{Share}
use Rattle.solero_cell.specs.declared.views.Storing.{Storing}
use Rattle.solero_cell.specs.declared.views.View.{View}
use Rattle.solero_cell.specs.Moments.{word_of_moment}

abbrev pub record_of : (count : ℕ) (values : List ℕ) → Record
record_of c xs = record { count = c; values = xs }

abbrev pub newest : Record → Record → Record
newest r s = if nat_lt r.count s.count then s else r

-- ---- shares

abbrev pub share : (parts depth : ℕ) → Share
share n d = record { parts = n; depth = d }

-- half of it
abbrev pub half : Share → Share
half s = share s.parts (s.depth + 1)

abbrev pub sum_of : Share → Share → Share
sum_of s t = share (s.parts * 2 ^ t.depth + t.parts * 2 ^ s.depth) (s.depth + t.depth)

-- ---- the views of a new cell's seat, and of a seat that was joined to another

abbrev pub new_view : (opening latest : Record) → Share → View
new_view opening r s = record {
  opening = opening;
  writes = [];
  latest = r;
  note = None;
  notes = 0;
  reads = 0;
  failed = 0;
  found = None;
  looks = [];
  share = s;
  loaded = [];
  storing = None;
  joining = None;
}

abbrev pub first_view : (opening : Record) → View
first_view opening = new_view opening opening (share 1 0)

abbrev pub spent : View
spent = new_view (record_of 0 []) (record_of 0 []) (share 0 0)

-- between two calls it is in the middle of nothing
pub record IsStill (v : View) : Type 0 where
  pub loaded : v.loaded ≡ []
  pub storing : v.storing ≡ None
  pub joining : v.joining ≡ None

-- ---- the steps

-- a step on the lock word, which is so behind it
abbrev pub has_looked : (place : ℕ) → Moment → View → View
has_looked n m v = record v { looks = v.looks ++ record { place = n; moment = m } ∷ [] }

-- a note load found count c
abbrev pub noted : (place c : ℕ) → View → View
noted n c v = record (has_looked n (AtRest c) v) { note = Some c; notes = v.notes + 1 }

-- a try failed, and found the word of this moment
abbrev pub has_failed : (place : ℕ) → Moment → View → View
has_failed n m v =
    record (has_looked n m v) { failed = v.failed + 1; found = Some (word_of_moment m) }

abbrev pub has_loaded : (value : ℕ) → View → View
has_loaded x v = record v { loaded = v.loaded ++ x ∷ [] }

-- the values that an attempt has loaded are let go
abbrev pub forgot : View → View
forgot v = record v { loaded = [] }

abbrev pub has_read : Record → View → View
has_read r v = record v { latest = r; reads = v.reads + 1 }

abbrev pub has_taken : (values : List ℕ) → View → View
has_taken xs v = record v { storing = Some (record { stored = []; left = xs }) }

abbrev pub one_stored : Storing → Storing
one_stored s = one s.stored s.left
  where
    one : List ℕ → List ℕ → Storing
    one stored [] = record { stored = stored; left = [] }
    one stored (x ∷ left) = record { stored = stored ++ x ∷ []; left = left }

abbrev pub has_stored : Storing → View → View
has_stored s v = record v { storing = Some (one_stored s) }

abbrev pub has_written : Record → View → View
has_written r v = record v { writes = v.writes ++ r ∷ []; latest = r }

abbrev pub has_released : View → View
has_released v = record v { storing = None }

-- ---- split and join

abbrev pub halved : View → View
halved v = record v { share = half v.share }

abbrev pub newcomer : View → View
newcomer v = new_view v.opening v.latest (half v.share)

-- the other's numbers and writes are taken in, and its latest record is still to be compared
abbrev pub taken_in : View → View → View
taken_in v w = record v {
  writes = v.writes ++ w.writes;
  notes = v.notes + w.notes;
  reads = v.reads + w.reads;
  failed = v.failed + w.failed;
  looks = v.looks ++ w.looks;
  share = sum_of v.share w.share;
  joining = Some w.latest;
}

abbrev pub has_compared : Record → View → View
has_compared r v = record v { latest = newest v.latest r; joining = None }

abbrev pub joined_views : View → View → View
joined_views v w = has_compared w.latest (taken_in v w)
