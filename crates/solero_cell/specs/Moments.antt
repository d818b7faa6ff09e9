-- The moments of a cell: what its lock word is, one after another.
use Rattle.std.specs.Prelude.{◌≡◌, ℕ, ◌+◌, ◌*◌, ◌≤◌, ◌==◌, List, [], ◌∷◌, if◌then◌else◌}
use Rattle.std.specs.Prelude.{slice_get, Some}
use Rattle.machine_types.specs.LockWords.{word_of_lock}
use Rattle.machine_types.specs.declared.lock.LockWord.TheVariants.{Free, Held}
use Rattle.solero_cell.specs.declared.views.Look.{Look}
use Rattle.solero_cell.specs.declared.views.Moment.{Moment}
use Rattle.solero_cell.specs.declared.views.Moment.TheVariants.{AtRest, UnderWay}
use Rattle.solero_cell.specs.declared.views.Record.{Record}
use Rattle.solero_cell.specs.Histories.{History, last_count}

-- the lock word at a moment
abbrev pub word_of_moment : Moment → ℕ
word_of_moment (AtRest c) = word_of_lock (Free c)
word_of_moment (UnderWay c) = word_of_lock (Held 0)

-- moments in their order: at rest with a count, the next write under way, at rest with its count
abbrev pub time_of : Moment → ℕ
time_of (AtRest c) = 2 * c
time_of (UnderWay c) = 2 * c + 1

-- the moment of a cell with this history and this lock word
abbrev pub moment_now : (opening : Record) → History → (word : ℕ) → Moment
moment_now opening h word =
    if word == word_of_lock (Held 0) then UnderWay (last_count opening h)
    else AtRest (last_count opening h)

-- moments from one to another, none of them at a time before the one that it follows
abbrev pub IsRowOfMoments : (time : Moment → ℕ) → (from : Moment) → List Moment → (to : Moment)
    → Type 0
IsRowOfMoments time from [] to = from ≡ to
IsRowOfMoments time from (m ∷ ms) to = (time from ≤ time m) × IsRowOfMoments time m ms to

-- each look has found the moment at its place
abbrev pub AllFound : (moments : List Moment) → List Look → Type 0
AllFound moments [] = Unit {0}
AllFound moments (l ∷ ls) = (slice_get moments l.place ≡ Some l.moment) × AllFound moments ls
