-- The rule of a latch cell's table: what its words and the views of its seats are to one another,
-- between any two steps.
use Rattle.std.specs.Prelude.{◌≡◌, ℕ, List, length, slice_index, ◌⊎◌}
use Rattle.std.specs.List.{sum_by}
use Rattle.machine_types.specs.LockWords.{word_of_lock}
use Rattle.machine_types.specs.declared.lock.LockWord.TheVariants.{Free}
use Rattle.solero_cell.specs.declared.views.Moment.{Moment}
use Rattle.solero_cell.specs.declared.views.Moment.TheVariants.{AtRest, UnderWay}
use Rattle.solero_cell.specs.declared.views.Record.{Record}
use Rattle.solero_cell.specs.declared.views.View.{View}
use Rattle.solero_cell.specs.Histories.{History, last_count, IsLast}
use Rattle.solero_cell.specs.Moments.{moment_now}
use Rattle.solero_cell.specs.CellViews.{record_of}
use Rattle.solero_cell.specs.CellRules.{SeatKnowledge, ShareHistory, IsHeldByWrite, storing_count}
use Rattle.latch_cell.specs.Copies.{latch_count, latch_words, copy_of}

-- the count of a moment, by which moments come in order
abbrev pub count_of : Moment → ℕ
count_of (AtRest c) = c
count_of (UnderWay c) = c

-- while the count is the noted one, what a read has loaded is a beginning of that count's copy; a
-- write stores into the copy of the next count
abbrev pub LatchKnowledge : (opening : Record) → History → (words : List ℕ) → View → Type 0
LatchKnowledge opening h words v =
    SeatKnowledge opening h (λ c. latch_count words ≡ c) (copy_of (length opening.values) words) v

-- the lock word is the free one of the count, and no write is under way
pub record IsLetGo (opening : Record) (h : History) (words : List ℕ) (views : List View)
    : Type 0 where
  pub word : slice_index words 0 ≡ word_of_lock (Free (last_count opening h))
  pub nobody : sum_by storing_count views ≡ 0

-- The count is that of the last write, whose values stand in its copy, whether a write is under way
-- or not.
pub record HasTwoCopies (opening : Record) (words : List ℕ) (views : List View) : Type 0 where
  pub history : History
  pub long : length words ≡ latch_words (length opening.values)
  pub count : latch_count words ≡ last_count opening history
  pub values : IsLast opening history
      (record_of (last_count opening history)
      (copy_of (length opening.values) words (last_count opening history)))
  pub lock : IsLetGo opening history words views ⊎ IsHeldByWrite words views
  pub seats : ShareHistory opening history (LatchKnowledge opening history words) count_of
      (moment_now opening history (slice_index words 0)) views
