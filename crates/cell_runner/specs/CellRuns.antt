-- What a run of a cell comes to.
use Rattle.std.specs.Prelude.{◌≡◌, ℕ, ◌-◌, ◌*◌, ◌≤◌, List, length, replicate}
use Rattle.std.specs.List.{sum_by}
use mathlib.Core.Option.{some}
use lib.ListN.{get_elem?}
use Rattle.solero_cell.specs.declared.views.Record.{Record}
use Rattle.solero_cell.specs.declared.views.View.{View}
use Rattle.solero_cell.specs.Calls.{IsOnlySeat}
use Rattle.solero_cell.specs.CellRules.{HasOneHistory, times, one_if, is_in_span}
use Rattle.solero_cell.specs.CellViews.{record_of}
use Rattle.cell_runner.specs.declared.report.CellReport.{CellReport}

-- 64 words 0, under the count 0
abbrev pub all_zero : Record
all_zero = record_of 0 (replicate 64 0)

-- each worker that did not stop has made its rounds, and none has made more
abbrev pub AreRoundsMade : (workers stopped rounds made : ℕ) → Type 0
AreRoundsMade workers stopped rounds made =
    ((workers - stopped) * rounds ≤ made) × (made ≤ workers * rounds)

-- the numbers are those of the seat that ended its cell
pub record IsOfSeat (turns : ℕ) (r : CellReport) : Type 0 where
  pub opening_is : r.end.opening ≡ all_zero
  pub writes_is : r.writes ≡ length r.end.writes
  pub reads_is : r.reads ≡ r.end.reads
  pub failed_most : r.stopped * turns ≤ r.end.failed

-- the report of a run: at its end the cell has these words, and its seats know this, by the rule of
-- the cell; of all seats one is left, which has ended it
pub record IsCellRun (workers rounds turns : ℕ) (r : CellReport) : Type 0 where
  pub of : IsOfSeat turns r
  pub words : List ℕ
  pub views : List View
  pub number : ℕ
  pub shows : HasOneHistory all_zero words views
  pub here : get_elem? views number ≡ some r.end
  pub alone : IsOnlySeat number views
  -- the seats' own writes have the counts 1 to `writes`, each once
  pub once : (n : ℕ) → sum_by (times n) views ≡ one_if (is_in_span n 0 r.writes)
  -- the reads of all seats that were Got
  pub got : r.reads ≡ sum_by (λ v. v.reads) views
  -- the tries of all seats that failed are as many as each worker that stopped may fail in a row,
  -- at least
  pub failed : r.stopped * turns ≤ sum_by (λ v. v.failed) views
  pub stopped : r.stopped ≤ workers
  pub written : AreRoundsMade workers r.stopped rounds r.writes
  pub read : AreRoundsMade workers r.stopped rounds r.reads
