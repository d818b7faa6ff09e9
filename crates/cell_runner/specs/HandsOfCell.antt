-- A worker's seat beside what the worker came to, and hands that have taken in those of several
-- workers.
use Rattle.std.specs.Prelude.{◌≡◌, ℕ, ◌+◌, ◌-◌, ◌*◌, ◌^◌, ◌<◌, ◌≤◌, true, false, ◌||◌, List, length}
use Rattle.std.specs.Prelude.{Some, slice_index_or}
use Rattle.atomic_table.specs.Seated.{TableId}
use Rattle.solero_cell.specs.declared.views.Record.{Record}
use Rattle.solero_cell.specs.Calls.{Seated, IsTableOfSeat}
use Rattle.solero_cell.specs.CellViews.{new_view, share, sum_of}
use Rattle.cell_runner.specs.declared.tally.Tally.{Tally}
use Rattle.cell_runner.specs.declared.hands.Hand.{Hand}
use Rattle.cell_runner.specs.declared.hands.Task.{Task}
use Rattle.cell_runner.specs.declared.hands.Task.TheVariants.{Write, Read}
use Rattle.cell_runner.specs.declared.hands.Tried.{Tried}
use Rattle.cell_runner.specs.declared.hands.Tried.TheVariants.{Done, Failed, Full}

-- ---- one worker

-- the counts are those that the seat knows; a seat that found the cell full has noted its last
-- count
pub record IsCountedHand (h : Hand) : Type 0 where
  pub writes : h.tally.writes ≡ length h.seat.view.writes
  pub reads : h.tally.reads ≡ h.seat.view.reads
  pub full : h.is_full ≡ true → h.seat.view.note ≡ Some (2 ^ 62 - 1)

-- each worker that stopped has failed that often
abbrev pub HasStopped : (turns : ℕ) → Hand → Type 0
HasStopped turns h = h.tally.stopped * turns ≤ h.seat.view.failed

-- the worker has not ended
abbrev pub HasNotEnded : Hand → Type 0
HasNotEnded h = (h.tally.stopped ≡ 0) × (h.is_full ≡ false)

-- the same seat later
pub record IsSameSeat (s t : Seated) : Type 0 where
  pub table : t.table_id ≡ s.table_id
  pub opening : t.view.opening ≡ s.view.opening
  pub share : t.view.share ≡ s.view.share

-- the numbers with one task more
abbrev pub task_made : Task → Tally → Tally
task_made Write r = record r { writes = r.writes + 1 }
task_made Read r = record r { reads = r.reads + 1 }

-- a try: the task is done, or nothing is
abbrev pub IsTaskTried : Task → (was : Hand) → Tried → (now : Hand) → Type 0
IsTaskTried task was Done now = (now.tally ≡ task_made task was.tally) × (now.is_full ≡ false)
IsTaskTried task was Failed now =
    (now.tally ≡ was.tally) × (now.is_full ≡ false)
    × (now.seat.view.failed ≡ was.seat.view.failed + 1)
IsTaskTried task was Full now = (now.tally ≡ was.tally) × (now.is_full ≡ true)

-- the worker has ended, with no more writes and reads than these
pub record HasEnded (writes reads : ℕ) (h : Hand) : Type 0 where
  pub writes_below : h.tally.writes ≤ writes
  pub reads_below : h.tally.reads ≤ reads
  pub once : h.tally.stopped ≤ 1
  pub stopped : h.is_full ≡ false → h.tally.stopped ≡ 1

-- what so many workers came to: none has made more than its rounds, and each that neither stopped
-- nor found the cell full has made them
pub record AreRoundsOver (workers rounds : ℕ) (h : Hand) : Type 0 where
  pub stopped : h.tally.stopped ≤ workers
  pub writes : h.tally.writes ≤ workers * rounds
  pub reads : h.tally.reads ≤ workers * rounds
  pub all_writes : h.is_full ≡ false → (workers - h.tally.stopped) * rounds ≤ h.tally.writes
  pub all_reads : h.is_full ≡ false → (workers - h.tally.stopped) * rounds ≤ h.tally.reads

-- ---- all workers

-- a seat of a new cell, behind so many cuts
pub record IsFreshSeat (table : TableId) (opening : Record) (cuts : ℕ) (s : Seated) : Type 0 where
  pub of : IsTableOfSeat table opening s
  pub view : s.view ≡ new_view opening opening (share 1 cuts)

-- the hand of a worker that has done nothing yet
pub record IsReady (table : TableId) (opening : Record) (cuts : ℕ) (h : Hand) : Type 0 where
  pub fresh : IsFreshSeat table opening cuts h.seat
  pub tally : h.tally ≡ record { writes = 0; reads = 0; stopped = 0 }
  pub full : h.is_full ≡ false

-- those of worker 1, of worker 2 and so on
abbrev pub AreReady : TableId → (opening : Record) → List Hand → Type 0
AreReady table opening hands =
    (i : ℕ) (d : Hand) → i < length hands → IsReady table opening (i + 1) (slice_index_or hands i d)

-- hands at the cell that have taken in those of so many workers, which have ended
pub record HasGathered (table : TableId) (opening : Record) (workers rounds turns : ℕ) (h : Hand)
    : Type 0 where
  pub of : IsTableOfSeat table opening h.seat
  pub counted : IsCountedHand h
  pub stopped : HasStopped turns h
  pub over : AreRoundsOver workers rounds h

-- the hand of a worker that has ended
pub record HasWorked (table : TableId) (opening : Record) (cuts rounds turns : ℕ) (h : Hand)
    : Type 0 where
  pub gathered : HasGathered table opening 1 rounds turns h
  pub share : h.seat.view.share ≡ share 1 cuts

abbrev pub HaveWorked : TableId → (opening : Record) → (rounds turns : ℕ) → List Hand → Type 0
HaveWorked table opening rounds turns hands =
    (i : ℕ) (d : Hand) → i < length hands
    → HasWorked table opening (i + 1) rounds turns (slice_index_or hands i d)

-- no more than eight workers with a thousand rounds each
abbrev pub HasFew : Tally → Type 0
HasFew r = (r.writes ≤ 8000) × (r.reads ≤ 8000) × (r.stopped ≤ 8)

-- the numbers of both
abbrev pub tallies_added : Tally → Tally → Tally
tallies_added r s =
    record
    { writes = r.writes + s.writes; reads = r.reads + s.reads; stopped = r.stopped + s.stopped }

-- two hands in one: what both came to, and what both seats knew
pub record HasJoined (h k both : Hand) : Type 0 where
  pub table : both.seat.table_id ≡ h.seat.table_id
  pub opening : both.seat.view.opening ≡ h.seat.view.opening
  pub tally : both.tally ≡ tallies_added h.tally k.tally
  pub full : both.is_full ≡ (h.is_full || k.is_full)
  pub counted : IsCountedHand both
  pub failed : both.seat.view.failed ≡ h.seat.view.failed + k.seat.view.failed
  pub share : both.seat.view.share ≡ sum_of h.seat.view.share k.seat.view.share

-- the share is what so many cuts have left of the whole
abbrev pub IsShareLeft : (cuts : ℕ) → Hand → Type 0
IsShareLeft cuts h = h.seat.view.share.parts * 2 ^ cuts ≡ 2 ^ h.seat.view.share.depth
