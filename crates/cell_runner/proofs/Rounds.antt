-- What one worker came to.
use Rattle.std.proofs.Common.{◌≡◌, ℕ, ◌-◌, ◌*◌, ◌≤◌, arith}
use Rattle.cell_runner.specs.{HandsOfCell.{HasEnded, HasNotEnded, AreRoundsOver}, declared.hands.Hand.Hand}

none_left : (s rounds n : ℕ) → s ≡ 1 → (1 - s) * rounds ≤ n
none_left s rounds n e = rw e (omega arith)

pub ended_over : (rounds w r : ℕ) (h : Hand) → w ≤ rounds → r ≤ rounds → HasEnded w r h → AreRoundsOver 1 rounds h
ended_over rounds w r h few few' e = record {
  stopped = e.once;
  writes = omega (arith, e.writes_below, few);
  reads = omega (arith, e.reads_below, few');
  all_writes = λ not_full. none_left h.tally.stopped rounds h.tally.writes (e.stopped not_full);
  all_reads = λ not_full. none_left h.tally.stopped rounds h.tally.reads (e.stopped not_full);
}

all_left : (s rounds n : ℕ) → s ≡ 0 → n ≡ rounds → (1 - s) * rounds ≤ n
all_left s rounds n e f = rw (e, f) (omega arith)

pub made_over : (rounds : ℕ) (h : Hand) → HasNotEnded h → h.tally.writes ≡ rounds → h.tally.reads ≡ rounds → AreRoundsOver 1 rounds h
made_over rounds h going w r = record {
  stopped = omega (arith, going.0);
  writes = omega (arith, w);
  reads = omega (arith, r);
  all_writes = λ not_full. all_left h.tally.stopped rounds h.tally.writes going.0 w;
  all_reads = λ not_full. all_left h.tally.stopped rounds h.tally.reads going.0 r;
}
