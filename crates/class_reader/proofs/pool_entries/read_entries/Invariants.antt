use Rattle.std.proofs.Common.{◌≡◌, ◌-◌, true}
use Rattle.jvm_types.{specs.ReadingPool.entries_at, proofs.LoopLaws.with_front}
use Rattle.class_reader.proofs.pool_entries.read_entries.Given as goal

abbrev pub invariant-loop : goal.invariant-loop
invariant-loop l = with_front l.constants (entries_at (l.count - l.counter) l.is_gap_due l.rest) ≡ entries_at l.count true l.bytes
