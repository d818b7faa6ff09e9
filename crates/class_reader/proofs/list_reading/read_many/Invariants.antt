use Rattle.std.proofs.Common.{◌≡◌, ◌-◌}
use Rattle.jvm_types.{specs.ReadingSteps.many_at, proofs.LoopLaws.with_front}
use Rattle.class_reader.proofs.list_reading.read_many.Given as goal

abbrev pub invariant-loop : goal.invariant-loop
invariant-loop g l = with_front l.items (many_at (g.S.Step.item_at l.pool) (l.count - l.counter) l.rest) ≡ many_at (g.S.Step.item_at l.pool) l.count l.bytes
