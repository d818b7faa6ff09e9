use Rattle.std.proofs.Common.{◌≡◌, drop}
use Rattle.machine_types.specs.PlainMemory.{object_value}
use Rattle.plain_memory.proofs.finding.value_in_turn.Given as goal

abbrev pub invariant-loop-o : goal.invariant-loop-o
invariant-loop-o l = object_value (drop l.o-index l.objects) l.place ≡ object_value l.objects l.place
