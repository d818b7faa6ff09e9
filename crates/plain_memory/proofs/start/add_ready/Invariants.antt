use Rattle.std.proofs.Common.{◌≡◌, ◌++◌, drop, map}
use Rattle.machine_types.specs.ReadyObjects.{thrown_by_machine}
use Rattle.plain_memory.proofs.StartLaws.{ready_object}
use Rattle.plain_memory.proofs.start.add_ready.Given as goal

abbrev pub invariant-loop-thrown : goal.invariant-loop-thrown
invariant-loop-thrown l = l.objects.items ++ map ready_object (drop l.thrown-index l.thrown-items) ≡ l.fn.objects.items ++ map ready_object thrown_by_machine
