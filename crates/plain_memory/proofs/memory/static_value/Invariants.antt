use Rattle.std.proofs.Common.{◌≡◌, drop}
use Rattle.machine_types.specs.PlainMemory.{static_value}
use Rattle.plain_memory.proofs.memory.static_value.Given as goal

abbrev pub invariant-loop-s : goal.invariant-loop-s
invariant-loop-s l = static_value (drop l.s-index l.statics) l.place ≡ static_value l.statics l.place
