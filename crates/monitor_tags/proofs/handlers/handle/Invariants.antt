use Rattle.std.proofs.Common.{◌≡◌, drop, length}
use Rattle.jvm_types.specs.Verifying.{covering}
use Rattle.handler_rows.specs.HandlerRows.{picked}
use Rattle.checked_program.specs.Tagging.{until_all}
use Rattle.monitor_tags.specs.Visiting.{AreLong, does, to_handlers}
use Rattle.monitor_tags.proofs.handlers.handle.Given as goal

abbrev pub invariant-loop-behind : goal.invariant-loop-behind
invariant-loop-behind l = record {
  left : does l.m (to_handlers l.f (until_all (picked l.pc 0 (drop l.k l.m.rows)))) l.nodes ≡ does l.m (to_handlers l.f (until_all (covering l.m l.pc))) l.fn.nodes;
  level : AreLong l.m l.nodes;
}

abbrev pub decreases-loop-behind : goal.decreases-loop-behind
decreases-loop-behind l = length (picked l.pc 0 (drop l.k l.m.rows))
