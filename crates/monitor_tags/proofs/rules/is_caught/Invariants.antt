use Rattle.std.{proofs.Common.{◌≡◌, drop, length}, specs.List.list_any}
use Rattle.jvm_types.specs.Verifying.{covering}
use Rattle.handler_rows.specs.HandlerRows.{picked}
use Rattle.checked_program.specs.Tagging.{catches_all}
use Rattle.monitor_tags.proofs.rules.is_caught.Given as goal

abbrev pub invariant-loop-behind : goal.invariant-loop-behind
invariant-loop-behind l = list_any catches_all (picked l.pc 0 (drop l.k l.m.rows)) ≡ list_any catches_all (covering l.m l.pc)

abbrev pub decreases-loop-behind : goal.decreases-loop-behind
decreases-loop-behind l = length (picked l.pc 0 (drop l.k l.m.rows))
