use Rattle.std.proofs.Common.{◌≡◌, drop, length}
use Rattle.jvm_types.specs.Verifying.{covering}
use Rattle.handler_rows.specs.HandlerRows.{picked}
use Rattle.checked_program.specs.Tagging.{until_all}
use Rattle.guard_analysis.specs.ColourVisits.{AreColourNodes, colours_done, colours_at_handlers}
use Rattle.guard_analysis.proofs.colouring.handle.Given as goal

abbrev pub invariant-loop-behind : goal.invariant-loop-behind
invariant-loop-behind l = record {
  left : colours_done l.m (colours_at_handlers l.at_handler (until_all (picked l.pc 0 (drop l.k l.m.rows)))) l.nodes ≡ colours_done l.m (colours_at_handlers l.at_handler (until_all (covering l.m l.pc))) l.fn.nodes;
  level : AreColourNodes l.m l.nodes;
}

abbrev pub decreases-loop-behind : goal.decreases-loop-behind
decreases-loop-behind l = length (picked l.pc 0 (drop l.k l.m.rows))
