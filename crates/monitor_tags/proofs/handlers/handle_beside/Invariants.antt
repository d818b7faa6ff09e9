use Rattle.std.proofs.Common.{drop}
use Rattle.jvm_types.specs.Verifying.{covering}
use Rattle.checked_program.specs.Tagging.{until_all}
use Rattle.monitor_tags.{specs.Visiting.{does, to_handlers}, proofs.RowsRest.IsTurn}
use Rattle.monitor_tags.proofs.handlers.handle_beside.Given as goal

abbrev pub invariant-loop-row : goal.invariant-loop-row
invariant-loop-row l = IsTurn l.m l.pc l.at l.f l.rests l.nodes (drop l.row-index l.rows) (does l.m (to_handlers l.f (until_all (covering l.m l.pc))) l.fn.nodes)
