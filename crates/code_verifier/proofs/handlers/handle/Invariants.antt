use Rattle.std.proofs.Common.{◌≡◌, drop, length}
use Rattle.jvm_types.specs.Verifying.{covering}
use Rattle.handler_rows.specs.HandlerRows.{picked}
use Rattle.code_visits.specs.TypePlan.{handled_acts}
use Rattle.code_verifier.specs.Visiting.{HaveLocals, type_acts_done}
use Rattle.code_verifier.proofs.handlers.handle.Given as goal

abbrev pub invariant-loop-behind : goal.invariant-loop-behind
invariant-loop-behind l = record {
  left : type_acts_done l.m (handled_acts l.m l.pc l.f (picked l.pc l.from (drop l.k l.m.rows))) l.nodes ≡ type_acts_done l.m (handled_acts l.m l.pc l.f (covering l.m l.pc)) l.fn.nodes;
  level : HaveLocals l.m l.nodes;
}

abbrev pub decreases-loop-behind : goal.decreases-loop-behind
decreases-loop-behind l = length (picked l.pc l.from (drop l.k l.m.rows))
