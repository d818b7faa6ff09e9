use Rattle.code_table.proofs.LaidOut.{ascend}
use Rattle.code_table.proofs.indexed_method.IndexedMethod.of.Goals as goal

pub of-requires : goal.of-requires
of-requires c = rw c.as_slice.ensures (ascend c.args.method.now c.requires)

pub invariant_of-result : goal.invariant_of-result
invariant_of-result c = record {
  laid = c.requires;
  ascend = ascend c.args.method.now c.requires;
  table = rw (← c.as_slice.ensures) c.in_ok-table.ensures;
}
