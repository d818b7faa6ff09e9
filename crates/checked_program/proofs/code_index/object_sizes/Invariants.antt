use Rattle.std.proofs.Common.{◌≡◌, length}
use Rattle.checked_program.specs.CodeIndex.{AreSizes}
use Rattle.checked_program.proofs.code_index.object_sizes.Given as goal

abbrev pub invariant-loop-class : goal.invariant-loop-class
invariant-loop-class l = record {
  so_far : length l.sizes.items ≡ l.class;
  words : AreSizes l.fields l.sizes.items;
}
