use Rattle.std.proofs.Common.{◌≡◌, drop}
use Rattle.jvm_types.specs.ClassTree.{first_above}
use Rattle.code_table.proofs.class_tree.first_above.Given as goal

abbrev pub invariant-loop-class : goal.invariant-loop-class
invariant-loop-class l = first_above l.other (drop l.class-index l.classes) ≡ first_above l.other l.classes
