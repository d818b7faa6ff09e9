use Rattle.std.proofs.Common.{◌≡◌, take}
use Rattle.jvm_types.specs.ClassNames.{class_names}
use Rattle.descriptors.specs.NameTables.{names_in}
use Rattle.link_scope.proofs.names.names_of.Given as goal

abbrev pub invariant-loop-class : goal.invariant-loop-class
invariant-loop-class l = names_in l.names ≡ class_names (take l.class-index l.class-items)
