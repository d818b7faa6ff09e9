use Rattle.std.proofs.Common.{◌≡◌, take}
use Rattle.jvm_types.specs.ClassNames.{class_names}
use Rattle.constant_pools.proofs.pool_texts.class_names.Given as goal

abbrev pub invariant-loop-class : goal.invariant-loop-class
invariant-loop-class l = l.names ≡ class_names (take l.class-index l.files)
