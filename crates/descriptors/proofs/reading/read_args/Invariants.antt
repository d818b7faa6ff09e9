use Rattle.std.proofs.Common.{◌≡◌, length}
use Rattle.jvm_types.specs.Descriptors.{read_from}
use Rattle.descriptors.proofs.Fronts.{joined}
use Rattle.descriptors.proofs.reading.read_args.Given as goal

abbrev pub invariant-loop-rest : goal.invariant-loop-rest
invariant-loop-rest l = joined l.classes l.kinds (read_from l.classes l.rest).types ≡ (read_from l.classes l.text).types

abbrev pub decreases-loop-rest : goal.decreases-loop-rest
decreases-loop-rest l = length l.rest
