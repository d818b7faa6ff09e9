use Rattle.std.proofs.Common.{◌≡◌}
use Rattle.frozen_classes.specs.KeptThis.{frozen_upto}
use Rattle.frozen_classes.proofs.class_flags.frozen_upto.Given as goal

abbrev pub invariant-loop-u : goal.invariant-loop-u
invariant-loop-u l = l.flags ≡ frozen_upto l.p l.tags l.u
