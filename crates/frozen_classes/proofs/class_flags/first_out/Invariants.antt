use Rattle.std.proofs.Common.{ℕ, ◌<◌}
use Rattle.checked_program.specs.TaggedCode.{tagged_by}
use Rattle.frozen_classes.specs.FrozenClasses.{KeepsIfInit}
use Rattle.frozen_classes.proofs.class_flags.first_out.Given as goal

abbrev pub invariant-loop-u : goal.invariant-loop-u
invariant-loop-u l = (v : ℕ) → v < l.u → KeepsIfInit l.p (tagged_by l.tags) l.class v
