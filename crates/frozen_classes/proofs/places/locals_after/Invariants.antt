use Rattle.std.proofs.Common.{◌≡◌}
use Rattle.frozen_classes.specs.KeptThis.{numbers_where, local_this_after}
use Rattle.frozen_classes.proofs.places.locals_after.Given as goal

abbrev pub invariant-loop-k : goal.invariant-loop-k
invariant-loop-k l = l.places ≡ numbers_where (local_this_after l.writes l.f) l.k
