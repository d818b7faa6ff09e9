use Rattle.std.proofs.Common.{◌≡◌}
use Rattle.frozen_classes.specs.KeptThis.{numbers_where, stack_this_after}
use Rattle.frozen_classes.proofs.places.stack_after.Given as goal

abbrev pub invariant-loop-k : goal.invariant-loop-k
invariant-loop-k l = l.places ≡ numbers_where (stack_this_after l.row l.f) l.k
