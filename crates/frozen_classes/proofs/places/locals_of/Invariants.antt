use Rattle.std.proofs.Common.{◌≡◌}
use Rattle.frozen_classes.specs.KeptThis.{numbers_where, this_at}
use Rattle.frozen_classes.proofs.places.locals_of.Given as goal

abbrev pub invariant-loop-k : goal.invariant-loop-k
invariant-loop-k l = l.places ≡ numbers_where (λ k. this_at l.f.locals k) l.k
