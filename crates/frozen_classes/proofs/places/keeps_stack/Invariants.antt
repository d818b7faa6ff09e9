use Rattle.std.proofs.Common.{◌≡◌, drop}
use Rattle.std.specs.List.{list_all}
use Rattle.frozen_classes.specs.KeptThis.{this_at}
use Rattle.frozen_classes.proofs.places.keeps_stack.Given as goal

abbrev pub invariant-loop-k : goal.invariant-loop-k
invariant-loop-k l = list_all (λ k. this_at l.g.stack k) (drop l.k-index l.places) ≡ list_all (λ k. this_at l.g.stack k) l.places
