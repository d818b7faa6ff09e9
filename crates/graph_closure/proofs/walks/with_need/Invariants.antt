use Rattle.std.proofs.Common.{◌≡◌, map, take, not, ◌==◌}
use Rattle.graph_closure.proofs.walks.with_need.Given as goal

abbrev pub invariant-loop-n : goal.invariant-loop-n
invariant-loop-n l = l.found.items ≡ map (λ n. not (n == 0)) (take l.n-index l.need)
