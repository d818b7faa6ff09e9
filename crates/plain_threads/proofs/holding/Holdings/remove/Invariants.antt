use Rattle.std.proofs.Common.{◌≡◌, vec_len}
use Rattle.machine_types.specs.PlainState.{without_holding}
use Rattle.plain_threads.proofs.holding.Holdings.remove.Given as goal

abbrev pub invariant-loop-i : goal.invariant-loop-i
invariant-loop-i l = without_holding l.m l.self-inside.holdings.items ≡ without_holding l.m l.fn.self

abbrev pub decreases-loop-i : goal.decreases-loop-i
decreases-loop-i l = vec_len l.self-inside.holdings
