use Rattle.plain_search.specs.Alone.{IsSettled}
use Rattle.plain_search.proofs.settling.settle.Given as goal

abbrev pub invariant-loop-n : goal.invariant-loop-n
invariant-loop-n l = IsSettled l.n l.fn.q l.q
