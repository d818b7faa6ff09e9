use Rattle.std.{proofs.Common.{◌≡◌, ◌-◌, ◌++◌}, specs.List.{flat_map, range_with_len}}
use Rattle.load_classes.specs.LoadClass.{adder_constants}
use Rattle.load_classes.proofs.constants.add_adders.Given as goal

abbrev pub invariant-loop-k : goal.invariant-loop-k
invariant-loop-k l = l.pool ++ flat_map adder_constants (range_with_len l.k (l.size - l.k)) ≡ l.fn.pool ++ flat_map adder_constants (range_with_len 0 l.size)
