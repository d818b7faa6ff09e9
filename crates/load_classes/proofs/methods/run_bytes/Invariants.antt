use Rattle.std.{proofs.Common.{◌≡◌, ◌-◌, ◌++◌}, specs.List.{flat_map, range_with_len}}
use Rattle.load_classes.specs.LoadClass.{call_bytes}
use Rattle.load_classes.proofs.methods.run_bytes.Given as goal

abbrev pub invariant-loop-k : goal.invariant-loop-k
invariant-loop-k l = l.bytes ++ flat_map call_bytes (range_with_len l.k (l.size - l.k)) ≡ flat_map call_bytes (range_with_len 0 l.size)
