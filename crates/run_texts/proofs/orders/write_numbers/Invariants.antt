use Rattle.std.{proofs.Common.{◌≡◌, ◌++◌, drop, string_bytes}, specs.{Fmt.decimal, List.flat_map}}
use Rattle.run_texts.proofs.orders.write_numbers.Given as goal

-- the numbers that are written, with those that are left, are all
abbrev pub invariant-loop-worker : goal.invariant-loop-worker
invariant-loop-worker l = string_bytes l.text ++ flat_map decimal (drop l.worker-index l.order) ≡ string_bytes l.fn.text ++ flat_map decimal l.order
