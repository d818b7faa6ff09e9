use Rattle.std.proofs.Common.{◌≡◌, drop}
use Rattle.jvm_types.specs.Numbers.{has_number}
use Rattle.code_table.proofs.class_tree.has_number.Given as goal

abbrev pub invariant-loop-n : goal.invariant-loop-n
invariant-loop-n l = has_number (drop l.n-index l.numbers) l.number ≡ has_number l.numbers l.number
