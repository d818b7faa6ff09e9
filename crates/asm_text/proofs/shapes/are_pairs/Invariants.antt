use Rattle.std.proofs.Common.{◌≡◌, length}
use Rattle.asm_text.specs.Operands.{are_pairs}
use Rattle.asm_text.proofs.shapes.are_pairs.Given as goal

abbrev pub invariant-loop-rest : goal.invariant-loop-rest
invariant-loop-rest l = are_pairs l.rest ≡ are_pairs l.fn.pairs

abbrev pub decreases-loop-rest : goal.decreases-loop-rest
decreases-loop-rest l = length l.rest
