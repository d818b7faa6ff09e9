use Rattle.std.proofs.Common.{◌≡◌, ◌++◌, true, drop}
use Rattle.asm_text.specs.Encoding.{pair_ways}
use Rattle.asm_text.proofs.encoding.put_pair_ways.Given as goal

abbrev pub invariant-loop-n : goal.invariant-loop-n
invariant-loop-n l = l.code ++ pair_ways l.pc l.is_key (drop l.n-index l.pairs) ≡ l.fn.code ++ pair_ways l.pc true l.pairs
