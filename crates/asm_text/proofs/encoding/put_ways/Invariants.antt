use Rattle.std.proofs.Common.{◌≡◌, ◌++◌, drop}
use Rattle.asm_text.specs.Encoding.{ways}
use Rattle.asm_text.proofs.encoding.put_ways.Given as goal

abbrev pub invariant-loop-to : goal.invariant-loop-to
invariant-loop-to l = l.code ++ ways l.pc (drop l.to-index l.targets) ≡ l.fn.code ++ ways l.pc l.targets
