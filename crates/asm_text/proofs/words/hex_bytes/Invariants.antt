use Rattle.std.proofs.Common.{◌≡◌, ◌++◌, length}
use Rattle.asm_text.specs.Words.{hex_bytes}
use Rattle.asm_text.proofs.words.hex_bytes.Given as goal

abbrev pub invariant-loop-rest : goal.invariant-loop-rest
invariant-loop-rest l = l.bytes ++ hex_bytes l.rest ≡ hex_bytes l.fn.word

abbrev pub decreases-loop-rest : goal.decreases-loop-rest
decreases-loop-rest l = length l.rest
