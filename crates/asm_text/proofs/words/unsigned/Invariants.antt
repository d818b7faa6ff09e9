use Rattle.std.proofs.Common.{◌≡◌, ◌%◌, ◌^◌, drop}
use Rattle.asm_text.specs.Words.{read_on}
use Rattle.asm_text.proofs.words.unsigned.Given as goal

abbrev pub invariant-loop-digit : goal.invariant-loop-digit
invariant-loop-digit l = read_on l.number (drop l.digit-index l.word) % 2 ^ 64 ≡ read_on 0 l.word % 2 ^ 64
