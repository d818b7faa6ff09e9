use Rattle.std.proofs.Common.{◌≡◌, ◌++◌, drop, map}
use Rattle.asm_text.specs.Words.{signed}
use Rattle.asm_text.proofs.words.numbers_of.Given as goal

abbrev pub invariant-loop-word : goal.invariant-loop-word
invariant-loop-word l = l.numbers ++ map (signed 4294967296) (map (λ w. w.now) (drop l.word-index l.ws)) ≡ map (signed 4294967296) (map (λ w. w.now) l.ws)
