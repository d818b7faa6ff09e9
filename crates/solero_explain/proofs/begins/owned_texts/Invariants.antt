use Rattle.std.proofs.Common.{◌≡◌, ◌++◌, drop}
use Rattle.command_words.specs.Words.{texts}
use Rattle.solero_explain.proofs.begins.owned_texts.Given as goal

-- the words that are told, with those that are left, are all
abbrev pub invariant-loop-word : goal.invariant-loop-word
invariant-loop-word l = l.told ++ texts (drop l.word-index l.words) ≡ texts l.words
