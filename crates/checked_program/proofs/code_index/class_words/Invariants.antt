use Rattle.std.proofs.Common.{◌≡◌, length}
use Rattle.checked_program.specs.CodeIndex.{AreClassWords}
use Rattle.checked_program.proofs.code_index.class_words.Given as goal

abbrev pub invariant-loop-file : goal.invariant-loop-file
invariant-loop-file l = record {
  so_far : length l.words.items ≡ l.file;
  words : AreClassWords l.fields l.words.items;
}
