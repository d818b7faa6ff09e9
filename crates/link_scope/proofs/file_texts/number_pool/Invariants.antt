use Rattle.std.proofs.Common.{◌≡◌, ◌+◌, ◌≤◌, length, take}
use Rattle.link_scope.specs.{FileTexts.IsRow, TextNumbers.Keeps}
use Rattle.link_scope.proofs.file_texts.number_pool.Given as goal

abbrev pub invariant-loop-entry : goal.invariant-loop-entry
invariant-loop-entry l = record {
  kept : Keeps l.fn.texts.numbers l.texts.numbers;
  names : l.texts.names ≡ l.fn.texts.names;
  count : l.texts.count ≤ l.fn.texts.count + l.entry-index;
  long : length l.row ≡ l.entry-index;
  row : IsRow l.texts.numbers (take l.entry-index l.entry-items) l.row;
}
