use Rattle.std.proofs.Common.{◌≡◌, ◌+◌, ◌*◌, ◌≤◌, length, take}
use Rattle.link_scope.specs.{FileTexts.AreRows, TextNumbers.Keeps}
use Rattle.link_scope.proofs.file_texts.number_files.Given as goal

abbrev pub invariant-loop-class : goal.invariant-loop-class
invariant-loop-class l = record {
  kept : Keeps l.fn.texts.numbers l.texts.numbers;
  names : l.texts.names ≡ l.fn.texts.names;
  count : l.texts.count ≤ 1 + 65535 * l.class-index;
  long : length l.rows ≡ l.class-index;
  rows : AreRows l.texts.numbers (take l.class-index l.class-items) l.rows;
}
