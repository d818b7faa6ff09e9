use Rattle.std.{proofs.Common.{◌≡◌, ◌+◌, ◌*◌, ◌≤◌, drop}, specs.List.sum_by}
use Rattle.jvm_types.specs.Layout.{class_word_count, fixed_words}
use Rattle.link_rules.proofs.words.fixed_words.Given as goal

abbrev pub invariant-loop-class : goal.invariant-loop-class
invariant-loop-class l = record {
  rest : l.words + sum_by class_word_count (drop l.class-index l.files) ≡ fixed_words l.files;
  few : l.words ≤ 2068 + 65538 * l.class-index;
}
