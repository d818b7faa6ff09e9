use Rattle.std.proofs.Common.{◌≡◌, ◌+◌, drop}
use Rattle.jvm_types.specs.ProgramInvariant.{instances_among}
use Rattle.checked_program.specs.CodeIndex.{words_of_object}
use Rattle.checked_program.proofs.code_index.count_words.Given as goal

abbrev pub invariant-loop-field : goal.invariant-loop-field
invariant-loop-field l = l.words + instances_among l.class (drop l.field-index l.fields) ≡ words_of_object l.fields l.class
