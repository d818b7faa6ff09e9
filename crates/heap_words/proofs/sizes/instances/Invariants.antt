use Rattle.std.proofs.Common.{◌≡◌, ◌+◌, drop}
use Rattle.jvm_types.specs.ProgramInvariant.{instances_among}
use Rattle.heap_words.proofs.sizes.instances.Given as goal

abbrev pub invariant-loop-field : goal.invariant-loop-field
invariant-loop-field l = l.count + instances_among l.class (drop l.field-index l.fields) ≡ instances_among l.class l.fields
