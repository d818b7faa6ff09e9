use Rattle.std.proofs.Common.{◌≤◌, List, subst, sym}
use Rattle.jvm_types.specs.{ProgramInvariant.statics_among, declared.{limits.TheConstants.MOST_HEAP, program.FieldInfo.FieldInfo}}
use Rattle.checked_program.proofs.FewStatics.{few_statics}
use Rattle.heap_words.proofs.sizes.class_object.Goals as goal

pub word_of_class-requires : goal.word_of_class-requires
word_of_class-requires c = subst (λ (fields : List FieldInfo). statics_among fields ≤ MOST_HEAP) (sym c.as_slice.ensures) (few_statics c.args.p.now c.requires.program)
