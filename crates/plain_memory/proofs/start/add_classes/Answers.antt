use Rattle.std.proofs.Common.{◌∙◌, arith}
use Rattle.jvm_types.specs.declared.class_numbers.TheConstants.{FIRST_FILE_CLASS}
use Rattle.plain_memory.proofs.StartLaws.{classes_step}
use Rattle.plain_memory.proofs.start.add_classes.Goals as goal

pub loop-file-preserved : goal.loop-file-preserved
loop-file-preserved c = record {
  objects = rw (c.in_ok-add_bare.ensures, c.count_statics_of.ensures.count, c.file_class-class.ensures)
      (classes_step c.args.fields.now c.loop-file.objects.items c.loop-file.reference FIRST_FILE_CLASS c.loop-file.file c.args.count c.loop-file-test.true ∙ c.loop-file.invariant.objects);
  fits = omega (arith, c.loop-file.invariant.fits, c.count_statics_of.ensures.few);
}
