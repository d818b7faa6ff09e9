use Rattle.std.proofs.Common.{◌+◌, arith}
use Rattle.checked_program.proofs.FewStatics.{statics_below_all}
use Rattle.checked_program.proofs.code_index.word_of_class.Goals as goal

pub statics_below-requires : goal.statics_below-requires
statics_below-requires c = omega (arith, statics_below_all (c.from.result + c.from-2.result) c.args.fields.now, c.requires)
