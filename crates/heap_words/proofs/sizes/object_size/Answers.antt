use Rattle.std.proofs.Common.{◌<◌, List, subst, sym, arith}
use Rattle.jvm_types.specs.{ProgramInvariant.instances_among, declared.program.FieldInfo.FieldInfo}
use Rattle.checked_program.proofs.FewFields.{few_fields}
use Rattle.heap_words.proofs.sizes.object_size.Goals as goal

pub instances-requires : goal.instances-requires
instances-requires c = subst (λ (fields : List FieldInfo). instances_among c.args.class fields < 65536) (sym c.as_slice.ensures) (omega (arith, few_fields c.args.p.now c.args.class c.requires))
