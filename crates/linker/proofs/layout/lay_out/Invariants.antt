use Rattle.std.proofs.Common.{◌≡◌, ◌+◌, ◌*◌, ◌≤◌, ◌++◌, drop}
use Rattle.jvm_types.specs.{ClassNames.class_names, Layout.{fields_from, laid_out_fields}}
use Rattle.linker.proofs.layout.lay_out.Given as goal

abbrev pub invariant-loop-number : goal.invariant-loop-number
invariant-loop-number l = record {
  fields : l.fields ++ fields_from (class_names l.scope) l.number l.word (drop l.number l.scope) ≡ laid_out_fields (class_names l.scope) l.scope;
  word : l.word ≤ 2068 + 65538 * l.number;
}
