use Rattle.std.proofs.Common.{◌≡◌, drop}
use Rattle.jvm_types.specs.{ClassGrammar.codes_of, Linked.code_of}
use Rattle.jvm_types.proofs.code_attribute.code_of.Given as goal

abbrev pub invariant-loop-attr : goal.invariant-loop-attr
invariant-loop-attr l = record {
  same : code_of (drop l.attr-index l.attrs) ≡ code_of l.attrs;
  codes : codes_of (drop l.attr-index l.attrs) ≡ codes_of l.attrs;
}
