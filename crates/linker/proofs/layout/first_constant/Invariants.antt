use Rattle.std.proofs.Common.{◌≡◌, drop}
use Rattle.jvm_types.specs.Layout.{first_constant}
use Rattle.linker.proofs.layout.first_constant.Given as goal

abbrev pub invariant-loop-attr : goal.invariant-loop-attr
invariant-loop-attr l = first_constant (drop l.attr-index l.attrs) ≡ first_constant l.attrs
