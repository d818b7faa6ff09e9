use Rattle.std.proofs.Common.{◌≡◌, length}
use Rattle.jvm_types.specs.Types.{filled}
use Rattle.code_verifier.proofs.type_lists.fill.Given as goal

abbrev pub invariant-loop-place : goal.invariant-loop-place
invariant-loop-place l = record {
  same : filled l.count l.types ≡ filled l.count l.fn.types;
  long : l._place ≡ length l.types;
}
