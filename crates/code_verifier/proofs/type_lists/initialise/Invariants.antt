use Rattle.std.proofs.Common.{◌≡◌, ◌++◌, take, drop, length}
use Rattle.jvm_types.specs.Verifying.{initialised}
use Rattle.code_verifier.proofs.type_lists.initialise.Given as goal

abbrev pub invariant-loop-i : goal.invariant-loop-i
invariant-loop-i l = record {
  rest : take l.i l.types ++ initialised l.object l.class (drop l.i l.types) ≡ initialised l.object l.class l.fn.types;
  long : length l.types ≡ length l.fn.types;
}
