use Rattle.std.proofs.Common.{◌≡◌, ◌++◌, take, drop, length}
use Rattle.jvm_types.specs.Verifying.{initialised}
use Rattle.code_verifier.proofs.type_lists.initialise_stack.Given as goal

abbrev pub invariant-loop-place : goal.invariant-loop-place
invariant-loop-place l = record {
  rest : take l.place l.stack ++ initialised l.object l.class (drop l.place l.stack) ≡ initialised l.object l.class l.fn.stack;
  long : length l.stack ≡ length l.fn.stack;
}
