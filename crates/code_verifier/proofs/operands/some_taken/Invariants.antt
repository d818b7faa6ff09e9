use Rattle.std.proofs.Common.{◌≡◌, drop}
use Rattle.jvm_types.specs.Verifying.{some_taken}
use Rattle.code_verifier.specs.Faults.{has_fault}
use Rattle.code_verifier.proofs.operands.some_taken.Given as goal

abbrev pub invariant-loop-place : goal.invariant-loop-place
invariant-loop-place l = some_taken (has_fault l.m l.fault) (drop l.place l.takes) (drop l.place l.stack) ≡ some_taken (has_fault l.m l.fault) l.takes l.stack
