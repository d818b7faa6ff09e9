use Rattle.std.proofs.Common.{◌≡◌, drop}
use Rattle.jvm_types.specs.Verifying.{started}
use Rattle.code_verifier.proofs.after.started.Given as goal

abbrev pub invariant-loop-place : goal.invariant-loop-place
invariant-loop-place l = started l.own (drop l.place l.takes) (drop l.place l.stack) ≡ started l.own l.takes l.stack
