use Rattle.std.proofs.Common.{List, ◌++◌, drop}
use Rattle.jvm_types.specs.Members.{Declared, declared_from}
use Rattle.class_runner.specs.Stages.{own_methods, AreDecodedSoFar}
use Rattle.class_runner.proofs.decoding.decode_class.Given as goal

abbrev pub invariant-loop-number : goal.invariant-loop-number
invariant-loop-number l = (left all : List Declared) → AreDecodedSoFar (own_methods l.file l.class ++ left) all l.fn.code
    → AreDecodedSoFar (declared_from l.file l.class.constants l.number (drop l.number l.method-items) ++ left) all l.code
