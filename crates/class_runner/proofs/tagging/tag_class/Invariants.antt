use Rattle.std.proofs.Common.{◌≡◌, List, ◌+◌, ◌++◌, length, drop}
use Rattle.jvm_types.specs.Members.{Declared, declared_from}
use Rattle.class_runner.specs.Stages.{own_methods, AreTaggedSoFar}
use Rattle.class_runner.proofs.tagging.tag_class.Given as goal

abbrev pub invariant-loop-number : goal.invariant-loop-number
invariant-loop-number l = record {
  count : length l.tags ≡ length l.fn.tags + l.number;
  so_far : (left all : List Declared) → AreTaggedSoFar l.program (own_methods l.file l.class ++ left) all l.fn.tags
      → AreTaggedSoFar l.program (declared_from l.file l.class.constants l.number (drop l.number l.class.methods) ++ left) all l.tags;
}
