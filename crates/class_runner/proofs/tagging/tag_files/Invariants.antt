use Rattle.std.proofs.Common.{drop}
use Rattle.jvm_types.specs.Members.{declared_by, declared_methods}
use Rattle.class_runner.specs.Stages.{AreTaggedSoFar}
use Rattle.class_runner.proofs.tagging.tag_files.Given as goal

abbrev pub invariant-loop-file : goal.invariant-loop-file
invariant-loop-file l = AreTaggedSoFar l.program (declared_by (λ c. c.methods) l.file (drop l.file l.classes)) (declared_methods l.classes) l.tags
