use Rattle.class_runner.specs.Stages.{AreReadSoFar}
use Rattle.class_runner.proofs.reading.read_files.Given as goal

abbrev pub invariant-loop-file : goal.invariant-loop-file
invariant-loop-file l = AreReadSoFar l.files l.file l.classes
