use Rattle.std.{proofs.Common.{◌++◌, List, Option, drop}, specs.List.AllZip}
use Rattle.jvm_types.specs.declared.class_file.ClassFile.{ClassFile}
use Rattle.refusal_places.specs.Explained.{IsClassSpelled}
use Rattle.refusal_places.proofs.explaining.classes_in.Given as goal

abbrev pub invariant-loop-bytes : goal.invariant-loop-bytes
invariant-loop-bytes l = (rest : List (Option ClassFile)) → AllZip IsClassSpelled (drop l.bytes-index l.contents) rest → AllZip IsClassSpelled l.contents (l.classes ++ rest)
