use Rattle.class_runner.proofs.FilesRead.{ends, goes_on}
use Rattle.class_runner.proofs.reading.read_files.Goals as goal

pub loop-file-preserved : goal.loop-file-preserved
loop-file-preserved c =
    rw c.in_ok-push.ensures.ok (goes_on c.args.files.now c.loop-file.file c.loop-file.classes c.index-files-file.result c.in_ok-read_file.field-0 c.loop-file-test.true c.index-files-file.is c.in_ok-read_file.ensures.ok c.in_ok-read_file.ensures.faultless c.loop-file.invariant)

pub returns-clause-ok : goal.returns-clause-ok
returns-clause-ok c = ends c.args.files.now c.loop-file.file c.loop-file.classes c.loop-file-test.false c.loop-file.invariant
