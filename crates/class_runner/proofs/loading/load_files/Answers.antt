use Rattle.std.proofs.Common.{arith}
use Rattle.class_runner.proofs.LoadedOnce.{loaded, spelled_long, spelled_classes}
use Rattle.class_runner.proofs.loading.load_files.Goals as goal

pub link_files-requires-clause-some_file : goal.link_files-requires-clause-some_file
link_files-requires-clause-some_file c = omega (arith, spelled_long c.args.files.now c.in_ok-classes.classes c.in_ok-classes.ensures.ok, c.requires.some_file)

pub link_files-requires-clause-few_files : goal.link_files-requires-clause-few_files
link_files-requires-clause-few_files c = omega (arith, spelled_long c.args.files.now c.in_ok-classes.classes c.in_ok-classes.ensures.ok, c.requires.few_files)

pub link_files-requires-clause-classes : goal.link_files-requires-clause-classes
link_files-requires-clause-classes c = spelled_classes c.args.files.now c.in_ok-classes.classes c.in_ok-classes.ensures.ok

pub verify_files-requires-clause-classes : goal.verify_files-requires-clause-classes
verify_files-requires-clause-classes c = rw c.as_slice.ensures (spelled_classes c.args.files.now c.in_ok-classes.classes c.in_ok-classes.ensures.ok)

pub tag_files-requires-clause-classes : goal.tag_files-requires-clause-classes
tag_files-requires-clause-classes c = rw c.as_slice-2.ensures (spelled_classes c.args.files.now c.in_ok-classes.classes c.in_ok-classes.ensures.ok)

pub returns-clause-ok : goal.returns-clause-ok
returns-clause-ok c =
    rw (c.in_ok-indexed.ensures, c.of.ensures)
    (loaded c.args.files.now c.args.heap c.args.workers c.in_ok-classes.classes c.in_ok-program.program c.in_ok-typings.typings c.in_ok-tags.tags c.in_ok-marks.marks c.in_ok-classes.ensures.ok c.in_ok-program.ensures.ok
    c.in_ok-typings.ensures.ok c.in_ok-tags.ensures.ok c.in_ok-marks.ensures)
