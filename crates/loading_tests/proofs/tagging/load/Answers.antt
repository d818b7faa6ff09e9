use Rattle.std.proofs.Common.{arith}
use Rattle.class_runner.proofs.LoadedOnce.{spelled_long, spelled_classes}
use Rattle.loading_tests.proofs.tagging.load.Goals as goal

pub link_files-requires-clause-some_file : goal.link_files-requires-clause-some_file
link_files-requires-clause-some_file c = omega (arith, spelled_long c.args.files.now c.in_ok-classes.classes c.in_ok-classes.ensures.ok, c.requires.some)

pub link_files-requires-clause-few_files : goal.link_files-requires-clause-few_files
link_files-requires-clause-few_files c = omega (arith, spelled_long c.args.files.now c.in_ok-classes.classes c.in_ok-classes.ensures.ok, c.requires.few)

pub link_files-requires-clause-classes : goal.link_files-requires-clause-classes
link_files-requires-clause-classes c = spelled_classes c.args.files.now c.in_ok-classes.classes c.in_ok-classes.ensures.ok

pub verify_files-requires-clause-classes : goal.verify_files-requires-clause-classes
verify_files-requires-clause-classes c = rw c.as_slice.ensures (spelled_classes c.args.files.now c.in_ok-classes.classes c.in_ok-classes.ensures.ok)

pub tag_files-requires-clause-classes : goal.tag_files-requires-clause-classes
tag_files-requires-clause-classes c = rw c.as_slice-2.ensures (spelled_classes c.args.files.now c.in_ok-classes.classes c.in_ok-classes.ensures.ok)
