use Rattle.frozen_classes.proofs.ClassFlags.{frozen_shown}
use Rattle.frozen_classes.proofs.class_flags.frozen_classes.Goals as goal

pub returns : goal.returns
returns c = frozen_shown c.args.p.now c.args.tags.now c.requires.program c.requires.tagged c.in_ok-flags.flags c.len.result c.len.ensures c.in_ok-flags.ensures
