use Rattle.class_runner.proofs.LoadedOnce.{linked_long}
use Rattle.class_runner.proofs.linking.link_files.Goals as goal

pub returns-in-Ok-clause-methods : goal.returns-in-Ok-clause-methods
returns-in-Ok-clause-methods c =
    let decoded = rw c.as_slice.ensures at c.in_ok-code.ensures.ok in
    linked_long c.args.classes.now c.in_ok-code.code c.args.heap c.args.workers c.in-Ok.program decoded c.in-Ok.ensures.ok
