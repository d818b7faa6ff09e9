use Rattle.step_core.proofs.{LocalEvents.local_fits, StaysLawful.stays_lawful}
use Rattle.step_core.proofs.moving.step_local.Goals as goal

pub make-requires-clause-fits : goal.make-requires-clause-fits
make-requires-clause-fits c = local_fits c.args.p.now c.args.s.now c.requires.wants

pub returns-clause-lawful : goal.returns-clause-lawful
returns-clause-lawful c =
    stays_lawful c.args.p.now c.args.s.now c.make.new.s 0 c.lawful_is_kept.ensures c.program-checked.ensures.marked c.requires.lawful (local_fits c.args.p.now c.args.s.now c.requires.wants) c.make.ensures
