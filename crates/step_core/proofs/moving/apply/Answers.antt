use Rattle.step_core.proofs.StaysLawful.{stays_lawful}
use Rattle.step_core.proofs.moving.apply.Goals as goal

pub returns-clause-lawful : goal.returns-clause-lawful
returns-clause-lawful c = stays_lawful c.args.p.now c.args.s.now c.make.new.s c.args.got c.lawful_is_kept.ensures c.program-checked.ensures.marked c.requires.lawful c.requires.fits c.make.ensures
