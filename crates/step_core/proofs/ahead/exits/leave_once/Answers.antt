use Rattle.step_core.proofs.SectionEvents.{once_made}
use Rattle.step_core.proofs.ahead.exits.leave_once.Goals as goal

pub returns-clause-on : goal.returns-clause-on
returns-clause-on c =
    once_made c.args.p.now c.args.monitor c.args.s.now c.put_depth.new.s c.args.words.now c.args.held
    c.requires.held c.requires.depth c.put_depth.ensures
