use Rattle.std.proofs.Common.{refl}
use Rattle.step_core.proofs.SectionEvents.{inside_left}
use Rattle.step_core.proofs.ahead.exits.leave_inside.Goals as goal

pub returns-clause-on : goal.returns-clause-on
returns-clause-on c =
    inside_left c.args.p.now c.args.monitor c.args.inner c.args.s.now c.set_inner.new.self c.args.words.now c.args.s.now.attempt refl
    c.requires.some c.requires.own c.requires.inner c.requires.deep c.requires.none c.set_inner.ensures
