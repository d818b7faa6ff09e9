use Rattle.step_core.proofs.SectionEvents.{again_made}
use Rattle.step_core.proofs.ahead.entries.enter_held.Goals as goal

pub returns-clause-on : goal.returns-clause-on
returns-clause-on c =
    again_made c.args.p.now c.args.s.now c.set_turns.new.self c.enter_again.new.s c.args.f.now c.args.count c.args.monitor c.args.words.now c.args.held
    c.set_turns.ensures c.enter_again.ensures c.requires.held
