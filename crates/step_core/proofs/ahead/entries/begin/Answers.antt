use Rattle.step_core.proofs.SectionEvents.{begin_made}
use Rattle.step_core.proofs.ahead.entries.begin.Goals as goal

pub returns-clause-on : goal.returns-clause-on
returns-clause-on c =
    begin_made c.args.p.now c.args.s.now c.set_turns.new.self c.checkpoint_of.new.self c.args.f.now c.args.count c.args.monitor c.args.noted c.args.words.now
    c.set_turns.ensures c.checkpoint_of.ensures
    c.requires.frame c.requires.held c.requires.alone c.requires.may c.requires.word c.requires.few
