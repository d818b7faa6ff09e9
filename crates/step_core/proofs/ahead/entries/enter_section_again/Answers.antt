use Rattle.std.proofs.Common.{refl}
use Rattle.step_core.proofs.SectionEvents.{inside_made}
use Rattle.step_core.proofs.ahead.entries.enter_section_again.Goals as goal

pub returns-clause-on : goal.returns-clause-on
returns-clause-on c =
    inside_made c.args.p.now c.args.s.now c.set_turns.new.self c.enter_inside.new.s c.args.f.now c.args.count c.args.monitor c.args.words.now
    c.args.s.now.attempt refl c.requires.some c.requires.own c.set_turns.ensures c.enter_inside.ensures c.requires.none
