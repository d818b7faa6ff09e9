use Rattle.step_core.proofs.SectionTurns.{enters_whole}
use Rattle.step_core.proofs.ahead.monitors.enter_instruction.Goals as goal

pub returns-clause-on : goal.returns-clause-on
returns-clause-on c =
    enters_whole c.args.p.now c.args.s.now c.args.f.now c.take.new.f c.args.count c.value-monitor.result c.args.place.now c.insn.result.now c.args.words.now
    c.requires.next c.requires.op c.insn.ensures c.value-monitor.ensures c.if-monitor-eq0.false c.take.ensures
