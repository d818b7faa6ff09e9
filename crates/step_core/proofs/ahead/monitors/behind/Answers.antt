use Rattle.step_core.proofs.NearPlaces.{is_behind}
use Rattle.step_core.proofs.ahead.monitors.behind.Goals as goal

pub returns-clause-number : goal.returns-clause-number
returns-clause-number c =
    is_behind c.args.p.now.program c.args.f.now.frames c.args.place.now.method c.args.at c.args.place.now.insn
    c.numbers_are_exact.ensures c.program-checked.ensures.marked.checked.program c.requires.method c.requires.insn c.requires.pc
