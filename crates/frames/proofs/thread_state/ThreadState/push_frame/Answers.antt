use Rattle.std.{proofs.Common.{sym, ap, ◌∙◌}, specs.Option.option_copied}
use Rattle.jvm_types.proofs.EachAfter.{there_is}
use Rattle.checked_program.{specs.MarkedProgram.checked_part, proofs.CheckedPlaces.called_fit_all}
use Rattle.frames.proofs.thread_state.ThreadState.push_frame.Goals as goal

pub push_frame-requires-clause-fits : goal.push_frame-requires-clause-fits
push_frame-requires-clause-fits c =
    let here = rw c.program.ensures.program at (sym c.get.ensures.value ∙ ap option_copied c.in-Some.is) in
    called_fit_all (checked_part c.args.p.now) c.args.method c.in-Some.m.now c.program.ensures.marked.checked here

pub unreachable-requires : goal.unreachable-requires
unreachable-requires c =
    there_is c.args.p.now.program.methods c.args.method c.requires.method (rw c.program.ensures.program at (sym c.get.ensures.value ∙ ap option_copied c.in-None.is))
