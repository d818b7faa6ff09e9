use Rattle.std.proofs.Common.{◌≤◌, ap, arith}
use Rattle.machine_types.specs.declared.config.Config.{Config}
use Rattle.step_core.{specs.Sections.entering, proofs.LawfulSteps.{few_inside, has_frame, number_fits}}
use Rattle.step_core.proofs.ahead.entries.enter_free.Goals as goal

pub enter_section_again-requires-clause-none : goal.enter_section_again-requires-clause-none
enter_section_again-requires-clause-none c = (c.requires.fine 0).unheld c.args.monitor c.args.noted c.requires.word

pub enter_section_again-requires-clause-inner : goal.enter_section_again-requires-clause-inner
enter_section_again-requires-clause-inner c =
    let most : c.args.s.now.cfg.steps ≤ 4294967295 = omega (arith, ap (λ (x : Config). x.steps) c.config-limits.ensures) in
    few_inside c.args.p.now (entering c.args.s.now c.args.f.now c.args.count c.args.monitor) most (c.requires.fine 0).lawful

pub enter_new-requires-clause-held : goal.enter_new-requires-clause-held
enter_new-requires-clause-held c = (c.requires.fine 0).unheld c.args.monitor c.args.noted c.requires.word

pub enter_new-requires-clause-frame : goal.enter_new-requires-clause-frame
enter_new-requires-clause-frame c =
    has_frame c.args.monitor 0 c.args.f.now.frames c.args.s.now.roots (c.requires.fine 0).lawful.rooted.frames

pub enter_new-requires-clause-number : goal.enter_new-requires-clause-number
enter_new-requires-clause-number c =
    number_fits c.args.p.now (entering c.args.s.now c.args.f.now c.args.count c.args.monitor) c.workers-workers.ensures.marked (c.requires.fine 0).lawful

pub enter_new-requires-clause-fine : goal.enter_new-requires-clause-fine
enter_new-requires-clause-fine c = c.requires.fine 1
