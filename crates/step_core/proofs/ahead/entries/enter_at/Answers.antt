use Rattle.std.proofs.Common.{◌≤◌, ap, refl, sym, ◌∙◌, arith}
use Rattle.machine_types.specs.declared.config.Config.{Config}
use Rattle.step_core.{specs.Sections.entering, proofs.LawfulSteps.few_entries}
use Rattle.step_core.proofs.ahead.entries.enter_at.Goals as goal

pub enter_held-requires-clause-depth : goal.enter_held-requires-clause-depth
enter_held-requires-clause-depth c =
    let most : c.args.s.now.cfg.steps ≤ 4294967295 = omega (arith, ap (λ (x : Config). x.steps) c.config-limits.ensures) in
    let all = few_entries c.args.p.now (entering c.args.s.now c.args.f.now c.args.count c.args.monitor) c.args.monitor 0 refl most (c.requires.fine 0).lawful in
    rw (sym c.held.ensures ∙ c.in-Some-held.is) at all
