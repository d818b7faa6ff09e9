use Rattle.std.proofs.Common.{◌≡◌, ◌≤◌, ap, arith}
use Rattle.machine_types.specs.declared.{config.Config.Config, phase.Phase.TheVariants.Leave}
use Rattle.step_core.proofs.LawfulSteps.{can_fail, can_leave}
use Rattle.step_core.proofs.moving.make_between.Goals as goal

pub throw-requires-clause-can : goal.throw-requires-clause-can
throw-requires-clause-can c =
    let most : c.args.s.now.cfg.steps ≤ 4294967295 = omega (arith, ap (λ (x : Config). x.steps) c.config-limits.ensures) in
    can_fail c.args.p.now c.args.s.now c.attempts_are_based.ensures most c.requires.lawful

pub leave-requires-clause-can : goal.leave-requires-clause-can
leave-requires-clause-can c =
    let most : c.args.s.now.cfg.steps ≤ 4294967295 = omega (arith, ap (λ (x : Config). x.steps) c.config-limits.ensures) in
    let phase : c.args.s.now.phase ≡ Leave c.in-Leave.m c.in-Leave.after = cc in
    can_leave c.args.p.now c.args.s.now c.in-Leave.m c.args.got c.in-Leave.after phase c.attempts_are_based.ensures most c.requires.lawful c.requires.fits
