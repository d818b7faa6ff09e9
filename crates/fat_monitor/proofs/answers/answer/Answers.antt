use Rattle.std.proofs.Common.{◌≤◌, sym, ap, subst, arith}
use Rattle.machine_types.specs.declared.config.Config.{Config}
use Rattle.fat_monitor.{specs.Answering.CanAnswer, proofs.LawfulAnswers.can_answer}
use Rattle.fat_monitor.proofs.answers.answer.Goals as goal

pub answer_in-requires-clause-can : goal.answer_in-requires-clause-can
answer_in-requires-clause-can c =
    let most : c.args.s.now.cfg.steps ≤ 4294967295 = omega (arith, ap (λ (x : Config). x.steps) c.config-limits.ensures) in
    subst (λ p. CanAnswer c.args.p.now c.args.s.now p c.args.got) (sym c.phase.ensures) (can_answer c.args.p.now c.args.s.now c.args.got c.held_has_room.ensures c.requires.program c.depth-depth.ensures.few most c.requires.lawful c.requires.fits)
