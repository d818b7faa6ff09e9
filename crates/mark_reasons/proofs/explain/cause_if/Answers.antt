use Rattle.std.proofs.{Common.{◌≡◌, ℕ, subst, arith}, lemmas.Bool.Decides.nat_tests}
use Rattle.checked_program.specs.{Marks.BreaksAt, TaggedCode.tagged_by}
use Rattle.mark_reasons.specs.Reasons.{callee_of}
use Rattle.mark_reasons.proofs.explain.cause_if.Goals as goal

pub cause_of-requires-clause-breaks : goal.cause_of-requires-clause-breaks
cause_of-requires-clause-breaks c = subst (λ (rule : ℕ). BreaksAt c.args.p.now (tagged_by c.args.tags.now) c.args.uses.now (callee_of c.args.site) c.args.site.at rule)
    (let test = c.if-rule-eq5.true in let five : c.args.rule ≡ 5 = grind (arith, nat_tests) in five) c.requires.breaks
