use Rattle.std.proofs.{Common.{◌+◌, ◌++◌, ℕ, List, ap, append_assoc, sym, ◌∙◌}, lemmas.List.drop_more}
use Rattle.jvm_types.specs.declared.class_file.Member.{Member}
use Rattle.load_classes.specs.LoadClass.{adders}
use Rattle.load_classes.proofs.methods.push_adders.Goals as goal

pub loop-factor-preserved : goal.loop-factor-preserved
loop-factor-preserved c =
    let step = ap (λ (fs : List ℕ). c.loop-factor.methods ++ adders c.loop-factor.k fs) (drop_more c.args.factors.now c.loop-factor.factor-index 0 c.loop-factor-test.true) in
    (ap (λ (n : ℕ). n + 1) c.loop-factor.invariant.0, rw (c.in_ok-push.ensures.ok, c.in_ok-adder.ensures) (append_assoc c.loop-factor.methods _ _ ∙ sym step ∙ c.loop-factor.invariant.1))
