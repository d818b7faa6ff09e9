use Rattle.std.proofs.Common.{◌≡◌, ℕ, suc, ◌+◌, drop, Some, sym, ap, ◌∙◌, arith}
use Rattle.machine_types.specs.PlainSteps.{plain_run}
use Rattle.history_rule.{specs.Steps.Played, proofs.Runs.{one_behind, run_rest}}
use Rattle.history_rule.proofs.plain.Plain.run.Goals as goal

pub plain_step-requires-clause-program : goal.plain_step-requires-clause-program
plain_step-requires-clause-program c = c.requires.program ∙ sym (ap (λ (q : Played). q.program) c.loop-step.invariant.behind.same)

pub plain_step-requires-clause-few : goal.plain_step-requires-clause-few
plain_step-requires-clause-few c = omega (arith, ap (λ (q : Played). q.steps) c.loop-step.invariant.behind.same, c.loop-step-test.true, c.requires.few)

pub loop-step-preserved : goal.loop-step-preserved
loop-step-preserved c =
    let p = c.args.p.now in
    let i = c.loop-step.step-index in
    let steps = c.args.steps.now in
    let step = rw c.if-not-branch.false at c.in_ok-plain_step.ensures in
    let next : i + 1 ≡ suc i = omega arith in
    record {
      behind = one_behind p steps i _ c.args.self.now c.loop-step.self c.plain_step.new.q c.requires.program c.loop-step-test.true c.loop-step.invariant.behind step.0 step.1;
      left = ap (λ (n : ℕ). plain_run p.program c.plain_step.new.q.state (drop n steps)) next ∙ sym (run_rest p.program steps i _ c.loop-step.self.state (Some c.plain_step.new.q.state) c.loop-step-test.true step.0) ∙ c.loop-step.invariant.left;
    }
