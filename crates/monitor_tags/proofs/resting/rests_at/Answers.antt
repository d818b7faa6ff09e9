use Rattle.std.proofs.{Common.{sym, ap, ◌∙◌, slice_get}, lemmas.Bool.not-true}
use Rattle.jvm_types.specs.declared.program.MethodInfo.{MethodInfo}
use Rattle.code_visits.specs.Waiting.{plan_node_at}
use Rattle.monitor_tags.proofs.RowsRest.{catchers_rest}
use Rattle.monitor_tags.proofs.resting.rests_at.Goals as goal

pub returns-then-branch : goal.returns-then-branch
returns-then-branch c = catchers_rest c.args.p.now c.args.m.now c.args.nodes.now c.args.i c.args.j c.args.f.now c.in-Some.frame.now c.in-Some-Some.other.now c.in-Some-Some._target.now c.requires.kept (λ e. c.if-i-j.false (sym e))
    (not-true (plan_node_at c.args.nodes.now c.args.j).waits (sym c.if-not-rests.ensures)) c.in-Some.ensures
    (sym (c.in-Some-Some.ensures.value ∙ ap (λ (m : MethodInfo). slice_get m.code c.args.j) c.method-method.ensures.is))
    (sym (c.in-Some-Some.ensures'.value ∙ ap (λ (m : MethodInfo). slice_get m.targets c.args.j) c.method-method.ensures.is))
    (sym c.if-not-can_throw.ensures) (c.in_ok-is_below.ensures c.if-branch.true)
