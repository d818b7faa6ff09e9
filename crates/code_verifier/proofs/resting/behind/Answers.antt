use Rattle.std.proofs.{Common.{refl, sym, ap, ◌∙◌, arith, slice_get}, lemmas.Bool.not-true}
use Rattle.jvm_types.specs.declared.program.MethodInfo.{MethodInfo}
use Rattle.code_visits.{specs.Waiting.plan_node_at, proofs.TypeRests.types_taken}
use Rattle.code_verifier.proofs.RowsRest.{rests_behind}
use Rattle.code_verifier.proofs.resting.behind.Goals as goal

pub returns : goal.returns
returns c = rests_behind c.args.p.now c.args.m.now c.args.j c.args.pc c.in-Some-Some.other.now c.in-Some-Some._target.now c.args.f.now c.in_ok-frame.frame.now c.args.nodes.now
    (sym (c.in-Some-Some.ensures.value ∙ ap (λ (m : MethodInfo). slice_get m.code c.args.j) c.method-method.ensures.is))
    (sym (c.in-Some-Some.ensures'.value ∙ ap (λ (m : MethodInfo). slice_get m.targets c.args.j) c.method-method.ensures.is))
    (types_taken c.args.p.now c.args.m.now c.args.nodes.now c.args.i c.args.j c.in_ok-frame.frame.now c.requires.kept (λ e. c.if-i-j.false (sym e))
    (not-true (plan_node_at c.args.nodes.now c.args.j).waits (sym c.if-not-rests.ensures)) c.in_ok-frame.ensures)
    (omega (arith, c.if-pc-other.false)) (c.if-not-has_same_locals.ensures refl)
