use Rattle.std.proofs.{Common.{◌∙◌, ap, length}, lemmas.Result.IfOk-weaker}
use Rattle.jvm_types.specs.declared.program.MethodInfo.{MethodInfo}
use Rattle.mark_reasons.proofs.OwnLaws.{explored_flags}
use Rattle.mark_reasons.proofs.own.inside.Goals as goal

pub returns : goal.returns
returns c = IfOk-weaker c.flagged.result _ _ (λ flags e.
    explored_flags c.args.m.now c.args.t.now.frames c.args.depth 1 c.args.enter c.explore.new.walk c.as_slice.result.now c.len-len.result flags c.in_ok-explore.ensures c.as_slice.ensures (c.len-len.ensures ∙ ap (λ (x : MethodInfo). length x.code) c.method.ensures.is) e) c.flagged.ensures
