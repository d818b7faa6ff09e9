use Rattle.std.proofs.Common.{sym, ◌∙◌}
use Rattle.code_verifier.proofs.SameFrames.{one_answer, one_frame, met_unchanged}
use Rattle.code_verifier.proofs.meeting.is_same.Goals as goal

pub returns : goal.returns
returns c = λ e. sym (met_unchanged c.args.frame.now c.args.other.now (one_frame c.args.frame.now c.args.other.now c.as_slice.result.now c.as_slice-2.result.now c.first_locals.result.now c.first_locals-2.result.now c.requires
    (sym c.is_ready.ensures ∙ one_answer c.is_ready.result c.is_ready-2.result c.if-is_ready.false ∙ c.is_ready-2.ensures) (c.as_slice.ensures ∙ c.stack.ensures) (c.as_slice-2.ensures ∙ c.stack-2.ensures)
    c.first_locals.ensures c.first_locals-2.ensures (sym c.if-not-same_types.ensures) (sym c.same_types-2.ensures ∙ e)))
