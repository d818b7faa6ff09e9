use Rattle.std.proofs.Common.{◌≡◌, ◌∙◌, length, sym, ap, arith, slice_get}
use Rattle.code_verifier.proofs.StayLaws.{frame_stays}
use Rattle.code_verifier.proofs.meeting.stays.Goals as goal

pub returns-then-type_stays-clause-same : goal.returns-then-type_stays-clause-same
returns-then-type_stays-clause-same c = λ e.
    let deep : length c.args.frame.now.stack ≡ 1 = omega (arith, ap length c.stack.ensures, c.len.ensures, c.if-len-ne1.false) in
    frame_stays c.args.frame.now c.args.other.now c.args.class c.first_locals.result.now c.first_type.result c.requires c.first_locals.ensures deep
    (ap (λ l. slice_get l 0) (sym c.stack-2.ensures) ∙ c.first_type.ensures) (sym c.if-type_stays.ensures) (sym c.locals_stay.ensures ∙ e) (sym c.if-loses_this.ensures)
