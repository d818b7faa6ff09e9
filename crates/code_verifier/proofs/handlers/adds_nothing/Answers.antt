use Rattle.std.proofs.Common.{refl, sym}
use Rattle.code_verifier.{specs.Visiting.with_object_stack, proofs.StayLaws.adds_none}
use Rattle.code_verifier.proofs.handlers.adds_nothing.Goals as goal

pub returns-in-Some-frame : goal.returns-in-Some-frame
returns-in-Some-frame c = λ e. adds_none c.args.m.now c.args.to c.in-Some.i c.in-Some-frame.frame.now (with_object_stack c.args.class c.args.f.now) c.args.nodes.now c.laid_out.ensures.ascend c.requires.level
    (sym c.in-Some.ensures) c.in-Some-frame.ensures refl (c.stays.ensures.deep e) (c.stays.ensures.same e)
