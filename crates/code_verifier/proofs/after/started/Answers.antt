use Rattle.std.proofs.Common.{sym, ◌∙◌, add-one}
use Rattle.code_verifier.proofs.StartedLaws.{started_past, started_found, started_more}
use Rattle.code_verifier.proofs.after.started.Goals as goal

pub returns-in_default : goal.returns-in_default
returns-in_default c = sym (started_past c.args.own c.args.takes.now c.args.stack.now c.loop-place.place (sym c.in_default.ensures)) ∙ c.loop-place.invariant

pub returns-in-Some-started_here : goal.returns-in-Some-started_here
returns-in-Some-started_here c = started_found c.args.own c.args.takes.now c.args.stack.now c.loop-place.place _ c.in-Some.t c.in-Some-started_here.object _ c.loop-place-test.true (sym c.in-Some.ensures) c.in-Some-started_here.ensures c.loop-place.invariant

pub loop-place-preserved : goal.loop-place-preserved
loop-place-preserved c = rw add-one (started_more c.args.own c.args.takes.now c.args.stack.now c.loop-place.place _ c.in-Some.t _ c.loop-place-test.true (sym c.in-Some.ensures) c.in_default-started_here.ensures c.loop-place.invariant)
