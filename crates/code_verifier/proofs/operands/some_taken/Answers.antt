use Rattle.std.proofs.Common.{sym, ◌∙◌, add-one}
use Rattle.code_verifier.{specs.Faults.has_fault, proofs.TakenLaws.{taken_past, taken_found, taken_more}}
use Rattle.code_verifier.proofs.operands.some_taken.Goals as goal

pub returns-then-has_fault : goal.returns-then-has_fault
returns-then-has_fault c = taken_found (has_fault c.args.m.now c.args.fault) c.args.takes.now c.args.stack.now c.loop-place.place _ c.in-Some.t _ c.loop-place-test.true (sym c.in-Some.ensures) c.if-has_fault.ensures c.loop-place.invariant

pub returns-in-None : goal.returns-in-None
returns-in-None c = sym (taken_past (has_fault c.args.m.now c.args.fault) c.args.takes.now c.args.stack.now c.loop-place.place (sym c.in-None.ensures)) ∙ c.loop-place.invariant

pub loop-place-preserved : goal.loop-place-preserved
loop-place-preserved c = rw add-one (taken_more (has_fault c.args.m.now c.args.fault) c.args.takes.now c.args.stack.now c.loop-place.place _ c.in-Some.t _ c.loop-place-test.true (sym c.in-Some.ensures) c.if-has_fault.ensures c.loop-place.invariant)
