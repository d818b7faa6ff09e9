use Rattle.std.proofs.Common.{arith}
use Rattle.instr_steps.proofs.CallLaws.{new_receiver}
use Rattle.instr_steps.proofs.calls.call.Goals as goal

pub begin_method-requires-clause-reference : goal.begin_method-requires-clause-reference
begin_method-requires-clause-reference c =
    let pushed = rw c.method_of.ensures at c.in-Ok.ensures.ok in
    rw pushed
    (omega (
      arith,
      new_receiver c.args.p.now.program c.args.s.now.frames c.args.place.now c.args.s.now.number c.args.number c.method_of.result.now c.requires.stands c.requires.fits c.method_of.ensures,
      c.heap-heap.ensures.heap,
      c.heap-heap.type_inv,
    ))
