use Rattle.std.proofs.Common.{arith}
use Rattle.instr_steps.proofs.Ready.{goes_from, top_found}
use Rattle.instr_steps.proofs.phases.return_after.Goals as goal

pub place_of-place-requires : goal.place_of-place-requires
place_of-place-requires c = top_found c.args.p.now c.args.s.now.frames c.program-checked.ensures.marked c.requires.holds (omega (arith, c.depth.ensures, c.if-depth-gt0.true))

pub give_back-requires-clause-stands : goal.give_back-requires-clause-stands
give_back-requires-clause-stands c =
    (goes_from c.args.p.now c.args.s.now.frames c.place_of-place.result c.program-checked.ensures.marked c.requires.holds (omega (arith, c.depth.ensures, c.if-depth-gt0.true)) c.place_of-place.ensures).stands

pub give_back-requires-clause-caller : goal.give_back-requires-clause-caller
give_back-requires-clause-caller c =
    (goes_from c.args.p.now c.args.s.now.frames c.place_of-place.result c.program-checked.ensures.marked c.requires.holds (omega (arith, c.depth.ensures, c.if-depth-gt0.true)) c.place_of-place.ensures).caller
