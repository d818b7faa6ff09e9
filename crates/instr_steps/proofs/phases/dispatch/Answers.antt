use Rattle.std.proofs.Common.{sym, ◌∙◌}
use Rattle.machine_types.specs.ReadyObjects.{class_of}
use Rattle.instr_steps.proofs.PhasesReady.{in_throw, thrown_at, handler_room}
use Rattle.instr_steps.proofs.phases.dispatch.Goals as goal

pub place_of-place-requires : goal.place_of-place-requires
place_of-place-requires c = (in_throw c.args.p.now c.args.s.now c.in-Throw.x c.in-Throw.class c.program-checked.ensures.marked c.requires.lawful (sym c.phase.ensures ∙ c.in-Throw.is)).found

pub hand-requires-clause-stands : goal.hand-requires-clause-stands
hand-requires-clause-stands c =
    let here = in_throw c.args.p.now c.args.s.now c.in-Throw.x c.in-Throw.class c.program-checked.ensures.marked c.requires.lawful (sym c.phase.ensures ∙ c.in-Throw.is) in
    thrown_at c.args.p.now c.args.s.now.frames c.place_of-place.result c.program-checked.ensures.marked here.thrown here.some c.place_of-place.ensures

pub hand-requires-clause-room : goal.hand-requires-clause-room
hand-requires-clause-room c =
    let here = in_throw c.args.p.now c.args.s.now c.in-Throw.x c.in-Throw.class c.program-checked.ensures.marked c.requires.lawful (sym c.phase.ensures ∙ c.in-Throw.is) in
    handler_room c.args.p.now c.args.s.now.frames c.place_of-place.result (class_of c.in-Throw.class) c.program-checked.ensures.marked here.thrown c.place_of-place.ensures
