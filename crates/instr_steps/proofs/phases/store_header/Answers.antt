use Rattle.std.proofs.Common.{sym, ◌∙◌}
use Rattle.instr_steps.proofs.PhasesReady.{room_for_object}
use Rattle.instr_steps.proofs.phases.store_header.Goals as goal

pub push_value-requires-clause-room : goal.push_value-requires-clause-room
push_value-requires-clause-room c =
    room_for_object c.args.p.now c.args.s.now c.in-Made.a c.in-Made.field-1 c.program-checked.ensures.marked c.requires.lawful c.requires.program (sym c.phase.ensures ∙ c.in-Made.is)
