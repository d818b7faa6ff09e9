use Rattle.std.proofs.Common.{sym, ◌∙◌}
use Rattle.instr_steps.proofs.{PhasesReady.in_element, Ready.{goes_from, top_found}}
use Rattle.instr_steps.proofs.phases.finish_element.Goals as goal

pub place_of-place-requires : goal.place_of-place-requires
place_of-place-requires c =
    let here = in_element c.args.p.now c.args.s.now c.in-Element.field-0 c.in-Element.stored c.requires.lawful (sym c.phase.ensures ∙ c.in-Element.is) in
    top_found c.args.p.now c.args.s.now.frames c.program-checked.ensures.marked here.hold here.some

pub go_on-requires-clause-stands : goal.go_on-requires-clause-stands
go_on-requires-clause-stands c =
    let here = in_element c.args.p.now c.args.s.now c.in-Element.field-0 c.in-Element.stored c.requires.lawful (sym c.phase.ensures ∙ c.in-Element.is) in
    (goes_from c.args.p.now c.args.s.now.frames c.place_of-place.result c.program-checked.ensures.marked here.hold here.some c.place_of-place.ensures).stands

pub go_on-requires-clause-row : goal.go_on-requires-clause-row
go_on-requires-clause-row c =
    let here = in_element c.args.p.now c.args.s.now c.in-Element.field-0 c.in-Element.stored c.requires.lawful (sym c.phase.ensures ∙ c.in-Element.is) in
    (goes_from c.args.p.now c.args.s.now.frames c.place_of-place.result c.program-checked.ensures.marked here.hold here.some c.place_of-place.ensures).row
