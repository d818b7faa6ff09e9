use Rattle.std.proofs.Common.{◌≤◌, length, subst}
use Rattle.jvm_types.specs.declared.limits.TheConstants.{MOST_FRAMES}
use Rattle.step_core.{specs.Progress.Progress, proofs.SectionEvents.room_to_take}
use Rattle.step_core.proofs.ahead.run_loop.RunLoop.take_by.Goals as goal

pub take_unheld-requires-clause-place : goal.take_unheld-requires-clause-place
take_unheld-requires-clause-place c =
    let r = c.args.self.now in
    let few : length r.frames.frames ≤ MOST_FRAMES =
    subst (λ (x : Progress). length x.frames.frames ≤ MOST_FRAMES) c.self.view_is c.depth-depth.ensures.few in
    room_to_take r.program c.args.s.now c.set_turns.new.self r.frames r.count c.args.monitor c.args.noted
    c.held_has_room.ensures c.requires.program few c.set_turns.ensures c.requires.lawful
