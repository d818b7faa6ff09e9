use Rattle.laws_refinement.proofs.InsideBeside.{attempts_stand_beside}
use Rattle.laws_refinement.proofs.inside_laws.attempts_stand_beside.Goals as goal

pub returns : goal.returns
returns c = attempts_stand_beside c.inside_may_do.ensures c.elements_inside.ensures c.steps_keep_entry.ensures c.throws_keep_entry.ensures c.leaves_keep_entry.ensures c.events_keep_state.ensures
