use Rattle.laws_refinement.proofs.InsideTallies.{attempts_are_counted}
use Rattle.laws_refinement.proofs.tally_laws.attempts_are_counted.Goals as goal

pub returns : goal.returns
returns c = attempts_are_counted c.inside_may_do.ensures c.elements_inside.ensures c.steps_keep_entry.ensures c.throws_keep_entry.ensures c.leaves_keep_entry.ensures
