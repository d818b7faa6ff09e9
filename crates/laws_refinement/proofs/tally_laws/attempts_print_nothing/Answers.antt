use Rattle.laws_refinement.proofs.InsideTallies.{attempts_print_nothing}
use Rattle.laws_refinement.proofs.tally_laws.attempts_print_nothing.Goals as goal

pub returns : goal.returns
returns c = attempts_print_nothing c.inside_may_do.ensures c.elements_inside.ensures c.steps_keep_entry.ensures c.throws_keep_entry.ensures c.leaves_keep_entry.ensures
