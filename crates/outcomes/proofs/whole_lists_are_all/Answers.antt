use Rattle.outcomes.proofs.Whole.{ends_are_listed, prints_are_listed, rests_are_listed, uncaught_is_listed}
use Rattle.outcomes.proofs.whole_lists_are_all.Goals as goal

pub returns-clause-ends : goal.returns-clause-ends
returns-clause-ends c = ends_are_listed c.ends_are_covered.ensures

pub returns-clause-rests : goal.returns-clause-rests
returns-clause-rests c = rests_are_listed c.runs_are_covered.ensures

pub returns-clause-prints : goal.returns-clause-prints
returns-clause-prints c = prints_are_listed c.prints_are_covered.ensures

pub returns-clause-uncaught : goal.returns-clause-uncaught
returns-clause-uncaught c = uncaught_is_listed c.uncaught_is_covered.ensures
