use Rattle.checked_program.proofs.{FewStatics.few_statics, IndexLaws.{all_ascend, few_instances}}
use Rattle.checked_program.proofs.checked.Checked.indexable.Goals as goal

pub returns-clause-ascend : goal.returns-clause-ascend
returns-clause-ascend c = rw (← c.self.view_is) (all_ascend c.self.inside.program c.self.invariant.0.checked.program)

pub returns-clause-few : goal.returns-clause-few
returns-clause-few c = rw (← c.self.view_is) (few_instances c.self.inside.program c.self.invariant.0.checked.program)

pub returns-clause-statics : goal.returns-clause-statics
returns-clause-statics c = rw (← c.self.view_is) (few_statics c.self.inside.program c.self.invariant.0.checked.program)
