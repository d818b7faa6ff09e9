use Rattle.mark_reasons.proofs.facts.add_reason.Goals as goal

pub returns-in-Elsewhere : goal.returns-in-Elsewhere
returns-in-Elsewhere c = rw c.in-Elsewhere.is c.add_said.ensures

pub returns-in-Unreached : goal.returns-in-Unreached
returns-in-Unreached c = rw c.in-Unreached.is c.add_said-in-Unreached.ensures
