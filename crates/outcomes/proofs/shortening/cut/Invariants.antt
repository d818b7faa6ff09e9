use Rattle.outcomes.specs.Comes.{LeadsTo}
use Rattle.outcomes.proofs.shortening.cut.Given as goal

-- the best order so far comes to what the state shows
abbrev pub invariant-loop : goal.invariant-loop
invariant-loop l = LeadsTo l.p l.cfg l.q.state l.best.order l.best.outcome
