use Rattle.laws_states.proofs.Runs.{runs_reach}
use Rattle.laws_states.proofs.run_laws.runs_reach.Goals as goal

pub returns : goal.returns
returns c = runs_reach c.run_facts_start.ensures c.run_facts_event.ensures c.run_facts_next.ensures c.threads_are_kept.ensures
