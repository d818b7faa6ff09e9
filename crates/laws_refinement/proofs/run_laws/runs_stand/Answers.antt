use Rattle.laws_refinement.proofs.FaithfulRuns.{runs_stand}
use Rattle.laws_refinement.proofs.run_laws.runs_stand.Goals as goal

pub returns : goal.returns
returns c = runs_stand c.given_is_kept.ensures c.instructions_change_memory.ensures c.event_laws.ensures.events c.event_laws.ensures.elided
