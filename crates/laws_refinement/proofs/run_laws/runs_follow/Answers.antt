use Rattle.laws_refinement.proofs.FaithfulRuns.{runs_follow}
use Rattle.laws_refinement.proofs.run_laws.runs_follow.Goals as goal

pub returns : goal.returns
returns c = runs_follow c.given_is_kept.ensures c.instructions_change_memory.ensures
