use Rattle.laws_states.proofs.KeptWords.{all_sums_fit}
use Rattle.laws_states.proofs.kept_laws.sums_fit.Goals as goal

pub returns : goal.returns
returns c = all_sums_fit
