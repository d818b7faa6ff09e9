use Rattle.solero.proofs.Stated.{are_stated}
use Rattle.solero.proofs.limits.numbers_are_stated.Goals as goal

-- the law
pub returns : goal.returns
returns c = are_stated
