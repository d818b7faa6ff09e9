use Rattle.command_words.proofs.Stated.{are_stated}
use Rattle.command_words.proofs.limits.options_are_stated.Goals as goal

-- the law
pub returns : goal.returns
returns c = are_stated
