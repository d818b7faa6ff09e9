use Rattle.laws_programs.proofs.RuleUses.{read_good}
use Rattle.laws_programs.proofs.rule_laws.read_is_good.Goals as goal

pub returns : goal.returns
returns c = read_good
