use Rattle.std.proofs.Common.{◌≡◌, ◌++◌, drop}
use Rattle.load_classes.specs.LoadClass.{adders}
use Rattle.load_classes.proofs.methods.push_adders.Given as goal

abbrev pub invariant-loop-factor : goal.invariant-loop-factor
invariant-loop-factor l = (l.k ≡ l.factor-index) × (l.methods ++ adders l.k (drop l.factor-index l.factors) ≡ l.fn.methods ++ adders 0 l.factors)
