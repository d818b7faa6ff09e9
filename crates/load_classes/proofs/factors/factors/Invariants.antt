use Rattle.std.proofs.Common.{◌≡◌, ◌-◌, ◌++◌}
use Rattle.load_classes.specs.LoadClass.{factors}
use Rattle.load_classes.proofs.factors.factors.Given as goal

abbrev pub invariant-loop : goal.invariant-loop
invariant-loop l = l.made.items ++ factors l.x (l.size - l.counter) ≡ factors l.seed l.size
