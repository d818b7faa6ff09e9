use Rattle.std.proofs.Common.{◌≡◌}
use Rattle.guard_analysis.specs.OwnedFound.{AreMethodsChecked}
use Rattle.guard_analysis.proofs.owned_arrays.check_methods.Given as goal

abbrev pub invariant-loop-u : goal.invariant-loop-u
invariant-loop-u l = AreMethodsChecked l.p l.tags l.owning l.u l.outs l.reads
