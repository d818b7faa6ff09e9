use Rattle.std.proofs.Common.{◌≡◌}
use Rattle.frozen_classes.specs.KeptThis.{takes_well}
use Rattle.frozen_classes.proofs.insn_kept.takes_well.Given as goal

abbrev pub invariant-loop-k : goal.invariant-loop-k
invariant-loop-k l = l.takes ≡ takes_well l.p l.class l.op l.target l.f l.k
