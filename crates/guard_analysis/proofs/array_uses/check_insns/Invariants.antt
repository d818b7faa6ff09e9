use Rattle.std.proofs.Common.{◌≡◌}
use Rattle.guard_analysis.specs.OwnedFound.{method_out}
use Rattle.guard_analysis.proofs.array_uses.check_insns.Given as goal

abbrev pub invariant-loop-i : goal.invariant-loop-i
invariant-loop-i l = l.outs ≡ method_out l.p l.m l.tags.frames l.branched l.frames l.fn.outs l.i
