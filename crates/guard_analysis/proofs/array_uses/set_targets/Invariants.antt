use Rattle.std.proofs.Common.{◌≡◌, drop}
use Rattle.guard_analysis.specs.OwnedFound.{targets_set}
use Rattle.guard_analysis.proofs.array_uses.set_targets.Given as goal

abbrev pub invariant-loop-to : goal.invariant-loop-to
invariant-loop-to l = targets_set l.m.code l.flags (drop l.to-index l.tos) ≡ targets_set l.m.code l.fn.flags l.tos
