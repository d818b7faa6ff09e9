use Rattle.std.proofs.Common.{◌≡◌, drop}
use Rattle.guard_analysis.specs.OwnedFound.{compared_each}
use Rattle.guard_analysis.proofs.array_uses.compare_all.Given as goal

abbrev pub invariant-loop-to : goal.invariant-loop-to
invariant-loop-to l = compared_each l.p l.m l.frames l.outs l.brought (drop l.to-index l.tos) ≡ compared_each l.p l.m l.frames l.fn.outs l.brought l.tos
