use Rattle.std.proofs.Common.{◌≡◌}
use Rattle.guard_analysis.specs.OwnedFound.{compared_before}
use Rattle.guard_analysis.proofs.array_uses.compare.Given as goal

abbrev pub invariant-loop-place : goal.invariant-loop-place
invariant-loop-place l = l.outs ≡ compared_before l.fn.outs l.brought l.there l.place
