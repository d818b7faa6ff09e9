use Rattle.std.proofs.Common.{◌≡◌}
use Rattle.guard_analysis.specs.OwnedFound.{taken_before}
use Rattle.guard_analysis.proofs.array_uses.check_takes.Given as goal

abbrev pub invariant-loop-place : goal.invariant-loop-place
invariant-loop-place l = l.outs ≡ taken_before l.fn.outs l.op l.stack l.place
