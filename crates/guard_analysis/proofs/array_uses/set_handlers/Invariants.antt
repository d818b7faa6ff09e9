use Rattle.std.proofs.Common.{◌≡◌, drop}
use Rattle.guard_analysis.specs.OwnedFound.{handlers_of, targets_set}
use Rattle.guard_analysis.proofs.array_uses.set_handlers.Given as goal

abbrev pub invariant-loop-handler : goal.invariant-loop-handler
invariant-loop-handler l = targets_set l.m.code l.flags (handlers_of (drop l.handler-index l.handler-items)) ≡ targets_set l.m.code l.fn.flags (handlers_of l.m.rows)
