use Rattle.std.proofs.Common.{◌≡◌}
use Rattle.mark_reasons.specs.OwnFlags.{flagged}
use Rattle.mark_reasons.proofs.own.flagged.Given as goal

abbrev pub invariant-loop-k : goal.invariant-loop-k
invariant-loop-k l = l.flags ≡ flagged l.own l.len l.k
