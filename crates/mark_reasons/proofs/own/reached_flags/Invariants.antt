use Rattle.std.proofs.Common.{◌≡◌}
use Rattle.mark_reasons.specs.OwnFlags.{reached_before}
use Rattle.mark_reasons.proofs.own.reached_flags.Given as goal

abbrev pub invariant-loop-i : goal.invariant-loop-i
invariant-loop-i l = l.flags ≡ reached_before l.m l.t.frames l.i
