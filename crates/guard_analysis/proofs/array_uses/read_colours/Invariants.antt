use Rattle.std.proofs.Common.{◌≡◌}
use Rattle.guard_analysis.specs.OwnedFound.{read_colours_before}
use Rattle.guard_analysis.proofs.array_uses.read_colours.Given as goal

abbrev pub invariant-loop-i : goal.invariant-loop-i
invariant-loop-i l = l.colours ≡ read_colours_before l.m l.frames l.i
