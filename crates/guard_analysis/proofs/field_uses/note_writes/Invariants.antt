use Rattle.std.proofs.Common.{◌≡◌}
use Rattle.guard_analysis.specs.FieldUses.{noted_before}
use Rattle.guard_analysis.proofs.field_uses.note_writes.Given as goal

abbrev pub invariant-loop-i : goal.invariant-loop-i
invariant-loop-i l = l.flags ≡ noted_before l.p l.m l.tags.frames l.fn.flags l.i
