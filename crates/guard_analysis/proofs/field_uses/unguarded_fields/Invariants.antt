use Rattle.std.proofs.Common.{◌≡◌}
use Rattle.guard_analysis.specs.FieldUses.{unguarded_before}
use Rattle.guard_analysis.proofs.field_uses.unguarded_fields.Given as goal

abbrev pub invariant-loop-u : goal.invariant-loop-u
invariant-loop-u l = l.flags ≡ unguarded_before l.p l.tags l.u
