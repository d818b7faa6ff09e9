use Rattle.std.proofs.Common.{◌≡◌}
use Rattle.guard_analysis.specs.FieldUses.{uses_before}
use Rattle.guard_analysis.proofs.field_uses.all_uses.Given as goal

abbrev pub invariant-loop-field : goal.invariant-loop-field
invariant-loop-field l = l.uses ≡ uses_before l.p.fields l.frozen l.unguarded l.field
