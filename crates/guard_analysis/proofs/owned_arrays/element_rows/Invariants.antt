use Rattle.std.proofs.Common.{◌≡◌}
use Rattle.guard_analysis.specs.OwnedFound.{element_rows_before}
use Rattle.guard_analysis.proofs.owned_arrays.element_rows.Given as goal

abbrev pub invariant-loop-u : goal.invariant-loop-u
invariant-loop-u l = l.rows ≡ element_rows_before l.p.methods l.owned l.reads l.u
