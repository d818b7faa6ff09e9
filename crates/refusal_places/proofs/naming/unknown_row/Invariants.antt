use Rattle.std.{proofs.Common.{◌≡◌, drop}, specs.List.find}
use Rattle.refusal_places.specs.Naming.{catches_unknown}
use Rattle.refusal_places.proofs.naming.unknown_row.Given as goal

abbrev pub invariant-loop-row : goal.invariant-loop-row
invariant-loop-row l = find (catches_unknown l.classes l.pool l.pc) (drop l.row-index l.rows) ≡ find (catches_unknown l.classes l.pool l.pc) l.rows
