use Rattle.std.proofs.Common.{◌≡◌, drop}
use Rattle.frozen_classes.specs.KeptThis.{catches_well}
use Rattle.frozen_classes.proofs.edges_kept.catches_well.Given as goal

abbrev pub invariant-loop-row : goal.invariant-loop-row
invariant-loop-row l = catches_well l.m l.t.frames l.places l.pc (drop l.row-index l.rows) ≡ catches_well l.m l.t.frames l.places l.pc l.rows
