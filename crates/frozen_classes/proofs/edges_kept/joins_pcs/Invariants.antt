use Rattle.std.proofs.Common.{◌≡◌, drop}
use Rattle.frozen_classes.specs.KeptThis.{joins_all}
use Rattle.frozen_classes.proofs.edges_kept.joins_pcs.Given as goal

abbrev pub invariant-loop-pc : goal.invariant-loop-pc
invariant-loop-pc l = joins_all l.m l.t.frames l.places (drop l.pc-index l.pcs) ≡ joins_all l.m l.t.frames l.places l.pcs
