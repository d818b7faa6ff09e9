use Rattle.std.proofs.Common.{◌≡◌, drop}
use Rattle.refusal_places.specs.Roots.{wrong_root_from}
use Rattle.refusal_places.proofs.roots.wrong_root.Given as goal

abbrev pub invariant-loop-file : goal.invariant-loop-file
invariant-loop-file l = wrong_root_from l.file (drop l.file l.classes) ≡ wrong_root_from 0 l.classes
