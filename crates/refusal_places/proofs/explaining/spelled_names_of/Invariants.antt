use Rattle.std.proofs.Common.{◌≡◌, take}
use Rattle.descriptors.specs.NameTables.{names_in}
use Rattle.refusal_places.specs.Explained.{spelled_names}
use Rattle.refusal_places.proofs.explaining.spelled_names_of.Given as goal

abbrev pub invariant-loop-class : goal.invariant-loop-class
invariant-loop-class l = names_in l.names ≡ spelled_names (take l.class-index l.classes)
