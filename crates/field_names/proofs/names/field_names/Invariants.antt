use Rattle.field_names.proofs.NamesSoFar.{AreNamed}
use Rattle.field_names.proofs.names.field_names.Given as goal

abbrev pub invariant-loop-file : goal.invariant-loop-file
invariant-loop-file l = AreNamed l.files l.file-index l.names
