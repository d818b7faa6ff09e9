use Rattle.std.proofs.Common.{◌≡◌, drop}
use Rattle.jvm_types.specs.Types.{same_type, all_pairs, meets}
use Rattle.code_verifier.proofs.type_lists.locals_stay.Given as goal

abbrev pub invariant-loop-i : goal.invariant-loop-i
invariant-loop-i l = all_pairs same_type (drop l.i l.types) (meets (drop l.i l.types) (drop l.i l.other.locals)) ≡ all_pairs same_type l.types (meets l.types l.other.locals)
