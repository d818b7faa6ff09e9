use Rattle.std.proofs.Common.{◌≡◌, drop}
use Rattle.jvm_types.specs.Types.{same_type, all_pairs}
use Rattle.code_verifier.proofs.type_lists.same_types.Given as goal

abbrev pub invariant-loop-i : goal.invariant-loop-i
invariant-loop-i l = all_pairs same_type (drop l.i l.types) (drop l.i l.others) ≡ all_pairs same_type l.types l.others
