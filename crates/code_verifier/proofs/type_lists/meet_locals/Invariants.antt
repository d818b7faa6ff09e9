use Rattle.std.proofs.Common.{◌≡◌, ◌++◌, not, take, drop, length, ◌||◌}
use Rattle.jvm_types.specs.Types.{same_type, all_pairs, meets}
use Rattle.code_verifier.proofs.type_lists.meet_locals.Given as goal

abbrev pub invariant-loop-i : goal.invariant-loop-i
invariant-loop-i l = record {
  met : take l.i l.locals ++ meets (drop l.i l.locals) (drop l.i l.other.locals) ≡ meets l.fn.locals l.other.locals;
  told : (l.changed || not (all_pairs same_type (drop l.i l.locals) (meets (drop l.i l.locals) (drop l.i l.other.locals)))) ≡ not (all_pairs same_type l.fn.locals (meets l.fn.locals l.other.locals));
  long : length l.locals ≡ length l.fn.locals;
}
