use Rattle.std.proofs.Common.{◌≡◌, ◌++◌, not, take, drop, length, ◌||◌}
use Rattle.jvm_types.specs.Types.{same_type, all_pairs, meets}
use Rattle.code_verifier.proofs.type_lists.meet_stacks.Given as goal

abbrev pub invariant-loop-place : goal.invariant-loop-place
invariant-loop-place l = record {
  met : take l.place l.stack ++ meets (drop l.place l.stack) (drop l.place l.others) ≡ meets l.fn.stack l.others;
  told : (l.changed || not (all_pairs same_type (drop l.place l.stack) (meets (drop l.place l.stack) (drop l.place l.others)))) ≡ not (all_pairs same_type l.fn.stack (meets l.fn.stack l.others));
  long : length l.stack ≡ length l.others;
}
