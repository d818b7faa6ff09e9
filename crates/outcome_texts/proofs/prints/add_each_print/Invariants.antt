use Rattle.std.{proofs.Common.{◌≡◌, ◌++◌, drop}, specs.List.flat_map}
use Rattle.outcome_texts.specs.OutcomeFacts.{plain_print_facts}
use Rattle.outcome_texts.proofs.prints.add_each_print.Given as goal

abbrev pub invariant-loop-x : goal.invariant-loop-x
invariant-loop-x l = l.facts ++ flat_map plain_print_facts (drop l.x-index l.prints) ≡ l.fn.facts ++ flat_map plain_print_facts l.prints
