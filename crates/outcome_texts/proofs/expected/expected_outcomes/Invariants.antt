use Rattle.std.{proofs.Common.{◌≡◌, ◌++◌, drop}, specs.{List.flat_map, Option.option_to_list}}
use Rattle.outcome_texts.specs.Expected.{expected_words}
use Rattle.outcome_texts.proofs.expected.expected_outcomes.Given as goal

abbrev pub invariant-loop-line : goal.invariant-loop-line
invariant-loop-line l =
    l.rows ++ flat_map (λ line. option_to_list (expected_words line)) (drop l.line-index l.line-items)
    ≡ flat_map (λ line. option_to_list (expected_words line)) l.line-items
