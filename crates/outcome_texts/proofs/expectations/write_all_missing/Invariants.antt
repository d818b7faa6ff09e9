use Rattle.std.{proofs.Common.{◌≡◌, ◌++◌, drop}, specs.List.flat_map}
use Rattle.outcome_texts.specs.Expected.{missing_text}
use Rattle.outcome_texts.proofs.expectations.write_all_missing.Given as goal

abbrev pub invariant-loop-line : goal.invariant-loop-line
invariant-loop-line l =
    l.out.items ++ flat_map (missing_text l.form l.known) (drop l.line-index l.expected)
    ≡ l.fn.out.items ++ flat_map (missing_text l.form l.known) l.expected
