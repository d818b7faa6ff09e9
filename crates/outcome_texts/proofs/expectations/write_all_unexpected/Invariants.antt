use Rattle.std.proofs.Common.{◌≡◌, ◌||◌, ◌+◌, ◌++◌, drop}
use Rattle.outcome_texts.specs.Expected.{has_unexpected, unexpected_texts}
use Rattle.outcome_texts.proofs.expectations.write_all_unexpected.Given as goal

abbrev pub invariant-loop-i : goal.invariant-loop-i
invariant-loop-i l = record {
  text : l.out.items ++ unexpected_texts l.form l.expected (l.i + 1) (drop l.i l.known)
      ≡ l.fn.out.items ++ unexpected_texts l.form l.expected 1 l.known;
  some : (l.some || has_unexpected l.expected (drop l.i l.known)) ≡ has_unexpected l.expected l.known;
}
