use Rattle.std.proofs.Common.{◌≡◌, ◌++◌, drop, string_bytes}
use Rattle.run_texts.specs.Report.{counts_lines}
use Rattle.run_texts.proofs.reports.write_counts.Given as goal

abbrev pub invariant-loop-number : goal.invariant-loop-number
invariant-loop-number l = string_bytes l.text ++ counts_lines l.number (drop l.number l.threads) ≡ string_bytes l.fn.text ++ counts_lines 0 l.threads
