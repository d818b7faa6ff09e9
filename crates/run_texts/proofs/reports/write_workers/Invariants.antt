use Rattle.std.proofs.Common.{◌≡◌, ◌+◌, ◌++◌, drop, string_bytes}
use Rattle.run_texts.specs.Report.{thread_ends}
use Rattle.run_texts.proofs.reports.write_workers.Given as goal

abbrev pub invariant-loop-i : goal.invariant-loop-i
invariant-loop-i l = string_bytes l.text ++ thread_ends (l.i + 1) (drop l.i l.workers) ≡ string_bytes l.fn.text ++ thread_ends 1 l.workers
