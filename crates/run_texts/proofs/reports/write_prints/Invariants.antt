use Rattle.std.{proofs.Common.{◌≡◌, ◌++◌, drop, string_bytes}, specs.List.flat_map}
use Rattle.run_texts.specs.Report.{print_line}
use Rattle.run_texts.proofs.reports.write_prints.Given as goal

abbrev pub invariant-loop-print : goal.invariant-loop-print
invariant-loop-print l = string_bytes l.text ++ flat_map print_line (drop l.print-index l.print-items) ≡ string_bytes l.fn.text ++ flat_map print_line l.print-items
