use Rattle.std.{proofs.Common.{◌≡◌, ◌++◌, drop}, specs.List.flat_map}
use Rattle.run_trace.specs.ReportJson.{print_object}
use Rattle.run_trace.proofs.report_json.write_prints.Given as goal

-- the prints that are written, with those that are left, are all
abbrev pub invariant-loop-print : goal.invariant-loop-print
invariant-loop-print l = l.out.items ++ flat_map (print_object l.thread) (drop l.print-index l.prints) ≡ l.fn.out.items ++ flat_map (print_object l.thread) l.prints
