use Rattle.std.proofs.Common.{◌≡◌, ◌++◌, drop, None}
use Rattle.source_lines.specs.LineTables.{carried}
use Rattle.source_lines.proofs.line_tables.carried.Given as goal

abbrev pub invariant-loop-start : goal.invariant-loop-start
invariant-loop-start l = l.lines ++ carried l.before (drop l.start-index l.starts) ≡ carried None l.starts
