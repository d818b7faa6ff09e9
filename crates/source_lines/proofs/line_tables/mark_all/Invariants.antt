use Rattle.std.proofs.Common.{◌≡◌, length}
use Rattle.source_lines.specs.{LineTables.marked, SourceLines.starts_in}
use Rattle.source_lines.proofs.line_tables.mark_all.Given as goal

abbrev pub invariant-loop-rest : goal.invariant-loop-rest
invariant-loop-rest l = marked (starts_in l.rest) l.lines ≡ marked (starts_in l.starts) l.fn.lines

abbrev pub decreases-loop-rest : goal.decreases-loop-rest
decreases-loop-rest l = length l.rest
