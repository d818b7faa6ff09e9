use Rattle.std.proofs.Common.{◌≡◌, length}
use Rattle.source_lines.specs.SourceLines.{latest_start, starts_in}
use Rattle.source_lines.proofs.line_starts.latest_in.Given as goal

abbrev pub invariant-loop-rest : goal.invariant-loop-rest
invariant-loop-rest l = latest_start l.pc l.found (starts_in l.rest) ≡ latest_start l.pc l.fn.before (starts_in l.starts)

abbrev pub decreases-loop-rest : goal.decreases-loop-rest
decreases-loop-rest l = length l.rest
