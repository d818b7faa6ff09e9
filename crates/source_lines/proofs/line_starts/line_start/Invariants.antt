use Rattle.std.proofs.Common.{◌≡◌, drop, None}
use Rattle.source_lines.specs.SourceLines.{latest_among}
use Rattle.source_lines.proofs.line_starts.line_start.Given as goal

abbrev pub invariant-loop-attr : goal.invariant-loop-attr
invariant-loop-attr l = latest_among l.pool l.pc l.found (drop l.attr-index l.attrs) ≡ latest_among l.pool l.pc None l.attrs
