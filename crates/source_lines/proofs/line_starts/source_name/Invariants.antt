use Rattle.std.proofs.Common.{◌≡◌, drop}
use Rattle.source_lines.specs.SourceLines.{source_name}
use Rattle.source_lines.proofs.line_starts.source_name.Given as goal

abbrev pub invariant-loop-attr : goal.invariant-loop-attr
invariant-loop-attr l = source_name l.pool (drop l.attr-index l.attrs) ≡ source_name l.pool l.attrs
