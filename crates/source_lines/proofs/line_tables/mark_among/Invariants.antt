use Rattle.std.proofs.Common.{◌≡◌, drop}
use Rattle.source_lines.specs.LineTables.{marked_among}
use Rattle.source_lines.proofs.line_tables.mark_among.Given as goal

abbrev pub invariant-loop-attr : goal.invariant-loop-attr
invariant-loop-attr l = marked_among l.pool (drop l.attr-index l.attrs) l.lines ≡ marked_among l.pool l.attrs l.fn.lines
