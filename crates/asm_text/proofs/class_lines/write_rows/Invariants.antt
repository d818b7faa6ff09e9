use Rattle.std.proofs.Common.{◌≡◌, ◌++◌, drop, map, string_bytes}
use Rattle.asm_text.specs.{ClassLines.row_line, Lines.text_of}
use Rattle.asm_text.proofs.class_lines.write_rows.Given as goal

abbrev pub invariant-loop-row : goal.invariant-loop-row
invariant-loop-row l = string_bytes l.text ++ text_of (map row_line (drop l.row-index l.rows)) ≡ string_bytes l.fn.text ++ text_of (map row_line l.rows)
