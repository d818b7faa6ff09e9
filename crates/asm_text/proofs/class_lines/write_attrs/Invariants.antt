use Rattle.std.proofs.Common.{◌≡◌, ◌++◌, drop, map, string_bytes}
use Rattle.asm_text.specs.{ClassLines.attr_line, Lines.text_of}
use Rattle.asm_text.proofs.class_lines.write_attrs.Given as goal

abbrev pub invariant-loop-attr : goal.invariant-loop-attr
invariant-loop-attr l = string_bytes l.text ++ text_of (map attr_line (drop l.attr-index l.attrs)) ≡ string_bytes l.fn.text ++ text_of (map attr_line l.attrs)
