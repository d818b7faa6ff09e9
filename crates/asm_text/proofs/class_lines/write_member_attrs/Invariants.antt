use Rattle.std.{proofs.Common.{◌≡◌, ◌++◌, drop, string_bytes}, specs.List.flat_map}
use Rattle.asm_text.specs.{ClassLines.member_attr_lines, Lines.text_of}
use Rattle.asm_text.proofs.class_lines.write_member_attrs.Given as goal

abbrev pub invariant-loop-attr : goal.invariant-loop-attr
invariant-loop-attr l = string_bytes l.text ++ text_of (flat_map member_attr_lines (drop l.attr-index l.attrs)) ≡ string_bytes l.fn.text ++ text_of (flat_map member_attr_lines l.attrs)
