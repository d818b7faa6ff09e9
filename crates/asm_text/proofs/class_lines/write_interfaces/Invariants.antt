use Rattle.std.proofs.Common.{◌≡◌, ◌++◌, drop, map, string_bytes}
use Rattle.asm_text.specs.{ClassLines.interface_line, Lines.text_of}
use Rattle.asm_text.proofs.class_lines.write_interfaces.Given as goal

abbrev pub invariant-loop-interface : goal.invariant-loop-interface
invariant-loop-interface l = string_bytes l.text ++ text_of (map interface_line (drop l.interface-index l.interfaces)) ≡ string_bytes l.fn.text ++ text_of (map interface_line l.interfaces)
