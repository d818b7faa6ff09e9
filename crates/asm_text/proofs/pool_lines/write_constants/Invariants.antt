use Rattle.std.proofs.Common.{◌≡◌, ◌++◌, drop, map, string_bytes}
use Rattle.asm_text.specs.{ClassLines.constant_line, Lines.text_of}
use Rattle.asm_text.proofs.pool_lines.write_constants.Given as goal

abbrev pub invariant-loop-constant : goal.invariant-loop-constant
invariant-loop-constant l = string_bytes l.text ++ text_of (map constant_line (drop l.constant-index l.constants)) ≡ string_bytes l.fn.text ++ text_of (map constant_line l.constants)
