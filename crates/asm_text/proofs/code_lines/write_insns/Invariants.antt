use Rattle.std.proofs.Common.{◌≡◌, ◌++◌, drop, map, string_bytes}
use Rattle.asm_text.specs.{CodeLines.insn_line, Lines.text_of}
use Rattle.asm_text.proofs.code_lines.write_insns.Given as goal

abbrev pub invariant-loop-insn : goal.invariant-loop-insn
invariant-loop-insn l = string_bytes l.text ++ text_of (map (insn_line l.bytes) (drop l.insn-index l.insns)) ≡ string_bytes l.fn.text ++ text_of (map (insn_line l.bytes) l.insns)
