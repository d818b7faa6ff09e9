use Rattle.std.proofs.Common.{◌≡◌, ◌++◌, drop, map, string_bytes}
use Rattle.asm_text.specs.Lines.{Signed, values_text}
use Rattle.asm_text.proofs.item_writing.write_operands.Given as goal

abbrev pub invariant-loop-operand : goal.invariant-loop-operand
invariant-loop-operand l = string_bytes l.text ++ values_text (map Signed (drop l.operand-index l.operands)) ≡ string_bytes l.fn.text ++ values_text (map Signed l.operands)
