use Rattle.std.proofs.Common.{◌≡◌, ◌++◌, drop, map, string_bytes}
use Rattle.asm_text.specs.Lines.{Number, values_text}
use Rattle.asm_text.proofs.code_lines.write_targets.Given as goal

abbrev pub invariant-loop-to : goal.invariant-loop-to
invariant-loop-to l = string_bytes l.text ++ values_text (map Number (drop l.to-index l.targets)) ≡ string_bytes l.fn.text ++ values_text (map Number l.targets)
