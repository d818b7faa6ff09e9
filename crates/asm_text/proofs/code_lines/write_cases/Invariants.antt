use Rattle.std.{proofs.Common.{◌≡◌, ◌++◌, drop, string_bytes}, specs.List.flat_map}
use Rattle.asm_text.specs.{CodeLines.case_values, Lines.values_text}
use Rattle.asm_text.proofs.code_lines.write_cases.Given as goal

abbrev pub invariant-loop-case : goal.invariant-loop-case
invariant-loop-case l = string_bytes l.text ++ values_text (flat_map case_values (drop l.case-index l.cases)) ≡ string_bytes l.fn.text ++ values_text (flat_map case_values l.cases)
