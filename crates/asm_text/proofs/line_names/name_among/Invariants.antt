use Rattle.std.proofs.Common.{◌≡◌, drop}
use Rattle.asm_text.specs.LineNames.{name_among}
use Rattle.asm_text.proofs.line_names.name_among.Given as goal

abbrev pub invariant-loop-name : goal.invariant-loop-name
invariant-loop-name l = name_among (drop l.name-index l.names) l.text ≡ name_among l.names l.text
