use Rattle.std.{proofs.Common.{◌≡◌, ◌++◌, drop, string_bytes}, specs.List.flat_map}
use Rattle.asm_text.specs.Lines.{hex_byte}
use Rattle.asm_text.proofs.lines.write_hex_bytes.Given as goal

abbrev pub invariant-loop-byte : goal.invariant-loop-byte
invariant-loop-byte l = string_bytes l.text ++ flat_map hex_byte (drop l.byte-index l.bytes) ≡ string_bytes l.fn.text ++ flat_map hex_byte l.bytes
