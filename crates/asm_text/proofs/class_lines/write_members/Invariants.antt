use Rattle.std.{proofs.Common.{◌≡◌, ◌++◌, drop, string_bytes}, specs.List.flat_map}
use Rattle.asm_text.specs.{ClassLines.member_lines, Lines.text_of}
use Rattle.asm_text.proofs.class_lines.write_members.Given as goal

abbrev pub invariant-loop-member : goal.invariant-loop-member
invariant-loop-member l = string_bytes l.text ++ text_of (flat_map (member_lines l.kind) (drop l.member-index l.members)) ≡ string_bytes l.fn.text ++ text_of (flat_map (member_lines l.kind) l.members)
