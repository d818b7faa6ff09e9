-- Which codes are listed by their instructions.
use Rattle.std.{proofs.{Common.{◌≡◌, ℕ, ◌<◌, ◌^◌, Bool, false, List, [], map, Some, None, refl, subst, slice_index_or}, lemmas.List.append-nil}, specs.List.list_all}
use Rattle.jvm_types.{specs.{CodeFault.code_fault, CodeGrammar.IsCode, ReadCode.insns_of, declared.{code.Insn.Insn, refusal.KRule.KRule}}, proofs.{CodeExact.read_is_code, CodeLaws.faultless}}
use Rattle.jvm_types.proofs.CodeOnce.{once}
use Rattle.code_decode.proofs.Deciding.{are_bytes}
use Rattle.asm_text.specs.{CodeLines.{are_insns, bytes_line, code_lines, insn_line, is_padded}, Lines.{line_text, text_of}, Steps.AreInsns}

-- code has the instructions that are read off it
pub are_read : (bytes : List ℕ) (insns : List Insn) → ((i : ℕ) → slice_index_or bytes i 0 < 2 ^ 8) → IsCode bytes [] insns → insns ≡ insns_of 0 0 bytes
are_read bytes insns fit is = once bytes [] [] insns (insns_of 0 0 bytes) is (read_is_code bytes [] (are_bytes bytes fit) (faultless bytes [] insns is))

-- code is listed by its instructions where these are padded
pub by_padding : (bytes : List ℕ) (insns : List Insn) (b : Bool) → IsCode bytes [] insns → insns ≡ insns_of 0 0 bytes → list_all (λ (insn : Insn). is_padded bytes insn.pc insn.op) insns ≡ b → are_insns bytes ≡ b
unfolding are_insns
by_padding bytes insns b is read padded = rw (faultless bytes [] insns is) (subst (λ (x : List Insn). list_all (λ (insn : Insn). is_padded bytes insn.pc insn.op) x ≡ b) read padded)

-- what is no code is listed by its bytes
pub by_fault : (bytes : List ℕ) (rule : KRule) (at : ℕ) → code_fault bytes [] ≡ Some (rule, at) → are_insns bytes ≡ false
unfolding are_insns
by_fault bytes rule at e = rw e refl

-- the lines of a code, by what was found of it
pub insn_lines : (bytes : List ℕ) (insns : List Insn) → AreInsns bytes (Some insns) → code_lines bytes ≡ map (insn_line bytes) insns
unfolding code_lines
insn_lines bytes insns is = rw is.0 (rw is.1 refl)

pub bytes_text : (bytes : List ℕ) → AreInsns bytes None → text_of (code_lines bytes) ≡ line_text (bytes_line bytes)
unfolding code_lines
bytes_text bytes is = rw is (append-nil (line_text (bytes_line bytes)))
