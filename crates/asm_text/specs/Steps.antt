-- What the steps of listing answer.
use Rattle.std.specs.Prelude.{◌≡◌, ℕ, true, false, List, Option, Some, None}
use Rattle.jvm_types.specs.ReadCode.{insns_of}
use Rattle.jvm_types.specs.declared.code.Insn.{Insn}
use Rattle.asm_text.specs.CodeLines.{are_insns}

-- the instructions that are listed, or none where the bytes are
abbrev pub AreInsns : List ℕ → Option (List Insn) → Type 0
AreInsns bytes (Some insns) = (are_insns bytes ≡ true) × (insns ≡ insns_of 0 0 bytes)
AreInsns bytes None = are_insns bytes ≡ false
