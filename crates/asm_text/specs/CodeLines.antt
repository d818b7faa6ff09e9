-- The lines of the code of a method: a line for each instruction, with its mnemonic (JVMS 6.5) and
-- its operands, where the instructions spell the bytes; else one line with the bytes.
use Rattle.std.specs.Prelude.{ℕ, zero, suc, ◌+◌, ℤ, pos, ◌+ℤ◌, ◌-ℤ◌, Bool, true, not, ◌==◌, ◌&&◌}
use Rattle.std.specs.Prelude.{◌||◌, List, [], ◌∷◌, length, map, codes, Option, Some, None, is_some}
use Rattle.std.specs.Prelude.{slice_index_or, if◌then◌else◌}
use Rattle.std.specs.Int.{is_in_range}
use Rattle.std.specs.List.{flat_map, list_all}
use Rattle.jvm_types.specs.CodeFault.{code_fault}
use Rattle.jvm_types.specs.CodeGrammar.{padding_size}
use Rattle.jvm_types.specs.ReadCode.{insns_of}
use Rattle.jvm_types.specs.declared.code.Case.{Case}
use Rattle.jvm_types.specs.declared.code.Insn.{Insn}
use Rattle.jvm_types.specs.declared.code.Op.{Op}
use Rattle.jvm_types.specs.declared.code.Op.TheVariants.{Bipush, Sipush, Ldc, LdcW, Iload, Aload}
use Rattle.jvm_types.specs.declared.code.Op.TheVariants.{Istore, Astore, Iinc, If, IfIcmp, IfAcmpeq}
use Rattle.jvm_types.specs.declared.code.Op.TheVariants.{IfAcmpne, Ifnull, Ifnonnull, Goto, GotoW}
use Rattle.jvm_types.specs.declared.code.Op.TheVariants.{Tableswitch, Lookupswitch, Getstatic}
use Rattle.jvm_types.specs.declared.code.Op.TheVariants.{Putstatic, Getfield, Putfield}
use Rattle.jvm_types.specs.declared.code.Op.TheVariants.{Invokevirtual, Invokespecial, Invokestatic}
use Rattle.jvm_types.specs.declared.code.Op.TheVariants.{New, Newarray}
use Rattle.mnemonics.specs.Mnemonics.{mnemonic}
use Rattle.asm_text.specs.Lines.{Value, Number, Signed, Hex, Line}

-- ---- one instruction

-- the number behind the last one of a switch's targets is low and so many
abbrev pub high_of : ℤ → List ℕ → ℤ
high_of low targets = low +ℤ pos (length targets) -ℤ pos 1

abbrev pub case_values : Case → List Value
case_values c = Signed c.key ∷ Number c.target ∷ []

-- A branch has the pc of its target. A switch has its default target first, then low, high and the
-- targets, or the pairs. `newarray` has the number of the type int.
abbrev pub operands : Op → List Value
operands (Bipush n) = Signed n ∷ []
operands (Sipush n) = Signed n ∷ []
operands (Ldc i) = Number i ∷ []
operands (LdcW i) = Number i ∷ []
operands (Iload i) = Number i ∷ []
operands (Aload i) = Number i ∷ []
operands (Istore i) = Number i ∷ []
operands (Astore i) = Number i ∷ []
operands (Iinc i n) = Number i ∷ Signed n ∷ []
operands (If c to) = Number to ∷ []
operands (IfIcmp c to) = Number to ∷ []
operands (IfAcmpeq to) = Number to ∷ []
operands (IfAcmpne to) = Number to ∷ []
operands (Ifnull to) = Number to ∷ []
operands (Ifnonnull to) = Number to ∷ []
operands (Goto to) = Number to ∷ []
operands (GotoW to) = Number to ∷ []
operands (Tableswitch otherwise low targets) =
    Number otherwise ∷ Signed low ∷ Signed (high_of low targets) ∷ map Number targets
operands (Lookupswitch otherwise cases) = Number otherwise ∷ flat_map case_values cases
operands (Getstatic i) = Number i ∷ []
operands (Putstatic i) = Number i ∷ []
operands (Getfield i) = Number i ∷ []
operands (Putfield i) = Number i ∷ []
operands (Invokevirtual i) = Number i ∷ []
operands (Invokespecial i) = Number i ∷ []
operands (Invokestatic i) = Number i ∷ []
operands (New i) = Number i ∷ []
operands Newarray = Number 10 ∷ []
operands op = []

-- the mnemonic names the local, as `iload_0` to `aload_3` and `istore_0` to `astore_3` do
abbrev pub names_local : ℕ → Bool
names_local opcode = is_in_range 0x1a 0x2d opcode || is_in_range 0x3b 0x4e opcode

abbrev pub values_of : ℕ → Op → List Value
values_of opcode op = if names_local opcode then [] else operands op

-- the empty name for an opcode of no instruction
abbrev pub name_or_empty : Option (List ℕ) → List ℕ
name_or_empty None = []
name_or_empty (Some name) = name

abbrev pub op_line : ℕ → Op → Line
op_line opcode op = record { name = name_or_empty (mnemonic opcode); values = values_of opcode op }

-- the instruction whose opcode is the byte at its pc
abbrev pub insn_line : List ℕ → Insn → Line
insn_line bytes insn = op_line (slice_index_or bytes insn.pc 0) insn.op

-- ---- padding

-- so many bytes from one on are 0
abbrev pub are_zeros : List ℕ → ℕ → ℕ → Bool
are_zeros bytes at zero = true
are_zeros bytes at (suc n) = (slice_index_or bytes at 0 == 0) && are_zeros bytes (at + 1) n

-- the bytes that pad a switch are 0
abbrev pub is_padded : List ℕ → ℕ → Op → Bool
is_padded bytes pc (Tableswitch otherwise low targets) = are_zeros bytes (pc + 1) (padding_size pc)
is_padded bytes pc (Lookupswitch otherwise cases) = are_zeros bytes (pc + 1) (padding_size pc)
is_padded bytes pc op = true

-- ---- the code

-- the bytes are code, also without handler rows, and only the one that the instructions spell
unfoldable pub are_insns : List ℕ → Bool
are_insns bytes =
    not (is_some (code_fault bytes []))
    && list_all (λ (insn : Insn). is_padded bytes insn.pc insn.op) (insns_of 0 0 bytes)

abbrev pub bytes_line : List ℕ → Line
bytes_line bytes = record { name = codes "bytes"; values = Hex bytes ∷ [] }

unfoldable pub code_lines : List ℕ → List Line
code_lines bytes =
    if are_insns bytes then map (insn_line bytes) (insns_of 0 0 bytes) else bytes_line bytes ∷ []
