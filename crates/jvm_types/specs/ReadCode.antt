-- The instructions read off the bytes of code, one after another (JVMS 6.5). Where the bytes are
-- code, they spell just these.
use Rattle.std.specs.Prelude.{ℕ, zero, suc, ◌+◌, pos, ◌-ℤ◌, ◌+ℤ◌, nat_abs, List, [], ◌∷◌, take}
use Rattle.std.specs.Prelude.{drop, map, Option, Some, Result, Ok}
use Rattle.std.specs.Int.{w8, w16, cast_signed, from_be_bytes}
use Rattle.jvm_types.specs.CodeTable.{Form, Plain, Byte, Short, SignedByte, SignedShort, Branch}
use Rattle.jvm_types.specs.CodeTable.{WideBranch, LocalAndStep, IntArray, Table, Lookup, form_of}
use Rattle.jvm_types.specs.CodeGrammar.{padding_size}
use Rattle.jvm_types.specs.CodeFault.{Extent, s2_of, s4_of, landing, offsets, known_extent}
use Rattle.jvm_types.specs.declared.code.Case.{Case}
use Rattle.jvm_types.specs.declared.code.Insn.{Insn}
use Rattle.jvm_types.specs.declared.code.Op.{Op}
use Rattle.jvm_types.specs.declared.code.Op.TheVariants.{Tableswitch, Lookupswitch}
use Rattle.jvm_types.specs.declared.refusal.KRule.{KRule}

-- the byte at the front
abbrev pub first : List ℕ → ℕ
first [] = 0
first (b ∷ bytes) = b

-- a `tableswitch` and a `lookupswitch`, behind their padding
abbrev pub table_op : ℕ → List ℕ → Op
table_op pc body = Tableswitch (nat_abs (landing pc (s4_of body))) (s4_of (drop 4 body))
    (map nat_abs
    (offsets pc (nat_abs (s4_of (drop 8 body) -ℤ s4_of (drop 4 body) +ℤ pos 1)) (drop 12 body)))

-- so many pairs of a key and an offset
abbrev pub cases_of : ℕ → ℕ → List ℕ → List Case
cases_of pc zero bytes = []
cases_of pc (suc n) bytes =
    record { key = s4_of bytes; target = nat_abs (landing pc (s4_of (drop 4 bytes))) }
    ∷ cases_of pc n (drop 8 bytes)

abbrev pub lookup_op : ℕ → List ℕ → Op
lookup_op pc body =
    Lookupswitch (nat_abs (landing pc (s4_of body)))
    (cases_of pc (nat_abs (s4_of (drop 4 body))) (drop 8 body))

-- what the bytes behind an opcode make of its form
abbrev pub op_of : ℕ → Form → List ℕ → Op
op_of pc (Plain op) rest = op
op_of pc (Byte make) rest = make (first rest)
op_of pc (Short make) rest = make (from_be_bytes w16 (take 2 rest))
op_of pc (SignedByte make) rest = make (cast_signed w8 (first rest))
op_of pc (SignedShort make) rest = make (s2_of rest)
op_of pc (Branch make) rest = make (nat_abs (landing pc (s2_of rest)))
op_of pc (WideBranch make) rest = make (nat_abs (landing pc (s4_of rest)))
op_of pc (LocalAndStep make) rest = make (first rest) (cast_signed w8 (first (drop 1 rest)))
op_of pc (IntArray op) rest = op
op_of pc Table rest = table_op pc (drop (padding_size pc) rest)
op_of pc Lookup rest = lookup_op pc (drop (padding_size pc) rest)

-- the instruction at a pc, and what follows its operands
abbrev pub with_insn : ℕ → Option Form → Result Extent KRule → List ℕ → (ℕ → List Insn) → List Insn
with_insn pc (Some f) (Ok e) rest more =
    record { pc = pc; next = pc + 1 + e.size; op = op_of pc f rest } ∷ more e.size
with_insn pc f e rest more = []

-- from a pc on, where the first few bytes still belong to the instruction before
abbrev pub insns_of : ℕ → ℕ → List ℕ → List Insn
insns_of skip pc [] = []
insns_of (suc skip) pc (b ∷ rest) = insns_of skip (pc + 1) rest
insns_of zero pc (b ∷ rest) =
    with_insn pc (form_of b) (known_extent pc (form_of b) rest) rest
    (λ size. insns_of size (pc + 1) rest)
