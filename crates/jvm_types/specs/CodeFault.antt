-- Why bytes are no code: the first rule that they break, and where. K5 goes first; then K1, K2 and
-- K6 in one pass by pc; then K3 by pc; then K4 by rows. The rules are those of JVMS 4.9.1 and
-- 4.9.2, cut to this machine's table; their order and numbers are its own.
use Rattle.std.specs.Prelude.{◌≡◌, ◌<◌, ◌^◌, ℕ, zero, suc, ◌+◌, ◌*◌, ℤ, pos, ◌+ℤ◌, ◌-ℤ◌, nat_abs}
use Rattle.std.specs.Prelude.{int_lt, Bool, true, not, ◌==◌, ◌||◌, ◌&&◌, nat_lt, if◌then◌else◌}
use Rattle.std.specs.Prelude.{List, [], ◌∷◌, length, map, take, drop, Option, Some, None, Result}
use Rattle.std.specs.Prelude.{Ok, Err}
use Rattle.std.specs.List.{AllByRecursion}
use Rattle.std.specs.Int.{w16, w32, cast_signed, from_be_bytes}
use Rattle.jvm_types.specs.Numbers.{has_number}
use Rattle.jvm_types.specs.CodeTable.{Form, Plain, Byte, Short, SignedByte, SignedShort, Branch}
use Rattle.jvm_types.specs.CodeTable.{WideBranch, LocalAndStep, IntArray, Table, Lookup, form_of}
use Rattle.jvm_types.specs.CodeGrammar.{padding_size, IsCode}
use Rattle.jvm_types.specs.declared.class_file.Handler.{Handler}
use Rattle.jvm_types.specs.declared.code.Insn.{Insn}
use Rattle.jvm_types.specs.declared.refusal.KRule.{KRule}
use Rattle.jvm_types.specs.declared.refusal.KRule.TheVariants.{K1, K2, K3, K4, K5, K6}
use Rattle.jvm_types.specs.declared.limits.TheConstants.{MOST_CODE_BYTES}

-- ---- one instruction

-- what is known of an instruction before its targets are looked at: how many bytes its operands
-- have, and the pcs that its branches lead to, which may lie outside the code
pub record Extent : Type 0 where
  pub size : ℕ
  pub targets : List ℤ

-- the signed number of the two or four bytes at the front
abbrev pub s2_of : List ℕ → ℤ
s2_of bytes = cast_signed w16 (from_be_bytes w16 (take 2 bytes))

abbrev pub s4_of : List ℕ → ℤ
s4_of bytes = cast_signed w32 (from_be_bytes w32 (take 4 bytes))

-- where an offset leads from a pc
abbrev pub landing : ℕ → ℤ → ℤ
landing pc way = pos pc +ℤ way

-- operands of so many bytes
abbrev pub sized : ℕ → List ℤ → List ℕ → Result Extent KRule
sized n targets rest =
    if nat_lt (length rest) n then Err K2 else Ok (record { size = n; targets = targets })

-- the targets of so many offsets, and of those in so many pairs of a key and an offset
abbrev pub offsets : ℕ → ℕ → List ℕ → List ℤ
offsets pc zero bytes = []
offsets pc (suc n) bytes = landing pc (s4_of bytes) ∷ offsets pc n (drop 4 bytes)

abbrev pub case_offsets : ℕ → ℕ → List ℕ → List ℤ
case_offsets pc zero bytes = []
case_offsets pc (suc n) bytes = landing pc (s4_of (drop 4 bytes)) ∷ case_offsets pc n (drop 8 bytes)

-- whether the keys of so many pairs ascend
abbrev pub ascend : ℕ → List ℕ → Bool
ascend zero bytes = true
ascend (suc zero) bytes = true
ascend (suc (suc n)) bytes =
    int_lt (s4_of bytes) (s4_of (drop 8 bytes)) && ascend (suc n) (drop 8 bytes)

-- a `newarray` of int
abbrev pub array_extent : List ℕ → Result Extent KRule
array_extent [] = Err K2
array_extent (type ∷ rest) = if type == 10 then Ok (record { size = 1; targets = [] }) else Err K1

-- a `tableswitch` from its default on, behind so many bytes of padding: K6 as soon as low and high
-- are there
abbrev pub table_of : ℕ → ℕ → ℕ → List ℕ → Result Extent KRule
table_of pc pad n body =
    if nat_lt (length body) (12 + 4 * n) then Err K2 else
    Ok (record {
      size = pad + (12 + 4 * n);
      targets = landing pc (s4_of body) ∷ offsets pc n (drop 12 body);
    })

abbrev pub table_extent : ℕ → ℕ → List ℕ → Result Extent KRule
table_extent pc pad body =
    if nat_lt (length body) 12 then Err K2 else
    if int_lt (s4_of (drop 8 body)) (s4_of (drop 4 body)) then Err K6 else
    table_of pc pad (nat_abs (s4_of (drop 8 body) -ℤ s4_of (drop 4 body) +ℤ pos 1)) body

-- a `lookupswitch`, likewise: K6 as soon as the number of pairs is there and negative, and K2
-- before keys that do not ascend
abbrev pub lookup_of : ℕ → ℕ → ℕ → List ℕ → Result Extent KRule
lookup_of pc pad n body =
    if nat_lt (length body) (8 + 8 * n) then Err K2 else
    if not (ascend n (drop 8 body)) then Err K6 else
    Ok (record {
      size = pad + (8 + 8 * n);
      targets = landing pc (s4_of body) ∷ case_offsets pc n (drop 8 body);
    })

abbrev pub lookup_extent : ℕ → ℕ → List ℕ → Result Extent KRule
lookup_extent pc pad body =
    if nat_lt (length body) 8 then Err K2 else
    if int_lt (s4_of (drop 4 body)) (pos 0) then Err K6 else
    lookup_of pc pad (nat_abs (s4_of (drop 4 body))) body

-- the instruction at a pc, by the form of its operands and the bytes behind its opcode
abbrev pub extent_of : ℕ → Form → List ℕ → Result Extent KRule
extent_of pc (Plain op) rest = Ok (record { size = 0; targets = [] })
extent_of pc (Byte make) rest = sized 1 [] rest
extent_of pc (Short make) rest = sized 2 [] rest
extent_of pc (SignedByte make) rest = sized 1 [] rest
extent_of pc (SignedShort make) rest = sized 2 [] rest
extent_of pc (Branch make) rest = sized 2 (landing pc (s2_of rest) ∷ []) rest
extent_of pc (WideBranch make) rest = sized 4 (landing pc (s4_of rest) ∷ []) rest
extent_of pc (LocalAndStep make) rest = sized 2 [] rest
extent_of pc (IntArray op) rest = array_extent rest
extent_of pc Table rest = table_extent pc (padding_size pc) (drop (padding_size pc) rest)
extent_of pc Lookup rest = lookup_extent pc (padding_size pc) (drop (padding_size pc) rest)

-- the instruction at a pc, by what its opcode is in the table
abbrev pub known_extent : ℕ → Option Form → List ℕ → Result Extent KRule
known_extent pc None rest = Err K1
known_extent pc (Some f) rest = extent_of pc f rest

-- ---- all instructions

-- an instruction's pc, and the pcs that its branches lead to
pub record Outline : Type 0 where
  pub pc : ℕ
  pub targets : List ℤ

abbrev pub outline_followed : Outline → Result (List Outline) (KRule × ℕ)
    → Result (List Outline) (KRule × ℕ)
outline_followed r (Ok others) = Ok (r ∷ others)
outline_followed r (Err fault) = Err fault

-- an instruction, and those that follow its operands
abbrev pub with_rest : ℕ → Result Extent KRule → (ℕ → Result (List Outline) (KRule × ℕ))
    → Result (List Outline) (KRule × ℕ)
with_rest pc (Err rule) more = Err (rule, pc)
with_rest pc (Ok e) more = outline_followed (record { pc = pc; targets = e.targets }) (more e.size)

-- the instructions of the bytes from a pc on, of which the first few still belong to the
-- instruction before; or the first of K1, K2 and K6
abbrev pub outlines : ℕ → ℕ → List ℕ → Result (List Outline) (KRule × ℕ)
outlines skip pc [] = Ok []
outlines (suc skip) pc (b ∷ rest) = outlines skip (pc + 1) rest
outlines zero pc (b ∷ rest) =
    with_rest pc (known_extent pc (form_of b) rest) (λ size. outlines size (pc + 1) rest)

-- whether a pc is one of these; none below 0 is
abbrev pub is_at : List ℕ → ℤ → Bool
is_at starts to = not (int_lt to (pos 0)) && has_number starts (nat_abs to)

abbrev pub all_at : List ℕ → List ℤ → Bool
all_at starts [] = true
all_at starts (to ∷ tos) = is_at starts to && all_at starts tos

-- K3: the first branch that leads to no start of an instruction
abbrev pub branch_fault : List ℕ → List Outline → Option (KRule × ℕ)
branch_fault starts [] = None
branch_fault starts (r ∷ rs) =
    if all_at starts r.targets then branch_fault starts rs else Some (K3, r.pc)

abbrev pub row_fits : List ℕ → ℕ → Handler → Bool
row_fits starts size h =
    nat_lt h.start h.end && has_number starts h.start && (has_number starts h.end || h.end == size)
    && has_number starts h.handler

-- K4: the first row, by its number
abbrev pub handler_fault : List ℕ → ℕ → ℕ → List Handler → Option (KRule × ℕ)
handler_fault starts size number [] = None
handler_fault starts size number (h ∷ hs) =
    if row_fits starts size h then handler_fault starts size (number + 1) hs else Some (K4, number)

abbrev pub or_else : {A : Type 0} → Option A → Option A → Option A
or_else (Some x) other = Some x
or_else None other = other

abbrev pub outline_fault : Result (List Outline) (KRule × ℕ) → ℕ → List Handler → Option (KRule × ℕ)
outline_fault (Err fault) size rows = Some fault
outline_fault (Ok rs) size rows = with_starts (map (λ r. r.pc) rs)
  where
    with_starts : List ℕ → Option (KRule × ℕ)
    with_starts starts = or_else (branch_fault starts rs) (handler_fault starts size 0 rows)

-- the first fault of the bytes and rows, with its pc or the number of its row; None where they are
-- code
abbrev pub code_fault : List ℕ → List Handler → Option (KRule × ℕ)
code_fault bytes rows =
    if length bytes == 0 || nat_lt MOST_CODE_BYTES (length bytes) then Some (K5, 0)
    else outline_fault (outlines 0 0 bytes) (length bytes) rows

-- ---- laws

-- code spells one list of instructions
abbrev pub SpellsOnce : Type 0
SpellsOnce =
    (bytes : List ℕ) (rows hs : List Handler) (insns others : List Insn) → IsCode bytes rows insns
    → IsCode bytes hs others → insns ≡ others

-- what is code breaks no rule
abbrev pub CodeIsFaultless : Type 0
CodeIsFaultless =
    (bytes : List ℕ) (rows : List Handler) (insns : List Insn) → IsCode bytes rows insns
    → code_fault bytes rows ≡ None

-- bytes that break no rule are code
abbrev pub FaultlessIsCode : Type 0
FaultlessIsCode =
    (bytes : List ℕ) (rows : List Handler) → AllByRecursion (λ b. b < 2 ^ 8) bytes
    → code_fault bytes rows ≡ None → (insns : List Insn) × IsCode bytes rows insns
