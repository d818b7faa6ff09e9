-- What bytes are the code of a method, and which instructions they spell (JVMS 4.7.3, 4.9 and 6.5).
-- An instruction is spelled at its pc, since the padding of a switch hangs on it.
use Rattle.std.specs.Prelude.{◌≡◌, ℕ, ◌+◌, ◌-◌, ◌%◌, ◌<◌, ◌≤◌, ◌^◌, ℤ, pos, ◌+ℤ◌, ◌-ℤ◌, ◌<ℤ◌}
use Rattle.std.specs.Prelude.{FitsSigned, Bool, false, ◌==◌, ◌||◌, List, [], ◌∷◌, ◌++◌, length}
use Rattle.std.specs.Prelude.{IsSomeAnd, IsTrue, ◌⊎◌}
use Rattle.std.specs.List.{flat_map, AllByRecursion}
use Rattle.std.specs.Int.{w8, w16, w32, cast_unsigned}
use Rattle.jvm_types.specs.Numbers.{u1, u2, s4}
use Rattle.jvm_types.specs.CodeTable.{Form, Plain, Byte, Short, SignedByte, SignedShort, Branch}
use Rattle.jvm_types.specs.CodeTable.{WideBranch, LocalAndStep, IntArray, Table, Lookup, form_of}
use Rattle.jvm_types.specs.CodeTable.{branches_to}
use Rattle.jvm_types.specs.declared.class_file.Handler.{Handler}
use Rattle.jvm_types.specs.declared.code.Case.{Case}
use Rattle.jvm_types.specs.declared.code.Insn.{Insn}
use Rattle.jvm_types.specs.declared.code.Op.{Op}
use Rattle.jvm_types.specs.declared.code.Op.TheVariants.{Tableswitch, Lookupswitch}
use Rattle.jvm_types.specs.declared.limits.TheConstants.{MOST_CODE_BYTES}

-- ---- the operands of an instruction

abbrev pub s1 : ℤ → List ℕ
s1 n = u1 (cast_unsigned w8 n)

abbrev pub s2 : ℤ → List ℕ
s2 n = u2 (cast_unsigned w16 n)

-- the way from an instruction to a pc
abbrev pub offset : ℕ → ℕ → ℤ
offset pc to = pos to -ℤ pos pc

-- how many bytes pad a switch: what follows them stands at a pc that four divides
abbrev pub padding_size : ℕ → ℕ
padding_size pc = 3 - pc % 4

-- a `tableswitch` behind its padding, which may be of any bytes: default, low, high, then one
-- offset for each number from low to high. The standard asks for padding of zeros; this machine
-- reads any.
pub record SpellsTable (pc : ℕ) (op : Op) (bytes : List ℕ) : Type 0 where
  pub padding : List ℕ
  pub otherwise : ℕ
  pub low : ℤ
  pub high : ℤ
  pub targets : List ℕ
  pub is : op ≡ Tableswitch otherwise low targets
  pub spelled : bytes
      ≡ padding
      ++ (s4 (offset pc otherwise) ++ s4 low ++ s4 high
      ++ flat_map (λ to. s4 (offset pc to)) targets)
  pub padded : length padding ≡ padding_size pc
  pub counted : pos (length targets) ≡ high -ℤ low +ℤ pos 1
  pub some : 0 < length targets
  pub low_fits : FitsSigned w32 low
  pub high_fits : FitsSigned w32 high
  pub default_fits : FitsSigned w32 (offset pc otherwise)
  pub offsets_fit : AllByRecursion (λ to. FitsSigned w32 (offset pc to)) targets

-- the keys of a `lookupswitch` ascend
abbrev pub KeysAscend : List Case → Type 0
KeysAscend [] = Unit {0}
KeysAscend (c ∷ []) = Unit {0}
KeysAscend (c ∷ d ∷ cases) = (c.key <ℤ d.key) × KeysAscend (d ∷ cases)

-- one pair: a key, and the offset that goes with it
abbrev pub spelled_case : ℕ → Case → List ℕ
spelled_case pc c = s4 c.key ++ s4 (offset pc c.target)

-- a `lookupswitch` behind its padding: default, the number of pairs, then the pairs
pub record SpellsLookup (pc : ℕ) (op : Op) (bytes : List ℕ) : Type 0 where
  pub padding : List ℕ
  pub otherwise : ℕ
  pub cases : List Case
  pub is : op ≡ Lookupswitch otherwise cases
  pub spelled : bytes
      ≡ padding
      ++ (s4 (offset pc otherwise) ++ s4 (pos (length cases)) ++ flat_map (spelled_case pc) cases)
  pub padded : length padding ≡ padding_size pc
  pub count_fits : length cases < 2 ^ 31
  pub ascending : KeysAscend cases
  pub default_fits : FitsSigned w32 (offset pc otherwise)
  pub cases_fit : AllByRecursion (λ c. FitsSigned w32 c.key × FitsSigned w32 (offset pc c.target))
      cases

-- the bytes behind an opcode, by the form of its operands
abbrev pub SpellsOperands : ℕ → Form → Op → List ℕ → Type 0
SpellsOperands pc (Plain plain) op bytes = (op ≡ plain) × (bytes ≡ [])
SpellsOperands pc (Byte make) op bytes = (n : ℕ) × (op ≡ make n) × (bytes ≡ u1 n) × (n < 2 ^ 8)
SpellsOperands pc (Short make) op bytes = (n : ℕ) × (op ≡ make n) × (bytes ≡ u2 n) × (n < 2 ^ 16)
SpellsOperands pc (SignedByte make) op bytes =
    (n : ℤ) × (op ≡ make n) × (bytes ≡ s1 n) × FitsSigned w8 n
SpellsOperands pc (SignedShort make) op bytes =
    (n : ℤ) × (op ≡ make n) × (bytes ≡ s2 n) × FitsSigned w16 n
SpellsOperands pc (Branch make) op bytes =
    (to : ℕ) × (op ≡ make to) × (bytes ≡ s2 (offset pc to)) × FitsSigned w16 (offset pc to)
SpellsOperands pc (WideBranch make) op bytes =
    (to : ℕ) × (op ≡ make to) × (bytes ≡ s4 (offset pc to)) × FitsSigned w32 (offset pc to)
SpellsOperands pc (LocalAndStep make) op bytes =
    (i : ℕ) × (n : ℤ) × (op ≡ make i n) × (bytes ≡ u1 i ++ s1 n) × (i < 2 ^ 8) × FitsSigned w8 n
SpellsOperands pc (IntArray array) op bytes = (op ≡ array) × (bytes ≡ u1 10)
SpellsOperands pc Table op bytes = SpellsTable pc op bytes
SpellsOperands pc Lookup op bytes = SpellsLookup pc op bytes

-- ---- instructions

-- the bytes of one instruction: an opcode of the table, then its operands
pub record SpellsOp (pc : ℕ) (op : Op) (bytes : List ℕ) : Type 0 where
  pub opcode : ℕ
  pub operands : List ℕ
  pub is : bytes ≡ opcode ∷ operands
  pub spelled : IsSomeAnd (form_of opcode) (λ f. SpellsOperands pc f op operands)

-- the bytes of instructions that follow one another from a pc on
abbrev pub SpellsInsns : ℕ → List Insn → List ℕ → Type 0
SpellsInsns pc [] bytes = bytes ≡ []
SpellsInsns pc (insn ∷ insns) bytes =
    (front : List ℕ) × (rest : List ℕ) × (bytes ≡ front ++ rest) × (insn.pc ≡ pc)
    × (insn.next ≡ pc + length front) × SpellsOp pc insn.op front
    × SpellsInsns insn.next insns rest

-- whether an instruction begins at a pc
abbrev pub is_start : List Insn → ℕ → Bool
is_start [] pc = false
is_start (insn ∷ insns) pc = insn.pc == pc || is_start insns pc

abbrev pub IsStart : List Insn → ℕ → Type 0
IsStart insns pc = IsTrue (is_start insns pc)

-- a row of the exception table: its end may also be the end of the code (JVMS 4.7.3)
pub record RowFits (insns : List Insn) (size : ℕ) (h : Handler) : Type 0 where
  pub ordered : h.start < h.end
  pub start : IsStart insns h.start
  pub end : IsStart insns h.end ⊎ (h.end ≡ size)
  pub handler : IsStart insns h.handler

-- the bytes are the code of these instructions, and the rows are handler rows of it
pub record IsCode (bytes : List ℕ) (rows : List Handler) (insns : List Insn) : Type 0 where
  pub some : 0 < length bytes
  pub short : length bytes ≤ MOST_CODE_BYTES
  pub spelled : SpellsInsns 0 insns bytes
  pub targets : AllByRecursion (λ insn. AllByRecursion (IsStart insns) (branches_to insn.op)) insns
  pub rows_fit : AllByRecursion (RowFits insns (length bytes)) rows
