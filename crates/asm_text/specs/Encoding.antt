-- The bytes of an instruction by its line: those that spell it at its pc, where some do (JVMS 6.5).
use Rattle.std.specs.Prelude.{ℕ, ◌/◌, ◌%◌, ℤ, pos, ◌-ℤ◌, Bool, true, not, List, [], ◌∷◌, ◌++◌}
use Rattle.std.specs.Prelude.{length, take, Option, Some, None, if◌then◌else◌}
use Rattle.std.specs.List.{flat_map}
use Rattle.std.specs.Int.{w64, cast_unsigned}
use Rattle.jvm_types.specs.Numbers.{u1, u2, u4}
use Rattle.jvm_types.specs.CodeGrammar.{padding_size}
use Rattle.asm_text.specs.Words.{small}
use Rattle.asm_text.specs.Operands.{is_target, shape_at}
use Rattle.asm_text.specs.declared.shapes.Shape.{Shape}
use Rattle.asm_text.specs.declared.shapes.Shape.TheVariants as shapes

-- the last bytes of a number by its two's complement
unfoldable pub low1 : ℤ → List ℕ
low1 n = u1 (cast_unsigned w64 n % 256)

unfoldable pub low2 : ℤ → List ℕ
low2 n = u2 (cast_unsigned w64 n % 65536)

unfoldable pub low4 : ℤ → List ℕ
low4 n = u4 (cast_unsigned w64 n % 4294967296)

-- the way from a pc to a target
abbrev pub way : ℕ → ℤ → ℤ
way pc to = (if is_target to then to else pos 0) -ℤ pos pc

abbrev pub zero_bytes : ℕ → List ℕ
zero_bytes n = take n (0 ∷ 0 ∷ 0 ∷ [])

-- the way to each target
abbrev pub ways : ℕ → List ℤ → List ℕ
ways pc targets = flat_map (λ to. low4 (way pc to)) targets

-- each key, and the way to its target
abbrev pub key_or_way : ℕ → Bool → ℤ → ℤ
key_or_way pc is_key n = if is_key then n else way pc n

abbrev pub pair_ways : ℕ → Bool → List ℤ → List ℕ
pair_ways pc is_key [] = []
pair_ways pc is_key (n ∷ ns) = low4 (key_or_way pc is_key n) ++ pair_ways pc (not is_key) ns

-- low, high, and the way to each target
abbrev pub bounds_bytes : ℕ → List ℤ → List ℕ
bounds_bytes pc [] = []
bounds_bytes pc (low ∷ []) = []
bounds_bytes pc (low ∷ high ∷ targets) = (low4 low ++ low4 high) ++ ways pc targets

-- the bytes behind an opcode
abbrev pub operand_bytes : ℕ → Shape → List ℤ → List ℕ
operand_bytes pc shapes.Byte (n ∷ []) = low1 n
operand_bytes pc shapes.Short (n ∷ []) = low2 n
operand_bytes pc shapes.SignedByte (n ∷ []) = low1 n
operand_bytes pc shapes.SignedShort (n ∷ []) = low2 n
operand_bytes pc shapes.Branch (to ∷ []) = low2 (way pc to)
operand_bytes pc shapes.WideBranch (to ∷ []) = low4 (way pc to)
operand_bytes pc shapes.LocalAndStep (local ∷ step ∷ []) = low1 local ++ low1 step
operand_bytes pc shapes.IntArray (number ∷ []) = low1 number
operand_bytes pc shapes.Table (otherwise ∷ bounds) =
    zero_bytes (padding_size pc) ++ (low4 (way pc otherwise) ++ bounds_bytes pc bounds)
operand_bytes pc shapes.Lookup (otherwise ∷ pairs) =
    zero_bytes (padding_size pc)
    ++
    (low4 (way pc otherwise) ++ (u4 (length pairs / 2 % 4294967296) ++ pair_ways pc true pairs))
operand_bytes pc shape operands = []

abbrev pub shape_bytes : ℕ → Option Shape → List ℤ → List ℕ
shape_bytes pc None operands = []
shape_bytes pc (Some shape) operands = operand_bytes pc shape operands

-- the instruction at the end of a code
abbrev pub encoded : List ℕ → ℕ → List ℤ → List ℕ
encoded code opcode operands =
    code ++ (opcode ∷ shape_bytes (small 65536 (length code)) (shape_at opcode) operands)
