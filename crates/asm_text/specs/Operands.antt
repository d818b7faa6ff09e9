-- The operands of instructions as numbers, and their fields.
use Rattle.std.specs.Prelude.{ℕ, ℤ, pos, negsuc, int_lt, Bool, true, false, not, ◌&&◌, List, []}
use Rattle.std.specs.Prelude.{◌∷◌, Option}
use Rattle.std.specs.List.{list_all}
use Rattle.std.specs.Option.{option_map}
use Rattle.jvm_types.specs.CodeTable.{Form, Plain, Byte, Short, SignedByte, SignedShort, Branch}
use Rattle.jvm_types.specs.CodeTable.{WideBranch, LocalAndStep, IntArray, Table, Lookup, form_of}
use Rattle.asm_text.specs.declared.shapes.Shape.{Shape}
use Rattle.asm_text.specs.declared.shapes.Shape.TheVariants as shapes

-- what operands a form has
abbrev pub shape_of : Form → Shape
shape_of (Plain op) = shapes.Plain
shape_of (Byte make) = shapes.Byte
shape_of (Short make) = shapes.Short
shape_of (SignedByte make) = shapes.SignedByte
shape_of (SignedShort make) = shapes.SignedShort
shape_of (Branch make) = shapes.Branch
shape_of (WideBranch make) = shapes.WideBranch
shape_of (LocalAndStep make) = shapes.LocalAndStep
shape_of (IntArray op) = shapes.IntArray
shape_of Table = shapes.Table
shape_of Lookup = shapes.Lookup

-- None: the opcode is none of this machine
abbrev pub shape_at : ℕ → Option Shape
shape_at opcode = option_map shape_of (form_of opcode)

-- from a number on, and below another
abbrev pub is_between : ℤ → ℤ → ℤ → Bool
is_between low end n = not (int_lt n low) && int_lt n end

abbrev pub is_u1 : ℤ → Bool
is_u1 n = is_between (pos 0) (pos 256) n

abbrev pub is_u2 : ℤ → Bool
is_u2 n = is_between (pos 0) (pos 65536) n

abbrev pub is_s1 : ℤ → Bool
is_s1 n = is_between (negsuc 127) (pos 128) n

abbrev pub is_s2 : ℤ → Bool
is_s2 n = is_between (negsuc 32767) (pos 32768) n

abbrev pub is_s4 : ℤ → Bool
is_s4 n = is_between (negsuc 2147483647) (pos 2147483648) n

-- a target is a number of 32 bits, also of a branch whose offset has 16
abbrev pub is_target : ℤ → Bool
is_target n = is_between (pos 0) (pos 4294967296) n

-- keys, each with its target
abbrev pub are_pairs : List ℤ → Bool
are_pairs [] = true
are_pairs (key ∷ []) = false
are_pairs (key ∷ to ∷ pairs) = is_s4 key && is_target to && are_pairs pairs

-- low, high and the targets of a `tableswitch`
abbrev pub bounds_fit : List ℤ → Bool
bounds_fit [] = false
bounds_fit (low ∷ []) = false
bounds_fit (low ∷ high ∷ targets) = is_s4 low && is_s4 high && list_all is_target targets

-- so many operands as the shape has, each in its field; a switch may have any number of targets or
-- of pairs
abbrev pub operands_fit : Shape → List ℤ → Bool
operands_fit shapes.Plain [] = true
operands_fit shapes.Byte (n ∷ []) = is_u1 n
operands_fit shapes.Short (n ∷ []) = is_u2 n
operands_fit shapes.SignedByte (n ∷ []) = is_s1 n
operands_fit shapes.SignedShort (n ∷ []) = is_s2 n
operands_fit shapes.Branch (to ∷ []) = is_target to
operands_fit shapes.WideBranch (to ∷ []) = is_target to
operands_fit shapes.LocalAndStep (local ∷ step ∷ []) = is_u1 local && is_s1 step
operands_fit shapes.IntArray (number ∷ []) = is_u1 number
operands_fit shapes.Table (otherwise ∷ bounds) = is_target otherwise && bounds_fit bounds
operands_fit shapes.Lookup (otherwise ∷ pairs) = is_target otherwise && are_pairs pairs
operands_fit shape operands = false
