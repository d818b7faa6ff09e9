-- What the definitions of code say of small codes, by computing.
use Rattle.std.proofs.Common.{◌≡◌, [], ◌∷◌, ◌++◌, ◌==◌, Option, Some, None, refl, ℕ, pos, List, filter, is_some, not, zero, suc}
use Rattle.jvm_types.specs.CodeTable.{form_of, first_row, move_opcode, opcode, Form, FormRows, Plain, Byte, Short, SignedByte, SignedShort, Branch, WideBranch, LocalAndStep, IntArray, Table, Lookup, constants, loads, stores, stack_moves, arithmetic, control, references}
use Rattle.jvm_types.specs.{CodeFault.code_fault, declared.code.Op.TheVariants.{Stack, Tableswitch, Lookupswitch}, declared.refusal.KRule.TheVariants.{K1, K2, K3, K4, K5, K6}}
use Rattle.jvm_types.specs.declared.stack_move.StackMove.{StackMove}
use Rattle.jvm_types.specs.declared.stack_move.StackMove.TheVariants as moves

no_bytes : code_fault [] [] ≡ Some (K5, 0)
no_bytes = refl

unknown_before_cut : code_fault (0xc4 ∷ 0x15 ∷ 0 ∷ 0 ∷ 0xb1 ∷ []) [] ≡ Some (K1, 0)
unknown_before_cut = refl

cut_operand : code_fault (0x10 ∷ []) [] ≡ Some (K2, 0)
cut_operand = refl

into_an_operand : code_fault (0xa7 ∷ 0 ∷ 1 ∷ 0xb1 ∷ []) [] ≡ Some (K3, 0)
into_an_operand = refl

-- `goto -1` leads below 0
below_zero : code_fault (0xa7 ∷ 0xff ∷ 0xff ∷ 0xb1 ∷ []) [] ≡ Some (K3, 0)
below_zero = refl

empty_row : code_fault (0 ∷ 0xb1 ∷ []) (record { start = 0; end = 0; handler = 1; catch_type = 0 } ∷ []) ≡ Some (K4, 0)
empty_row = refl

to_the_end : code_fault (0 ∷ 0xb1 ∷ []) (record { start = 0; end = 2; handler = 1; catch_type = 0 } ∷ []) ≡ None
to_the_end = refl

past_the_end : code_fault (0 ∷ 0xb1 ∷ []) (record { start = 0; end = 2; handler = 1; catch_type = 0 } ∷ record { start = 0; end = 3; handler = 1; catch_type = 0 } ∷ []) ≡ Some (K4, 1)
past_the_end = refl

low_above_high : code_fault (3 ∷ 0xaa ∷ 0 ∷ 0 ∷ 0 ∷ 0 ∷ 0 ∷ 0x0f ∷ 0 ∷ 0 ∷ 0 ∷ 1 ∷ 0 ∷ 0 ∷ 0 ∷ 0 ∷ 0xb1 ∷ []) [] ≡ Some (K6, 1)
low_above_high = refl

-- `tableswitch` at 1 from 0 to 0, whose two offsets lead to the return at 20
one_number : code_fault (3 ∷ 0xaa ∷ 7 ∷ 7 ∷ 0 ∷ 0 ∷ 0 ∷ 0x13 ∷ 0 ∷ 0 ∷ 0 ∷ 0 ∷ 0 ∷ 0 ∷ 0 ∷ 0 ∷ 0 ∷ 0 ∷ 0 ∷ 0x13 ∷ 0xb1 ∷ []) [] ≡ None
one_number = refl

-- the table of the same switch is cut
cut_table : code_fault (3 ∷ 0xaa ∷ 7 ∷ 7 ∷ 0 ∷ 0 ∷ 0 ∷ 0x13 ∷ 0 ∷ 0 ∷ 0 ∷ 0 ∷ 0 ∷ 0 ∷ 0 ∷ 0 ∷ 0 ∷ 0 ∷ 0 ∷ []) [] ≡ Some (K2, 1)
cut_table = refl

-- `lookupswitch` at 0 with two pairs of the keys 5 and 5, whole and cut
twice_the_key : code_fault (0xab ∷ 0 ∷ 0 ∷ 0 ∷ 0 ∷ 0 ∷ 0 ∷ 0x1c ∷ 0 ∷ 0 ∷ 0 ∷ 2 ∷ 0 ∷ 0 ∷ 0 ∷ 5 ∷ 0 ∷ 0 ∷ 0 ∷ 0x1c ∷ 0 ∷ 0 ∷ 0 ∷ 5 ∷ 0 ∷ 0 ∷ 0 ∷ 0x1c ∷ 0xb1 ∷ []) [] ≡ Some (K6, 0)
twice_the_key = refl

cut_pairs : code_fault (0xab ∷ 0 ∷ 0 ∷ 0 ∷ 0 ∷ 0 ∷ 0 ∷ 0x1c ∷ 0 ∷ 0 ∷ 0 ∷ 2 ∷ 0 ∷ 0 ∷ 0 ∷ 5 ∷ 0 ∷ 0 ∷ 0 ∷ 0x1c ∷ 0 ∷ 0 ∷ 0 ∷ 5 ∷ []) [] ≡ Some (K2, 0)
cut_pairs = refl

-- the keys -1 and 5
ascending : code_fault (0xab ∷ 0 ∷ 0 ∷ 0 ∷ 0 ∷ 0 ∷ 0 ∷ 0x1c ∷ 0 ∷ 0 ∷ 0 ∷ 2 ∷ 0xff ∷ 0xff ∷ 0xff ∷ 0xff ∷ 0 ∷ 0 ∷ 0 ∷ 0x1c ∷ 0 ∷ 0 ∷ 0 ∷ 5 ∷ 0 ∷ 0 ∷ 0 ∷ 0x1c ∷ 0xb1 ∷ []) [] ≡ None
ascending = refl

array_of_bytes : code_fault (3 ∷ 0xbc ∷ 8 ∷ 0xb1 ∷ []) [] ≡ Some (K1, 1)
array_of_bytes = refl

-- the addition that is printed: getstatic, iconst_2, iconst_3, iadd, invokevirtual, return
prints_a_sum : code_fault (0xb2 ∷ 0 ∷ 0x0d ∷ 5 ∷ 6 ∷ 0x60 ∷ 0xb6 ∷ 0 ∷ 0x13 ∷ 0xb1 ∷ []) [] ≡ None
prints_a_sum = refl

-- a block on `this` in the shape of javac, with its two rows
block : code_fault
    (0x2a ∷ 0x59 ∷ 0x4c ∷ 0xc2 ∷ 0x2a ∷ 0xb4 ∷ 0 ∷ 0x16 ∷ 0x2a ∷ 0xb4 ∷ 0 ∷ 0x18 ∷ 0x60 ∷ 0x2b ∷ 0xc3 ∷ 0xac ∷ 0x4d ∷ 0x2b ∷ 0xc3 ∷ 0x2c ∷ 0xbf ∷ [])
    (record { start = 4; end = 15; handler = 16; catch_type = 0 } ∷ record { start = 16; end = 19; handler = 16; catch_type = 0 } ∷ [])
    ≡ None
block = refl

-- ---- the opcodes of the table

abbrev below : ℕ → List ℕ → List ℕ
below zero bs = bs
below (suc n) bs = below n (n ∷ bs)

abbrev known : List ℕ
known = filter (λ b. is_some (form_of b)) (below 256 [])

abbrev groups : ℕ → FormRows
groups b =
    constants b ++ (loads b ++ (stores b ++ (stack_moves b ++ (arithmetic b ++ (control b ++ references b)))))

-- each row is found, whatever group it stands in
in_groups : known ≡ filter (λ b. is_some (first_row (groups b))) (below 256 [])
in_groups = refl

-- and each move of the stack
each_move : (move : StackMove) → first_row (stack_moves (move_opcode move)) ≡ Some (Plain (Stack move))
each_move moves.Pop = refl
each_move move = refl

-- the opcode of what a form makes
abbrev of_form : Option Form → ℕ
of_form None = 256
of_form (Some (Plain op)) = opcode op
of_form (Some (Byte make)) = opcode (make 0)
of_form (Some (Short make)) = opcode (make 0)
of_form (Some (SignedByte make)) = opcode (make (pos 0))
of_form (Some (SignedShort make)) = opcode (make (pos 0))
of_form (Some (Branch make)) = opcode (make 0)
of_form (Some (WideBranch make)) = opcode (make 0)
of_form (Some (LocalAndStep make)) = opcode (make 0 (pos 0))
of_form (Some (IntArray op)) = opcode op
of_form (Some Table) = opcode (Tableswitch 0 (pos 0) [])
of_form (Some Lookup) = opcode (Lookupswitch 0 [])

-- an instruction has the opcode at which the table makes it, but for those that name their local
opcodes : filter (λ b. not (of_form (form_of b) == b)) known ≡
    0x1a ∷ 0x1b ∷ 0x1c ∷ 0x1d ∷ 0x2a ∷ 0x2b ∷ 0x2c ∷ 0x2d
    ∷ 0x3b ∷ 0x3c ∷ 0x3d ∷ 0x3e ∷ 0x4b ∷ 0x4c ∷ 0x4d ∷ 0x4e ∷ []
opcodes = refl
