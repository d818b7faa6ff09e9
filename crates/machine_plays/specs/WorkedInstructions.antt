-- Worked runs that go through the instructions, each beside its program: one that is not in them
-- yet gets its lines and its print here.
use Rattle.std.specs.Prelude.{ℕ, pos, negsuc, List, [], ◌∷◌, Some, None, codes}
use Rattle.jvm_types.specs.declared.code.Op.TheVariants as ops
use Rattle.jvm_types.specs.declared.stack_move.StackMove.TheVariants.{Dup2, DupX1, DupX2, Pop2}
use Rattle.jvm_types.specs.declared.stack_move.StackMove.TheVariants.{Swap}
use Rattle.jvm_types.specs.declared.outcome.End.TheVariants as ends
use Rattle.jvm_types.specs.declared.program.Kind.TheVariants as kinds
use Rattle.jvm_types.specs.declared.program.Target.TheVariants as targets
use Rattle.checked_program.specs.MarkedProgram.{MarkedProgram}
use Rattle.machine_plays.specs.Writing.{InstructionLine, plain_line, line_to, play_method, loaded}
use Rattle.machine_plays.specs.Writing.{usual, report, print_of, printed_by}
use Rattle.machine_plays.specs.WorkedAlone.{init_only}
use Rattle.machine_plays.specs.WorkedRuns.{Run, run, comes_to}

-- how many opcodes the table of instructions has (JVMS 6.5)
abbrev pub opcode_count : ℕ
opcode_count = 94

-- ---- ints

abbrev pub compute : List InstructionLine
compute =
    line_to 0 3 (ops.Getstatic 10) targets.Out
    ∷ line_to 3 5 (ops.Ldc 11) (targets.Value (negsuc 2147483647))
    ∷ plain_line 5 6 (ops.Iconst (negsuc 0)) ∷ plain_line 6 7 ops.Idiv
    ∷ line_to 7 10 (ops.Invokevirtual 17) targets.Println
    ∷ line_to 10 13 (ops.Getstatic 10) targets.Out
    ∷ line_to 13 15 (ops.Ldc 11) (targets.Value (negsuc 2147483647))
    ∷ plain_line 15 16 (ops.Iconst (negsuc 0)) ∷ plain_line 16 17 ops.Irem
    ∷ line_to 17 20 (ops.Invokevirtual 17) targets.Println
    ∷ line_to 20 23 (ops.Getstatic 10) targets.Out ∷ plain_line 23 25 (ops.Bipush (pos 7))
    ∷ plain_line 25 27 (ops.Bipush (negsuc 1)) ∷ plain_line 27 28 ops.Irem
    ∷ line_to 28 31 (ops.Invokevirtual 17) targets.Println
    ∷ line_to 31 34 (ops.Getstatic 10) targets.Out ∷ plain_line 34 35 (ops.Iconst (pos 1))
    ∷ plain_line 35 37 (ops.Bipush (pos 33)) ∷ plain_line 37 38 ops.Ishl
    ∷ line_to 38 41 (ops.Invokevirtual 17) targets.Println
    ∷ line_to 41 44 (ops.Getstatic 10) targets.Out
    ∷ line_to 44 46 (ops.Ldc 18) (targets.Value (pos 2147483647))
    ∷ plain_line 46 47 (ops.Iconst (pos 1)) ∷ plain_line 47 48 ops.Iadd
    ∷ line_to 48 51 (ops.Invokevirtual 17) targets.Println
    ∷ line_to 51 54 (ops.Getstatic 10) targets.Out ∷ plain_line 54 56 (ops.Bipush (negsuc 6))
    ∷ plain_line 56 57 (ops.Iconst (pos 2)) ∷ plain_line 57 58 ops.Irem
    ∷ line_to 58 61 (ops.Invokevirtual 17) targets.Println
    ∷ line_to 61 64 (ops.Getstatic 10) targets.Out ∷ plain_line 64 66 (ops.Bipush (negsuc 6))
    ∷ plain_line 66 67 (ops.Iconst (pos 2)) ∷ plain_line 67 68 ops.Idiv
    ∷ line_to 68 71 (ops.Invokevirtual 17) targets.Println
    ∷ line_to 71 74 (ops.Getstatic 10) targets.Out ∷ plain_line 74 76 (ops.Bipush (negsuc 0))
    ∷ plain_line 76 77 (ops.Iconst (pos 1)) ∷ plain_line 77 78 ops.Iushr
    ∷ line_to 78 81 (ops.Invokevirtual 17) targets.Println
    ∷ line_to 81 84 (ops.Getstatic 10) targets.Out ∷ plain_line 84 86 (ops.Bipush (negsuc 7))
    ∷ plain_line 86 87 (ops.Iconst (pos 1)) ∷ plain_line 87 88 ops.Ishr
    ∷ line_to 88 91 (ops.Invokevirtual 17) targets.Println
    ∷ line_to 91 94 (ops.Getstatic 10) targets.Out ∷ plain_line 94 97 (ops.Sipush (pos 200))
    ∷ plain_line 97 98 ops.I2b ∷ line_to 98 101 (ops.Invokevirtual 17) targets.Println
    ∷ line_to 101 104 (ops.Getstatic 10) targets.Out ∷ plain_line 104 105 (ops.Iconst (negsuc 0))
    ∷ plain_line 105 106 ops.I2c ∷ line_to 106 109 (ops.Invokevirtual 17) targets.Println
    ∷ line_to 109 112 (ops.Getstatic 10) targets.Out
    ∷ line_to 112 114 (ops.Ldc 19) (targets.Value (pos 40000)) ∷ plain_line 114 115 ops.I2s
    ∷ line_to 115 118 (ops.Invokevirtual 17) targets.Println
    ∷ line_to 118 121 (ops.Getstatic 10) targets.Out
    ∷ line_to 121 123 (ops.Ldc 11) (targets.Value (negsuc 2147483647))
    ∷ plain_line 123 124 ops.Ineg ∷ line_to 124 127 (ops.Invokevirtual 17) targets.Println
    ∷ line_to 127 130 (ops.Getstatic 10) targets.Out
    ∷ line_to 130 132 (ops.Ldc 20) (targets.Value (pos 65536))
    ∷ line_to 132 134 (ops.Ldc 20) (targets.Value (pos 65536)) ∷ plain_line 134 135 ops.Imul
    ∷ line_to 135 138 (ops.Invokevirtual 17) targets.Println
    ∷ line_to 138 141 (ops.Getstatic 10) targets.Out ∷ plain_line 141 142 (ops.Iconst (pos 1))
    ∷ plain_line 142 144 (ops.Bipush (negsuc 0)) ∷ plain_line 144 145 ops.Ishl
    ∷ line_to 145 148 (ops.Invokevirtual 17) targets.Println ∷ plain_line 148 149 ops.Return ∷ []

-- Each print is what one instruction makes of ints at an edge.
abbrev pub ints_compute : Run
ints_compute = run (init_only 8 1 compute []) usual []
    (comes_to (report ends.Returned (print_of 0 (negsuc 2147483647) ∷ print_of 1 (pos 0)
    ∷ print_of 2 (pos 1) ∷ print_of 3 (pos 2) ∷ print_of 4 (negsuc 2147483647)
    ∷ print_of 5 (negsuc 0) ∷ print_of 6 (negsuc 2) ∷ print_of 7 (pos 2147483647)
    ∷ print_of 8 (negsuc 3) ∷ print_of 9 (negsuc 55) ∷ print_of 10 (pos 65535)
    ∷ print_of 11 (negsuc 25535) ∷ print_of 12 (negsuc 2147483647) ∷ print_of 13 (pos 0)
    ∷ print_of 14 (negsuc 2147483647) ∷ []) 72 0 0 0 0 ∷ []) ends.Returned (printed_by 0
    (negsuc 2147483647) ∷ printed_by 0 (pos 0) ∷ printed_by 0 (pos 1) ∷ printed_by 0 (pos 2)
    ∷ printed_by 0 (negsuc 2147483647) ∷ printed_by 0 (negsuc 0) ∷ printed_by 0 (negsuc 2)
    ∷ printed_by 0 (pos 2147483647) ∷ printed_by 0 (negsuc 3) ∷ printed_by 0 (negsuc 55)
    ∷ printed_by 0 (pos 65535) ∷ printed_by 0 (negsuc 25535) ∷ printed_by 0 (negsuc 2147483647)
    ∷ printed_by 0 (pos 0) ∷ printed_by 0 (negsuc 2147483647) ∷ []) 76 73)

-- ---- stack moves, bits, branches, switches and a call with an array

abbrev pub give_back : List InstructionLine
give_back = plain_line 0 1 (ops.Aload 0) ∷ plain_line 1 2 ops.Areturn ∷ []

abbrev pub move_and_branch : List InstructionLine
move_and_branch =
    plain_line 0 1 (ops.Iconst (pos 1)) ∷ plain_line 1 2 (ops.Iconst (pos 2))
    ∷ plain_line 2 3 (ops.Stack DupX1) ∷ plain_line 3 4 ops.Isub ∷ plain_line 4 5 ops.Isub
    ∷ plain_line 5 6 (ops.Istore 0) ∷ line_to 6 9 (ops.Getstatic 13) targets.Out
    ∷ plain_line 9 10 (ops.Iload 0) ∷ line_to 10 13 (ops.Invokevirtual 19) targets.Println
    ∷ plain_line 13 14 (ops.Iconst (pos 1)) ∷ plain_line 14 15 (ops.Iconst (pos 2))
    ∷ plain_line 15 16 (ops.Iconst (pos 3)) ∷ plain_line 16 17 (ops.Stack DupX2)
    ∷ plain_line 17 18 ops.Isub ∷ plain_line 18 19 ops.Isub ∷ plain_line 19 20 ops.Isub
    ∷ plain_line 20 21 (ops.Istore 0) ∷ line_to 21 24 (ops.Getstatic 13) targets.Out
    ∷ plain_line 24 25 (ops.Iload 0) ∷ line_to 25 28 (ops.Invokevirtual 19) targets.Println
    ∷ plain_line 28 29 (ops.Iconst (pos 1)) ∷ plain_line 29 30 (ops.Iconst (pos 2))
    ∷ plain_line 30 31 (ops.Stack Dup2) ∷ plain_line 31 32 ops.Isub ∷ plain_line 32 33 ops.Isub
    ∷ plain_line 33 34 ops.Isub ∷ plain_line 34 35 (ops.Istore 0)
    ∷ line_to 35 38 (ops.Getstatic 13) targets.Out ∷ plain_line 38 39 (ops.Iload 0)
    ∷ line_to 39 42 (ops.Invokevirtual 19) targets.Println ∷ plain_line 42 43 (ops.Iconst (pos 1))
    ∷ plain_line 43 44 (ops.Iconst (pos 2)) ∷ plain_line 44 45 (ops.Stack Swap)
    ∷ plain_line 45 46 ops.Isub ∷ plain_line 46 47 (ops.Istore 0)
    ∷ line_to 47 50 (ops.Getstatic 13) targets.Out ∷ plain_line 50 51 (ops.Iload 0)
    ∷ line_to 51 54 (ops.Invokevirtual 19) targets.Println ∷ plain_line 54 55 (ops.Iconst (pos 5))
    ∷ plain_line 55 56 (ops.Iconst (pos 1)) ∷ plain_line 56 57 (ops.Iconst (pos 2))
    ∷ plain_line 57 58 (ops.Stack Pop2) ∷ plain_line 58 59 (ops.Istore 0)
    ∷ line_to 59 62 (ops.Getstatic 13) targets.Out ∷ plain_line 62 63 (ops.Iload 0)
    ∷ line_to 63 66 (ops.Invokevirtual 19) targets.Println ∷ plain_line 66 67 (ops.Iconst (pos 5))
    ∷ plain_line 67 68 (ops.Iconst (pos 3)) ∷ plain_line 68 69 ops.Iand
    ∷ plain_line 69 70 (ops.Istore 0) ∷ line_to 70 73 (ops.Getstatic 13) targets.Out
    ∷ plain_line 73 74 (ops.Iload 0) ∷ line_to 74 77 (ops.Invokevirtual 19) targets.Println
    ∷ plain_line 77 78 (ops.Iconst (pos 5)) ∷ plain_line 78 79 (ops.Iconst (pos 3))
    ∷ plain_line 79 80 ops.Ior ∷ plain_line 80 81 (ops.Istore 0)
    ∷ line_to 81 84 (ops.Getstatic 13) targets.Out ∷ plain_line 84 85 (ops.Iload 0)
    ∷ line_to 85 88 (ops.Invokevirtual 19) targets.Println ∷ plain_line 88 89 (ops.Iconst (pos 5))
    ∷ plain_line 89 90 (ops.Iconst (pos 3)) ∷ plain_line 90 91 ops.Ixor
    ∷ plain_line 91 92 (ops.Istore 0) ∷ line_to 92 95 (ops.Getstatic 13) targets.Out
    ∷ plain_line 95 96 (ops.Iload 0) ∷ line_to 96 99 (ops.Invokevirtual 19) targets.Println
    ∷ plain_line 99 100 ops.Nop ∷ line_to 100 103 (ops.LdcW 20) (targets.Value (pos 100000))
    ∷ plain_line 103 104 (ops.Istore 0) ∷ line_to 104 107 (ops.Getstatic 13) targets.Out
    ∷ plain_line 107 108 (ops.Iload 0) ∷ line_to 108 111 (ops.Invokevirtual 19) targets.Println
    ∷ plain_line 111 112 (ops.Iconst (pos 2)) ∷ plain_line 112 114 ops.Newarray
    ∷ line_to 114 117 (ops.Invokestatic 22) (targets.Method 0) ∷ plain_line 117 118 (ops.Astore 1)
    ∷ plain_line 118 119 (ops.Aload 1) ∷ plain_line 119 120 (ops.Aload 1)
    ∷ plain_line 120 123 (ops.IfAcmpeq 124) ∷ plain_line 123 124 ops.Return
    ∷ plain_line 124 125 (ops.Aload 1) ∷ plain_line 125 126 ops.AconstNull
    ∷ plain_line 126 129 (ops.IfAcmpne 130) ∷ plain_line 129 130 ops.Return
    ∷ plain_line 130 131 (ops.Aload 1) ∷ plain_line 131 134 (ops.Ifnull 138)
    ∷ plain_line 134 135 (ops.Aload 1) ∷ plain_line 135 138 (ops.Ifnonnull 139)
    ∷ plain_line 138 139 ops.Return ∷ plain_line 139 140 (ops.Iconst (pos 2))
    ∷ plain_line 140 168 (ops.Tableswitch 196 (pos 1) (196 ∷ 168 ∷ 196 ∷ []))
    ∷ plain_line 168 170 (ops.Bipush (pos 100))
    ∷ plain_line 170 196 (ops.Lookupswitch 196 ((record { key = (pos 7); target = 196 })
    ∷ (record { key = (pos 100); target = 197 }) ∷ [])) ∷ plain_line 196 197 ops.Return
    ∷ plain_line 197 202 (ops.GotoW 203) ∷ plain_line 202 203 ops.Nop
    ∷ plain_line 203 204 (ops.Iconst (pos 4)) ∷ plain_line 204 205 (ops.Istore 0)
    ∷ line_to 205 208 (ops.Getstatic 13) targets.Out ∷ plain_line 208 209 (ops.Iload 0)
    ∷ line_to 209 212 (ops.Invokevirtual 19) targets.Println ∷ plain_line 212 213 ops.Return ∷ []

abbrev pub moves : MarkedProgram
moves = loaded (codes "A") 0 []
    (play_method 9 (codes "same") (codes "([I)[I") (kinds.Ref 2 ∷ []) (Some (kinds.Ref 2)) 1 1
    give_back [] ∷ play_method 9 (codes "init") (codes "()V") [] None 6 2 move_and_branch []
    ∷ [])
    []

-- Stack moves, bits, branches, switches and a call with an array.
abbrev pub moves_go : Run
moves_go = run moves usual []
    (comes_to (report ends.Returned (print_of 0 (pos 3) ∷ print_of 1 (pos 1) ∷ print_of 2 (negsuc 1)
    ∷ print_of 3 (pos 1) ∷ print_of 4 (pos 5) ∷ print_of 5 (pos 1) ∷ print_of 6 (pos 7)
    ∷ print_of 7 (pos 6) ∷ print_of 8 (pos 100000) ∷ print_of 9 (pos 4) ∷ []) 100 0 0 0 0
    ∷ []) ends.Returned (printed_by 0 (pos 3) ∷ printed_by 0 (pos 1) ∷ printed_by 0 (negsuc 1)
    ∷ printed_by 0 (pos 1) ∷ printed_by 0 (pos 5) ∷ printed_by 0 (pos 1) ∷ printed_by 0 (pos 7)
    ∷ printed_by 0 (pos 6) ∷ printed_by 0 (pos 100000) ∷ printed_by 0 (pos 4) ∷ []) 105 101)
