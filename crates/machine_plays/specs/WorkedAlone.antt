-- Worked programs of one thread and one method.
use Rattle.std.specs.Prelude.{ℕ, ℤ, pos, List, [], ◌∷◌, Some, None, codes}
use Rattle.jvm_types.specs.declared.code.Op.TheVariants as ops
use Rattle.jvm_types.specs.declared.stack_move.StackMove.TheVariants.{Dup, Pop}
use Rattle.jvm_types.specs.declared.program.Kind.TheVariants as kinds
use Rattle.jvm_types.specs.declared.program.Target.TheVariants as targets
use Rattle.checked_program.specs.MarkedProgram.{MarkedProgram}
use Rattle.jvm_types.specs.declared.program.Row.{Row}
use Rattle.checked_program.specs.declared.section.Spot.TheVariants as spots
use Rattle.machine_plays.specs.Writing.{InstructionLine, plain_line, line_to, play_method}
use Rattle.machine_plays.specs.Writing.{static_field, mark, loaded}
use Rattle.machine_plays.specs.WorkedPairs.{play_constructor}

abbrev pub init_only : (max_stack max_locals : ℕ) → List InstructionLine → List Row → MarkedProgram
init_only max_stack max_locals lines rows =
    loaded (codes "A") 0 []
    (play_method 9 (codes "init") (codes "()V") [] None max_stack max_locals lines rows ∷ []) []

-- ---- prints

abbrev pub add_and_print : List InstructionLine
add_and_print =
    line_to 0 3 (ops.Getstatic 13) targets.Out ∷ plain_line 3 4 (ops.Iconst (pos 2))
    ∷ plain_line 4 5 (ops.Iconst (pos 3)) ∷ plain_line 5 6 ops.Iadd
    ∷ line_to 6 9 (ops.Invokevirtual 19) targets.Println ∷ plain_line 9 10 ops.Return ∷ []

abbrev pub add_and_print_twice : List InstructionLine
add_and_print_twice =
    line_to 0 3 (ops.Getstatic 10) targets.Out ∷ plain_line 3 4 (ops.Iconst (pos 2))
    ∷ plain_line 4 5 (ops.Iconst (pos 3)) ∷ plain_line 5 6 ops.Iadd
    ∷ line_to 6 9 (ops.Invokevirtual 16) targets.Println
    ∷ line_to 9 12 (ops.Getstatic 10) targets.Out ∷ plain_line 12 13 (ops.Iconst (pos 2))
    ∷ plain_line 13 14 (ops.Iconst (pos 3)) ∷ plain_line 14 15 ops.Iadd
    ∷ line_to 15 18 (ops.Invokevirtual 16) targets.Println ∷ plain_line 18 19 ops.Return ∷ []

abbrev pub print_one : (n : ℤ) → List InstructionLine
print_one n =
    line_to 0 3 (ops.Getstatic 10) targets.Out ∷ plain_line 3 4 (ops.Iconst n)
    ∷ line_to 4 7 (ops.Invokevirtual 17) targets.Println ∷ plain_line 7 8 ops.Return ∷ []

-- `<clinit>` prints 1, `init` 2 and `done` 3
abbrev pub all_parts : MarkedProgram
all_parts = loaded (codes "A") 0 []
    (play_method 8 (codes "<clinit>") (codes "()V") [] None 2 0 (print_one (pos 1)) []
    ∷ play_method 9 (codes "init") (codes "()V") [] None 2 0 (print_one (pos 2)) []
    ∷ play_method 9 (codes "done") (codes "()V") [] None 2 0 (print_one (pos 3)) [] ∷ [])
    []

-- 3 is stored in a static field of type Z, which is printed
abbrev pub keep_low_bit : List InstructionLine
keep_low_bit =
    plain_line 0 1 (ops.Iconst (pos 3)) ∷ line_to 1 4 (ops.Putstatic 12) (targets.Field 0)
    ∷ line_to 4 7 (ops.Getstatic 10) targets.Out
    ∷ line_to 7 10 (ops.Getstatic 12) (targets.Field 0)
    ∷ line_to 10 13 (ops.Invokevirtual 17) targets.Println ∷ plain_line 13 14 ops.Return ∷ []

abbrev pub low_bit : MarkedProgram
low_bit =
    loaded (codes "A") 0 (static_field kinds.Bool 2070 ∷ [])
    (play_method 9 (codes "init") (codes "()V") [] None 2 0 keep_low_bit [] ∷ []) []

-- ---- exceptions

abbrev pub measure_null : List InstructionLine
measure_null =
    plain_line 0 1 ops.AconstNull ∷ plain_line 1 2 ops.Arraylength ∷ plain_line 2 3 (ops.Stack Pop)
    ∷ plain_line 3 4 ops.Return ∷ []

-- a division by 0 that the second row catches, which prints 4
abbrev pub catch_by_class : List InstructionLine
catch_by_class =
    plain_line 0 1 (ops.Iconst (pos 1)) ∷ plain_line 1 2 (ops.Iconst (pos 0))
    ∷ plain_line 2 3 ops.Idiv ∷ plain_line 3 4 (ops.Stack Pop) ∷ plain_line 4 5 ops.Return
    ∷ plain_line 5 6 (ops.Stack Pop) ∷ line_to 6 9 (ops.Getstatic 10) targets.Out
    ∷ plain_line 9 10 (ops.Iconst (pos 4)) ∷ line_to 10 13 (ops.Invokevirtual 17) targets.Println
    ∷ plain_line 13 14 ops.Return ∷ []

-- an exception leaves a synchronized method, whose section is marked
abbrev pub call_and_divide : List InstructionLine
call_and_divide =
    line_to 0 3 (ops.New 2) (targets.Class 17) ∷ plain_line 3 4 (ops.Stack Dup)
    ∷ line_to 4 7 (ops.Invokespecial 5) (targets.Method 0)
    ∷ line_to 7 10 (ops.Invokevirtual 7) (targets.Method 1) ∷ plain_line 10 11 (ops.Stack Pop)
    ∷ plain_line 11 12 ops.Return ∷ []

abbrev pub divide_and_return : List InstructionLine
divide_and_return =
    plain_line 0 1 (ops.Iconst (pos 1)) ∷ plain_line 1 2 (ops.Iconst (pos 0))
    ∷ plain_line 2 3 ops.Idiv ∷ plain_line 3 4 ops.Ireturn ∷ []

abbrev pub leaves_by_exception : MarkedProgram
leaves_by_exception = loaded (codes "T") 0 []
    (play_constructor
    ∷ play_method 32 (codes "get") (codes "()I") [] (Some kinds.Int) 2 1 divide_and_return []
    ∷ play_method 9 (codes "init") (codes "()V") [] None 2 0 call_and_divide [] ∷ [])
    (mark 1 spots.Method 0 ∷ [])

abbrev pub divide_by_zero : List InstructionLine
divide_by_zero =
    plain_line 0 1 (ops.Iconst (pos 1)) ∷ plain_line 1 2 (ops.Iconst (pos 0))
    ∷ plain_line 2 3 ops.Idiv ∷ plain_line 3 4 (ops.Stack Pop) ∷ plain_line 4 5 ops.Return ∷ []

abbrev pub call_itself : List InstructionLine
call_itself = line_to 0 3 (ops.Invokestatic 8) (targets.Method 0) ∷ plain_line 3 4 ops.Return ∷ []

abbrev pub return_only : List InstructionLine
return_only = plain_line 0 1 ops.Return ∷ []

-- ---- arrays: elements, one out of range that is caught, and a throwable that isn't

abbrev pub index_and_throw : List InstructionLine
index_and_throw =
    plain_line 0 1 (ops.Iconst (pos 3)) ∷ plain_line 1 3 ops.Newarray
    ∷ plain_line 3 4 (ops.Astore 0) ∷ plain_line 4 5 (ops.Aload 0)
    ∷ plain_line 5 6 (ops.Iconst (pos 1)) ∷ plain_line 6 8 (ops.Bipush (pos 7))
    ∷ plain_line 8 9 ops.Iastore ∷ line_to 9 12 (ops.Getstatic 10) targets.Out
    ∷ plain_line 12 13 (ops.Aload 0) ∷ plain_line 13 14 (ops.Iconst (pos 1))
    ∷ plain_line 14 15 ops.Iaload ∷ line_to 15 18 (ops.Invokevirtual 16) targets.Println
    ∷ plain_line 18 19 (ops.Aload 0) ∷ plain_line 19 20 (ops.Iconst (pos 3))
    ∷ plain_line 20 21 ops.Iaload ∷ plain_line 21 22 (ops.Stack Pop) ∷ plain_line 22 23 ops.Return
    ∷ plain_line 23 24 (ops.Stack Pop) ∷ line_to 24 27 (ops.Getstatic 10) targets.Out
    ∷ plain_line 27 28 (ops.Aload 0) ∷ plain_line 28 29 ops.Arraylength
    ∷ line_to 29 32 (ops.Invokevirtual 16) targets.Println
    ∷ line_to 32 35 (ops.New 18) (targets.Class 5) ∷ plain_line 35 36 (ops.Stack Dup)
    ∷ line_to 36 39 (ops.Invokespecial 22) (targets.Init 5) ∷ plain_line 39 40 ops.Athrow ∷ []

abbrev pub make_array : (n : ℤ) → List InstructionLine
make_array n =
    line_to 0 3 (ops.Getstatic 10) targets.Out ∷ line_to 3 5 (ops.Ldc 11) (targets.Value n)
    ∷ plain_line 5 7 ops.Newarray ∷ plain_line 7 8 ops.Arraylength
    ∷ line_to 8 11 (ops.Invokevirtual 17) targets.Println ∷ plain_line 11 12 ops.Return ∷ []
