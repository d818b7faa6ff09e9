-- Worked classes with two int fields, which are set together and read together.
use Rattle.std.specs.Prelude.{ℕ, ◌+◌, pos, List, [], ◌∷◌, ◌++◌, Some, None, codes}
use Rattle.jvm_types.specs.declared.code.Op.{Op}
use Rattle.jvm_types.specs.declared.code.Op.TheVariants as ops
use Rattle.jvm_types.specs.declared.stack_move.StackMove.TheVariants.{Dup}
use Rattle.jvm_types.specs.declared.code.Cmp.TheVariants as cmps
use Rattle.jvm_types.specs.declared.program.Kind.TheVariants as kinds
use Rattle.jvm_types.specs.declared.program.Target.TheVariants as targets
use Rattle.jvm_types.specs.declared.program.FieldInfo.{FieldInfo}
use Rattle.jvm_types.specs.declared.program.MethodInfo.{MethodInfo}
use Rattle.checked_program.specs.MarkedProgram.{MarkedProgram}
use Rattle.checked_program.specs.declared.section.Spot.TheVariants as spots
use Rattle.checked_program.specs.declared.section.SectionMark.{SectionMark}
use Rattle.machine_plays.specs.Writing.{InstructionLine, plain_line, line_to, handler_row}
use Rattle.machine_plays.specs.Writing.{play_method, private_field, static_field, mark, loaded}

abbrev pub pair_fields : List FieldInfo
pair_fields =
    private_field kinds.Int 0 ∷ private_field kinds.Int 1 ∷ static_field (kinds.Ref 17) 2070 ∷ []

-- ---- constructors, and the methods that set and read both fields

abbrev pub object_init : List InstructionLine
object_init =
    plain_line 0 1 (ops.Aload 0) ∷ line_to 1 4 (ops.Invokespecial 13) (targets.Init 1)
    ∷ plain_line 4 5 ops.Return ∷ []

abbrev pub set_both : List InstructionLine
set_both =
    plain_line 0 1 (ops.Aload 0) ∷ plain_line 1 2 (ops.Iload 1)
    ∷ line_to 2 5 (ops.Putfield 16) (targets.Field 0) ∷ plain_line 5 6 (ops.Aload 0)
    ∷ plain_line 6 7 (ops.Iload 1) ∷ line_to 7 10 (ops.Putfield 18) (targets.Field 1)
    ∷ plain_line 10 11 ops.Return ∷ []

abbrev pub set_apart : List InstructionLine
set_apart =
    plain_line 0 1 (ops.Aload 0) ∷ plain_line 1 2 (ops.Iload 1)
    ∷ line_to 2 5 (ops.Putfield 16) (targets.Field 1) ∷ plain_line 5 6 (ops.Aload 0)
    ∷ plain_line 6 7 (ops.Iload 1) ∷ plain_line 7 8 (ops.Iconst (pos 1)) ∷ plain_line 8 9 ops.Iadd
    ∷ line_to 9 12 (ops.Putfield 18) (targets.Field 0) ∷ plain_line 12 13 ops.Return ∷ []

abbrev pub sum_fields : List InstructionLine
sum_fields =
    plain_line 0 1 (ops.Aload 0) ∷ line_to 1 4 (ops.Getfield 16) (targets.Field 0)
    ∷ plain_line 4 5 (ops.Aload 0) ∷ line_to 5 8 (ops.Getfield 18) (targets.Field 1)
    ∷ plain_line 8 9 ops.Iadd ∷ plain_line 9 10 ops.Ireturn ∷ []

abbrev pub sum_in_block : List InstructionLine
sum_in_block =
    plain_line 0 1 (ops.Aload 0) ∷ plain_line 1 2 (ops.Stack Dup) ∷ plain_line 2 3 (ops.Astore 1)
    ∷ plain_line 3 4 ops.Monitorenter ∷ plain_line 4 5 (ops.Aload 0)
    ∷ line_to 5 8 (ops.Getfield 16) (targets.Field 0) ∷ plain_line 8 9 (ops.Aload 0)
    ∷ line_to 9 12 (ops.Getfield 18) (targets.Field 1) ∷ plain_line 12 13 ops.Iadd
    ∷ plain_line 13 14 (ops.Aload 1) ∷ plain_line 14 15 ops.Monitorexit
    ∷ plain_line 15 16 ops.Ireturn ∷ plain_line 16 17 (ops.Astore 2)
    ∷ plain_line 17 18 (ops.Aload 1) ∷ plain_line 18 19 ops.Monitorexit
    ∷ plain_line 19 20 (ops.Aload 2) ∷ plain_line 20 21 ops.Athrow ∷ []

abbrev pub divide_in_block : List InstructionLine
divide_in_block =
    plain_line 0 1 (ops.Aload 0) ∷ plain_line 1 2 (ops.Stack Dup) ∷ plain_line 2 3 (ops.Astore 1)
    ∷ plain_line 3 4 ops.Monitorenter ∷ plain_line 4 6 (ops.Bipush (pos 10))
    ∷ plain_line 6 7 (ops.Aload 0) ∷ line_to 7 10 (ops.Getfield 18) (targets.Field 0)
    ∷ plain_line 10 11 (ops.Aload 0) ∷ line_to 11 14 (ops.Getfield 16) (targets.Field 1)
    ∷ plain_line 14 15 ops.Isub ∷ plain_line 15 16 ops.Idiv ∷ plain_line 16 17 (ops.Aload 1)
    ∷ plain_line 17 18 ops.Monitorexit ∷ plain_line 18 19 ops.Ireturn
    ∷ plain_line 19 20 (ops.Astore 2) ∷ plain_line 20 21 (ops.Aload 1)
    ∷ plain_line 21 22 ops.Monitorexit ∷ plain_line 22 23 (ops.Aload 2)
    ∷ plain_line 23 24 ops.Athrow ∷ []

abbrev pub count_in_block : List InstructionLine
count_in_block =
    plain_line 0 1 (ops.Aload 0) ∷ plain_line 1 2 (ops.Stack Dup) ∷ plain_line 2 3 (ops.Astore 1)
    ∷ plain_line 3 4 ops.Monitorenter ∷ plain_line 4 5 (ops.Aload 0)
    ∷ line_to 5 8 (ops.Getfield 16) (targets.Field 1) ∷ plain_line 8 9 (ops.Istore 2)
    ∷ plain_line 9 10 (ops.Iload 2) ∷ plain_line 10 11 (ops.Aload 0)
    ∷ line_to 11 14 (ops.Getfield 18) (targets.Field 0) ∷ plain_line 14 17 (ops.IfIcmp cmps.Eq 23)
    ∷ plain_line 17 20 (ops.Iinc 2 (pos 1)) ∷ plain_line 20 23 (ops.Goto 9)
    ∷ plain_line 23 24 (ops.Iload 2) ∷ plain_line 24 25 (ops.Aload 1)
    ∷ plain_line 25 26 ops.Monitorexit ∷ plain_line 26 27 ops.Ireturn
    ∷ plain_line 27 28 (ops.Astore 3) ∷ plain_line 28 29 (ops.Aload 1)
    ∷ plain_line 29 30 ops.Monitorexit ∷ plain_line 30 31 (ops.Aload 3)
    ∷ plain_line 31 32 ops.Athrow ∷ []

abbrev pub sum_twice : List InstructionLine
sum_twice =
    plain_line 0 1 (ops.Aload 0) ∷ line_to 1 4 (ops.Invokevirtual 24) (targets.Method 2)
    ∷ plain_line 4 5 (ops.Aload 0) ∷ line_to 5 8 (ops.Invokevirtual 24) (targets.Method 2)
    ∷ plain_line 8 9 ops.Iadd ∷ plain_line 9 10 ops.Ireturn ∷ []

abbrev pub play_constructor : MethodInfo
play_constructor = play_method 0 (codes "<init>") (codes "()V") [] None 1 1 object_init []

abbrev pub synchronized_set : (max_stack : ℕ) → List InstructionLine → MethodInfo
synchronized_set max_stack lines =
    play_method 32 (codes "set") (codes "(I)V") (kinds.Int ∷ []) None max_stack 2 lines []

abbrev pub sum : MethodInfo
sum =
    play_method 0 (codes "sum") (codes "()I") [] (Some kinds.Int) 2 3 sum_in_block
    (handler_row 4 15 16 0 ∷ handler_row 16 19 16 0 ∷ [])

-- the setter's section is not marked, the reader's is
abbrev pub marks : List SectionMark
marks = mark 1 spots.Method 1 ∷ mark 2 (spots.Block 3) 0 ∷ []

-- ---- what threads do with an object that all see

abbrev pub make_shared : List InstructionLine
make_shared =
    line_to 0 3 (ops.New 2) (targets.Class 17) ∷ plain_line 3 4 (ops.Stack Dup)
    ∷ line_to 4 7 (ops.Invokespecial 23) (targets.Method 0)
    ∷ line_to 7 10 (ops.Putstatic 25) (targets.Field 2) ∷ plain_line 10 11 ops.Return ∷ []

abbrev pub make_and_set : List InstructionLine
make_and_set =
    line_to 0 3 (ops.New 2) (targets.Class 17) ∷ plain_line 3 4 (ops.Stack Dup)
    ∷ line_to 4 7 (ops.Invokespecial 23) (targets.Method 0)
    ∷ line_to 7 10 (ops.Putstatic 25) (targets.Field 2)
    ∷ line_to 10 13 (ops.Getstatic 25) (targets.Field 2) ∷ plain_line 13 14 (ops.Iconst (pos 0))
    ∷ line_to 14 17 (ops.Invokevirtual 27) (targets.Method 1) ∷ plain_line 17 18 ops.Return ∷ []

-- thread 1 prints what it reads, and each other one sets a value; with the constants for
-- System.out, the read, println and the set
abbrev pub read_or_set_by : (out read print set : ℕ) → (value : Op) → (behind : ℕ)
    → List InstructionLine
read_or_set_by out read print set value behind =
    plain_line 0 1 (ops.Iload 0) ∷ plain_line 1 2 (ops.Iconst (pos 1))
    ∷ plain_line 2 5 (ops.IfIcmp cmps.Ne 18) ∷ line_to 5 8 (ops.Getstatic out) targets.Out
    ∷ line_to 8 11 (ops.Getstatic 25) (targets.Field 2)
    ∷ line_to 11 14 (ops.Invokevirtual read) (targets.Method 2)
    ∷ line_to 14 17 (ops.Invokevirtual print) targets.Println ∷ plain_line 17 18 ops.Return
    ∷ line_to 18 21 (ops.Getstatic 25) (targets.Field 2) ∷ plain_line 21 behind value
    ∷ line_to behind (behind + 3) (ops.Invokevirtual set) (targets.Method 1)
    ∷ plain_line (behind + 3) (behind + 4) ops.Return ∷ []

abbrev pub read_or_set : List InstructionLine
read_or_set = read_or_set_by 32 34 39 41 (ops.Iconst (pos 4)) 22

abbrev pub read_or_set_apart : List InstructionLine
read_or_set_apart = read_or_set_by 34 36 41 27 (ops.Iconst (pos 1)) 22

abbrev pub read_or_set_ten : List InstructionLine
read_or_set_ten = read_or_set_by 34 36 41 27 (ops.Bipush (pos 10)) 23

abbrev pub print_sum : List InstructionLine
print_sum =
    line_to 0 3 (ops.Getstatic 32) targets.Out ∷ line_to 3 6 (ops.Getstatic 25) (targets.Field 2)
    ∷ line_to 6 9 (ops.Invokevirtual 34) (targets.Method 2)
    ∷ line_to 9 12 (ops.Invokevirtual 39) targets.Println ∷ plain_line 12 13 ops.Return ∷ []

abbrev pub set_and_print : List InstructionLine
set_and_print =
    line_to 0 3 (ops.New 2) (targets.Class 17) ∷ plain_line 3 4 (ops.Stack Dup)
    ∷ line_to 4 7 (ops.Invokespecial 23) (targets.Method 0)
    ∷ line_to 7 10 (ops.Putstatic 25) (targets.Field 2)
    ∷ line_to 10 13 (ops.Getstatic 25) (targets.Field 2) ∷ plain_line 13 14 (ops.Iconst (pos 4))
    ∷ line_to 14 17 (ops.Invokevirtual 27) (targets.Method 1)
    ∷ line_to 17 20 (ops.Getstatic 33) targets.Out
    ∷ line_to 20 23 (ops.Getstatic 25) (targets.Field 2)
    ∷ line_to 23 26 (ops.Invokevirtual 35) (targets.Method 2)
    ∷ line_to 26 29 (ops.Invokevirtual 40) targets.Println
    ∷ line_to 29 32 (ops.Getstatic 33) targets.Out
    ∷ line_to 32 35 (ops.Getstatic 25) (targets.Field 2)
    ∷ line_to 35 38 (ops.Invokevirtual 35) (targets.Method 2)
    ∷ line_to 38 41 (ops.Invokevirtual 40) targets.Println
    ∷ line_to 41 44 (ops.Getstatic 33) targets.Out
    ∷ line_to 44 47 (ops.Getstatic 25) (targets.Field 2)
    ∷ line_to 47 50 (ops.Invokevirtual 35) (targets.Method 2)
    ∷ line_to 50 53 (ops.Invokevirtual 40) targets.Println ∷ plain_line 53 54 ops.Return ∷ []

abbrev pub set_and_print_twice : List InstructionLine
set_and_print_twice =
    line_to 0 3 (ops.New 2) (targets.Class 17) ∷ plain_line 3 4 (ops.Stack Dup)
    ∷ line_to 4 7 (ops.Invokespecial 26) (targets.Method 0)
    ∷ line_to 7 10 (ops.Putstatic 28) (targets.Field 2)
    ∷ line_to 10 13 (ops.Getstatic 28) (targets.Field 2) ∷ plain_line 13 14 (ops.Iconst (pos 4))
    ∷ line_to 14 17 (ops.Invokevirtual 30) (targets.Method 1)
    ∷ line_to 17 20 (ops.Getstatic 36) targets.Out
    ∷ line_to 20 23 (ops.Getstatic 28) (targets.Field 2)
    ∷ line_to 23 26 (ops.Invokevirtual 38) (targets.Method 3)
    ∷ line_to 26 29 (ops.Invokevirtual 43) targets.Println ∷ plain_line 29 30 ops.Return ∷ []

abbrev pub init : List InstructionLine → MethodInfo
init lines = play_method 9 (codes "init") (codes "()V") [] None 4 0 lines []

abbrev pub run_method : List InstructionLine → MethodInfo
run_method lines = play_method 9 (codes "run") (codes "(I)V") (kinds.Int ∷ []) None 4 1 lines []

abbrev pub done_method : List InstructionLine → MethodInfo
done_method lines = play_method 9 (codes "done") (codes "()V") [] None 4 0 lines []

-- ---- programs

-- one thread sets both fields without a lock, and prints their sum three times
abbrev pub unlocked : MarkedProgram
unlocked = loaded (codes "P") 0 pair_fields
    (play_constructor
    ∷ play_method 0 (codes "set") (codes "(I)V") (kinds.Int ∷ []) None 2 2 set_both []
    ∷ play_method 0 (codes "sum") (codes "()I") [] (Some kinds.Int) 2 1 sum_fields []
    ∷ init set_and_print ∷ []) []

-- the same with synchronized methods and a section
abbrev pub synchronized_pair : MarkedProgram
synchronized_pair =
    loaded (codes "P") 0 pair_fields
    (play_constructor ∷ synchronized_set 2 set_both ∷ sum ∷ init set_and_print ∷ []) marks

-- a synchronized method whose section reads the sum twice
abbrev pub twice : MarkedProgram
twice = loaded (codes "P") 0 pair_fields
    (play_constructor ∷ synchronized_set 2 set_both ∷ sum
    ∷ play_method 32 (codes "twice") (codes "()I") [] (Some kinds.Int) 2 1 sum_twice []
    ∷ init set_and_print_twice ∷ [])
    (marks ++ mark 3 spots.Method 0 ∷ [])

-- thread 1 reads and prints the sum, the others set both fields
abbrev pub shared : (workers : ℕ) → MarkedProgram
shared workers =
    loaded (codes "Q") workers pair_fields (play_constructor ∷ synchronized_set 2 set_both ∷ sum
    ∷ init make_shared ∷ run_method read_or_set ∷ []) marks

-- and `done` prints the sum again
abbrev pub shared_and_done : MarkedProgram
shared_and_done =
    loaded (codes "Q") 2 pair_fields (play_constructor ∷ synchronized_set 2 set_both ∷ sum
    ∷ init make_shared ∷ run_method read_or_set ∷ done_method print_sum ∷ []) marks

-- the reader divides by the difference of the fields, which is 0 where they are not set yet, or
-- where one alone is
abbrev pub divides : (workers : ℕ) → (init_lines : List InstructionLine) → MarkedProgram
divides workers init_lines = loaded (codes "D") workers pair_fields
    (play_constructor ∷ synchronized_set 3 set_apart
    ∷ play_method 0 (codes "q") (codes "()I") [] (Some kinds.Int) 4 3 divide_in_block
    (handler_row 4 18 19 0 ∷ handler_row 19 22 19 0 ∷ []) ∷ init init_lines
    ∷ run_method read_or_set_apart ∷ [])
    marks

-- the reader counts from one field to the other, without end where only one is set
abbrev pub counts_up : MarkedProgram
counts_up = loaded (codes "L") 2 pair_fields
    (play_constructor ∷ synchronized_set 3 set_apart
    ∷ play_method 0 (codes "q") (codes "()I") [] (Some kinds.Int) 3 4 count_in_block
    (handler_row 4 26 27 0 ∷ handler_row 27 30 27 0 ∷ []) ∷ init make_and_set
    ∷ run_method read_or_set_ten ∷ [])
    marks
