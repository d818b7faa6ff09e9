-- Worked programs with static synchronized methods, which are sections on their class (JVMS
-- 2.11.10).
use Rattle.std.specs.Prelude.{ℕ, pos, List, [], ◌∷◌, Some, None, codes}
use Rattle.jvm_types.specs.declared.code.Op.TheVariants as ops
use Rattle.jvm_types.specs.declared.stack_move.StackMove.TheVariants.{Pop}
use Rattle.jvm_types.specs.declared.code.Cmp.TheVariants as cmps
use Rattle.jvm_types.specs.declared.program.Kind.TheVariants as kinds
use Rattle.jvm_types.specs.declared.program.Target.TheVariants as targets
use Rattle.jvm_types.specs.declared.program.FieldInfo.{FieldInfo}
use Rattle.jvm_types.specs.declared.program.MethodInfo.{MethodInfo}
use Rattle.checked_program.specs.MarkedProgram.{MarkedProgram}
use Rattle.checked_program.specs.declared.section.Spot.TheVariants as spots
use Rattle.checked_program.specs.declared.section.SectionMark.{SectionMark}
use Rattle.machine_plays.specs.WorkedAlone.{divide_and_return}
use Rattle.machine_plays.specs.Writing.{InstructionLine, plain_line, line_to, loaded, mark}
use Rattle.machine_plays.specs.Writing.{play_method, static_field}

-- ---- two private static fields, which stand behind the class, that are set to an int and whose
-- sum is told

abbrev private_static : (word : ℕ) → FieldInfo
private_static word = record (static_field kinds.Int word) { flags = 10 }

abbrev static_ints : List FieldInfo
static_ints = private_static 2070 ∷ private_static 2071 ∷ []

abbrev set_static : List InstructionLine
set_static =
    plain_line 0 1 (ops.Iload 0) ∷ line_to 1 4 (ops.Putstatic 7) (targets.Field 0)
    ∷ plain_line 4 5 (ops.Iload 0) ∷ line_to 5 8 (ops.Putstatic 13) (targets.Field 1)
    ∷ plain_line 8 9 ops.Return ∷ []

abbrev sum_static : List InstructionLine
sum_static =
    line_to 0 3 (ops.Getstatic 7) (targets.Field 0)
    ∷ line_to 3 6 (ops.Getstatic 13) (targets.Field 1) ∷ plain_line 6 7 ops.Iadd
    ∷ plain_line 7 8 ops.Ireturn ∷ []

abbrev set_static_and_print : List InstructionLine
set_static_and_print =
    plain_line 0 1 (ops.Iconst (pos 4)) ∷ line_to 1 4 (ops.Invokestatic 17) (targets.Method 0)
    ∷ line_to 4 7 (ops.Getstatic 19) targets.Out
    ∷ line_to 7 10 (ops.Invokestatic 23) (targets.Method 1)
    ∷ line_to 10 13 (ops.Invokevirtual 25) targets.Println ∷ plain_line 13 14 ops.Return ∷ []

abbrev synchronized_set_static : MethodInfo
synchronized_set_static =
    play_method 40 (codes "set") (codes "(I)V") (kinds.Int ∷ []) None 1 1 set_static []

abbrev synchronized_sum_static : MethodInfo
synchronized_sum_static =
    play_method 40 (codes "sum") (codes "()I") [] (Some kinds.Int) 2 0 sum_static []

-- the setter's section is not marked, the reader's is
abbrev static_marks : List SectionMark
static_marks = mark 0 spots.Method 1 ∷ mark 1 spots.Method 0 ∷ []

-- `init` sets them and prints the sum
abbrev pub static_pair : MarkedProgram
static_pair = loaded (codes "S") 0 static_ints
    (synchronized_set_static ∷ synchronized_sum_static
    ∷ play_method 9 (codes "init") (codes "()V") [] None 2 0 set_static_and_print [] ∷ [])
    static_marks

-- thread 1 prints the sum, and each other one sets both to 4
abbrev print_or_set_static : List InstructionLine
print_or_set_static =
    plain_line 0 1 (ops.Iload 0) ∷ plain_line 1 2 (ops.Iconst (pos 1))
    ∷ plain_line 2 5 (ops.IfIcmp cmps.Ne 17) ∷ line_to 5 8 (ops.Getstatic 16) targets.Out
    ∷ line_to 8 11 (ops.Invokestatic 22) (targets.Method 1)
    ∷ line_to 11 14 (ops.Invokevirtual 26) targets.Println ∷ plain_line 14 17 (ops.Goto 21)
    ∷ plain_line 17 18 (ops.Iconst (pos 4))
    ∷ line_to 18 21 (ops.Invokestatic 32) (targets.Method 0) ∷ plain_line 21 22 ops.Return ∷ []

abbrev pub shared_statics : (workers : ℕ) → MarkedProgram
shared_statics workers = loaded (codes "S") workers static_ints
    (synchronized_set_static ∷ synchronized_sum_static
    ∷ play_method 9 (codes "run") (codes "(I)V") (kinds.Int ∷ []) None 2 1 print_or_set_static
    [] ∷ []) static_marks

-- ---- an exception leaves a static synchronized method

abbrev call_and_drop : List InstructionLine
call_and_drop =
    line_to 0 3 (ops.Invokestatic 7) (targets.Method 0) ∷ plain_line 3 4 (ops.Stack Pop)
    ∷ plain_line 4 5 ops.Return ∷ []

abbrev pub leaves_class_by_exception : MarkedProgram
leaves_class_by_exception = loaded (codes "T") 0 []
    (play_method 40 (codes "get") (codes "()I") [] (Some kinds.Int) 2 0 divide_and_return []
    ∷ play_method 9 (codes "init") (codes "()V") [] None 1 0 call_and_drop [] ∷ [])
    (mark 0 spots.Method 0 ∷ [])
