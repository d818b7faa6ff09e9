-- Worked classes whose threads wait, notify, and lock each other out.
use Rattle.std.specs.Prelude.{ℕ, pos, List, [], ◌∷◌, None, codes}
use Rattle.jvm_types.specs.declared.code.Op.TheVariants as ops
use Rattle.jvm_types.specs.declared.stack_move.StackMove.TheVariants.{Dup}
use Rattle.jvm_types.specs.declared.code.Cmp.TheVariants as cmps
use Rattle.jvm_types.specs.declared.program.Kind.TheVariants as kinds
use Rattle.jvm_types.specs.declared.program.Target.TheVariants as targets
use Rattle.jvm_types.specs.declared.program.FieldInfo.{FieldInfo}
use Rattle.jvm_types.specs.declared.program.MethodInfo.{MethodInfo}
use Rattle.checked_program.specs.MarkedProgram.{MarkedProgram}
use Rattle.checked_program.specs.declared.section.Spot.TheVariants as spots
use Rattle.machine_plays.specs.Writing.{InstructionLine, plain_line, line_to, handler_row}
use Rattle.machine_plays.specs.Writing.{play_method, static_field, mark, loaded}
use Rattle.machine_plays.specs.WorkedPairs.{init, play_constructor}

abbrev pub fields : List FieldInfo
fields = static_field (kinds.Ref 17) 2070 ∷ []

abbrev pub make_shared_waiter : List InstructionLine
make_shared_waiter =
    line_to 0 3 (ops.New 2) (targets.Class 17) ∷ plain_line 3 4 (ops.Stack Dup)
    ∷ line_to 4 7 (ops.Invokespecial 12) (targets.Method 0)
    ∷ line_to 7 10 (ops.Putstatic 14) (targets.Field 0) ∷ plain_line 10 11 ops.Return ∷ []

abbrev pub waiter : (name : List ℕ) → List InstructionLine → MethodInfo
waiter name lines = play_method 32 name (codes "(I)V") (kinds.Int ∷ []) None 2 2 lines []

abbrev pub notifier : List InstructionLine → MethodInfo
notifier lines = play_method 32 (codes "n") (codes "()V") [] None 1 1 lines []

abbrev pub waiting_run : List InstructionLine → MethodInfo
waiting_run lines = play_method 9 (codes "run") (codes "(I)V") (kinds.Int ∷ []) None 2 1 lines []

-- ---- thread 3 notifies twice, the others wait and then print; `done` notifies without the monitor

abbrev pub wait_and_print : List InstructionLine
wait_and_print =
    plain_line 0 1 (ops.Aload 0) ∷ line_to 1 4 (ops.Invokevirtual 18) targets.Wait
    ∷ line_to 4 7 (ops.Getstatic 24) targets.Out ∷ plain_line 7 8 (ops.Iload 1)
    ∷ line_to 8 11 (ops.Invokevirtual 30) targets.Println ∷ plain_line 11 12 ops.Return ∷ []

abbrev pub notify : List InstructionLine
notify =
    plain_line 0 1 (ops.Aload 0) ∷ line_to 1 4 (ops.Invokevirtual 34) targets.Notify
    ∷ plain_line 4 5 ops.Return ∷ []

abbrev pub wait_or_notify : List InstructionLine
wait_or_notify =
    plain_line 0 1 (ops.Iload 0) ∷ plain_line 1 2 (ops.Iconst (pos 3))
    ∷ plain_line 2 5 (ops.IfIcmp cmps.Ne 18) ∷ line_to 5 8 (ops.Getstatic 14) (targets.Field 0)
    ∷ line_to 8 11 (ops.Invokevirtual 37) (targets.Method 3)
    ∷ line_to 11 14 (ops.Getstatic 14) (targets.Field 0)
    ∷ line_to 14 17 (ops.Invokevirtual 37) (targets.Method 3) ∷ plain_line 17 18 ops.Return
    ∷ line_to 18 21 (ops.Getstatic 14) (targets.Field 0) ∷ plain_line 21 22 (ops.Iload 0)
    ∷ line_to 22 25 (ops.Invokevirtual 39) (targets.Method 2) ∷ plain_line 25 26 ops.Return ∷ []

abbrev pub notify_unheld : List InstructionLine
notify_unheld =
    line_to 0 3 (ops.Getstatic 14) (targets.Field 0)
    ∷ line_to 3 6 (ops.Invokevirtual 34) targets.Notify ∷ plain_line 6 7 ops.Return ∷ []

abbrev pub waiting_program : (workers : ℕ) → MarkedProgram
waiting_program workers = loaded (codes "W") workers fields
    (play_constructor ∷ init make_shared_waiter ∷ waiter (codes "w") wait_and_print
    ∷ notifier notify ∷ waiting_run wait_or_notify
    ∷ play_method 9 (codes "done") (codes "()V") [] None 1 0 notify_unheld [] ∷ [])
    (mark 2 spots.Method 4 ∷ mark 3 spots.Method 4 ∷ [])

-- ---- the others wait two entries deep; thread 3 notifies one twice, and then all

abbrev pub wait_inside : List InstructionLine
wait_inside =
    plain_line 0 1 (ops.Aload 0) ∷ plain_line 1 2 (ops.Iload 1)
    ∷ line_to 2 5 (ops.Invokevirtual 19) (targets.Method 3) ∷ plain_line 5 6 ops.Return ∷ []

abbrev pub notify_twice_and_all : List InstructionLine
notify_twice_and_all =
    plain_line 0 1 (ops.Aload 0) ∷ line_to 1 4 (ops.Invokevirtual 37) targets.NotifyAll
    ∷ plain_line 4 5 (ops.Aload 0) ∷ line_to 5 8 (ops.Invokevirtual 37) targets.NotifyAll
    ∷ plain_line 8 9 (ops.Aload 0) ∷ line_to 9 12 (ops.Invokevirtual 40) targets.Notify
    ∷ plain_line 12 13 ops.Return ∷ []

abbrev pub wait_or_notify_all : List InstructionLine
wait_or_notify_all =
    plain_line 0 1 (ops.Iload 0) ∷ plain_line 1 2 (ops.Iconst (pos 3))
    ∷ plain_line 2 5 (ops.IfIcmp cmps.Ne 12) ∷ line_to 5 8 (ops.Getstatic 14) (targets.Field 0)
    ∷ line_to 8 11 (ops.Invokevirtual 43) (targets.Method 4) ∷ plain_line 11 12 ops.Return
    ∷ line_to 12 15 (ops.Getstatic 14) (targets.Field 0) ∷ plain_line 15 16 (ops.Iload 0)
    ∷ line_to 16 19 (ops.Invokevirtual 45) (targets.Method 2) ∷ plain_line 19 20 ops.Return ∷ []

abbrev pub waits_deep : MarkedProgram
waits_deep = loaded (codes "N") 3 fields
    (play_constructor ∷ init make_shared_waiter ∷ waiter (codes "w") wait_inside
    ∷ waiter (codes "v") wait_and_print ∷ notifier notify_twice_and_all
    ∷ waiting_run wait_or_notify_all ∷ [])
    (mark 2 spots.Method 6 ∷ mark 3 spots.Method 4 ∷ mark 4 spots.Method 4 ∷ [])

-- ---- each of two threads holds the monitor that the other one wants

abbrev pub make_two : List InstructionLine
make_two =
    line_to 0 3 (ops.New 4) (targets.Class 1) ∷ plain_line 3 4 (ops.Stack Dup)
    ∷ line_to 4 7 (ops.Invokespecial 11) (targets.Init 1)
    ∷ line_to 7 10 (ops.Putstatic 14) (targets.Field 0)
    ∷ line_to 10 13 (ops.New 4) (targets.Class 1) ∷ plain_line 13 14 (ops.Stack Dup)
    ∷ line_to 14 17 (ops.Invokespecial 11) (targets.Init 1)
    ∷ line_to 17 20 (ops.Putstatic 16) (targets.Field 1) ∷ plain_line 20 21 ops.Return ∷ []

abbrev pub enter_two : List InstructionLine
enter_two =
    plain_line 0 1 (ops.Iload 0) ∷ plain_line 1 2 (ops.Iconst (pos 1))
    ∷ plain_line 2 5 (ops.IfIcmp cmps.Ne 40) ∷ line_to 5 8 (ops.Getstatic 14) (targets.Field 0)
    ∷ plain_line 8 9 (ops.Stack Dup) ∷ plain_line 9 10 (ops.Astore 1)
    ∷ plain_line 10 11 ops.Monitorenter
    ∷ line_to 11 14 (ops.Getstatic 16) (targets.Field 1) ∷ plain_line 14 15 (ops.Stack Dup)
    ∷ plain_line 15 16 (ops.Astore 2) ∷ plain_line 16 17 ops.Monitorenter
    ∷ plain_line 17 18 (ops.Aload 2) ∷ plain_line 18 19 ops.Monitorexit
    ∷ plain_line 19 22 (ops.Goto 27) ∷ plain_line 22 23 (ops.Astore 3)
    ∷ plain_line 23 24 (ops.Aload 2) ∷ plain_line 24 25 ops.Monitorexit
    ∷ plain_line 25 26 (ops.Aload 3) ∷ plain_line 26 27 ops.Athrow
    ∷ plain_line 27 28 (ops.Aload 1) ∷ plain_line 28 29 ops.Monitorexit
    ∷ plain_line 29 32 (ops.Goto 39) ∷ plain_line 32 34 (ops.Astore 4)
    ∷ plain_line 34 35 (ops.Aload 1) ∷ plain_line 35 36 ops.Monitorexit
    ∷ plain_line 36 38 (ops.Aload 4) ∷ plain_line 38 39 ops.Athrow ∷ plain_line 39 40 ops.Return
    ∷ line_to 40 43 (ops.Getstatic 16) (targets.Field 1) ∷ plain_line 43 44 (ops.Stack Dup)
    ∷ plain_line 44 45 (ops.Astore 1) ∷ plain_line 45 46 ops.Monitorenter
    ∷ line_to 46 49 (ops.Getstatic 14) (targets.Field 0) ∷ plain_line 49 50 (ops.Stack Dup)
    ∷ plain_line 50 51 (ops.Astore 2) ∷ plain_line 51 52 ops.Monitorenter
    ∷ plain_line 52 53 (ops.Aload 2) ∷ plain_line 53 54 ops.Monitorexit
    ∷ plain_line 54 57 (ops.Goto 62) ∷ plain_line 57 58 (ops.Astore 3)
    ∷ plain_line 58 59 (ops.Aload 2) ∷ plain_line 59 60 ops.Monitorexit
    ∷ plain_line 60 61 (ops.Aload 3) ∷ plain_line 61 62 ops.Athrow
    ∷ plain_line 62 63 (ops.Aload 1) ∷ plain_line 63 64 ops.Monitorexit
    ∷ plain_line 64 67 (ops.Goto 74) ∷ plain_line 67 69 (ops.Astore 4)
    ∷ plain_line 69 70 (ops.Aload 1) ∷ plain_line 70 71 ops.Monitorexit
    ∷ plain_line 71 73 (ops.Aload 4) ∷ plain_line 73 74 ops.Athrow ∷ plain_line 74 75 ops.Return
    ∷ []

abbrev pub locks_out : MarkedProgram
locks_out =
    loaded (codes "X") 2 (static_field (kinds.Ref 1) 2070 ∷ static_field (kinds.Ref 1) 2071 ∷ [])
    (play_constructor ∷ play_method 9 (codes "init") (codes "()V") [] None 2 0 make_two []
    ∷ play_method 9 (codes "run") (codes "(I)V") (kinds.Int ∷ []) None 2 5 enter_two
    (handler_row 17 19 22 0 ∷ handler_row 22 25 22 0 ∷ handler_row 11 29 32 0
    ∷ handler_row 32 36 32 0 ∷ handler_row 52 54 57 0 ∷ handler_row 57 60 57 0
    ∷ handler_row 46 64 67 0 ∷ handler_row 67 71 67 0 ∷ []) ∷ [])
    (mark 2 (spots.Block 10) 8 ∷ mark 2 (spots.Block 16) 8 ∷ mark 2 (spots.Block 45) 8
    ∷ mark 2 (spots.Block 51) 8 ∷ [])

-- ---- each of two threads spins until the other one has written

abbrev pub spin : List InstructionLine
spin =
    plain_line 0 1 (ops.Iload 0) ∷ plain_line 1 2 (ops.Iconst (pos 1))
    ∷ plain_line 2 5 (ops.IfIcmp cmps.Ne 16) ∷ plain_line 5 6 (ops.Iconst (pos 1))
    ∷ line_to 6 9 (ops.Putstatic 14) (targets.Field 0)
    ∷ line_to 9 12 (ops.Getstatic 16) (targets.Field 1) ∷ plain_line 12 15 (ops.If cmps.Eq 9)
    ∷ plain_line 15 16 ops.Return ∷ line_to 16 19 (ops.Getstatic 14) (targets.Field 0)
    ∷ plain_line 19 22 (ops.If cmps.Eq 16) ∷ plain_line 22 23 (ops.Iconst (pos 1))
    ∷ line_to 23 26 (ops.Putstatic 16) (targets.Field 1) ∷ plain_line 26 27 ops.Return ∷ []

abbrev pub spins : MarkedProgram
spins =
    loaded (codes "H") 2 (static_field kinds.Int 2070 ∷ static_field kinds.Int 2071 ∷ [])
    (play_constructor ∷ waiting_run spin ∷ []) []
