-- What the definitions of verification say of small methods, by computing.
use Rattle.std.proofs.Common.{◌≡◌, ℕ, zero, suc, pos, true, false, List, [], ◌∷◌, Option, Some, None, Result, Ok, Err, refl, map, codes}
use Rattle.jvm_types.specs.{ClassTree.{is_subclass, common_ancestor}, Types.{TypeFrame, meet}, Verifying.{Node, first_nodes, next_visit, visited}, declared.code.Insn.Insn}
use Rattle.jvm_types.specs.declared.{program.{FieldInfo.FieldInfo, MethodInfo.MethodInfo, Program.Program, Row.Row, Target.Target}, refusal.VRule.{VRule, TheVariants.{V1, V2, V3, V4, V5, V6, V7, V8}}}
use Rattle.jvm_types.{specs.declared.typing.VType.{VType, TheVariants.{Int, Null, Ref, This, New, Top}}, proofs.SampleMethods.{insn, method}}
use Rattle.jvm_types.specs.declared.code.Op.TheVariants as ops
use Rattle.jvm_types.specs.declared.stack_move.StackMove.TheVariants as moves
use Rattle.jvm_types.specs.declared.code.Cmp.TheVariants as cmps
use Rattle.jvm_types.specs.declared.program.Kind.TheVariants as kinds
use Rattle.jvm_types.specs.declared.program.Target.TheVariants as targets

-- ---- the visits, computed

data Answer : Type 0 where
  Running : Answer
  Typed : (frames : List (Option TypeFrame)) → Answer
  Refused : (rule : VRule) (pc : ℕ) → Answer

abbrev after_visit : Result (List Node) (VRule × ℕ) → (List Node → Answer) → Answer
after_visit (Err fault) more = Refused fault.0 fault.1
after_visit (Ok nodes) more = more nodes

abbrev at_visit : Option ℕ → List Node → (ℕ → Result (List Node) (VRule × ℕ)) → (List Node → Answer) → Answer
at_visit None nodes visit more = Typed (map (λ node. node.frame) nodes)
at_visit (Some i) nodes visit more = after_visit (visit i) more

-- up to so many visits
abbrev run : ℕ → Program → MethodInfo → List Node → Answer
run zero p m nodes = Running
run (suc n) p m nodes = at_visit (next_visit nodes) nodes (λ i. visited p m i nodes) (λ more. run n p m more)

abbrev verified : Program → MethodInfo → Answer
verified p m = run 40 p m (first_nodes m m.code)

-- ---- a program and small methods

abbrev ints : FieldInfo
ints = record { class = 17; flags = 2; kind = kinds.Int; index = 0; start = pos 0 }

abbrev statics : FieldInfo
statics = record { class = 17; flags = 8; kind = kinds.Ref 17; index = 2070; start = pos 0 }

abbrev nothing : Target
nothing = targets.Nothing

abbrev constructor : MethodInfo
constructor = method 0 (codes "<init>") 1 1 (insn 0 1 (ops.Aload 0) ∷ insn 1 4 (ops.Invokespecial 19) ∷ insn 4 5 ops.Return ∷ []) (nothing ∷ targets.Init 1 ∷ nothing ∷ []) []

abbrev program : Program
program = record { names = codes "P" ∷ []; fields = ints ∷ ints ∷ statics ∷ []; methods = constructor ∷ []; heap = 4096; workers = 0 }

-- a static method of max_stack 1 without locals
abbrev small : List Insn → List Target → MethodInfo
small code named = method 8 (codes "m") 1 0 code named []

-- ---- one refusal by each rule

too_few : verified program (small (insn 0 1 (ops.Stack moves.Pop) ∷ insn 1 2 ops.Return ∷ []) (nothing ∷ nothing ∷ [])) ≡ Refused V1 0
unfolding is_subclass common_ancestor
too_few = refl

too_many : verified program (small (insn 0 1 (ops.Iconst (pos 0)) ∷ insn 1 2 (ops.Iconst (pos 0)) ∷ insn 2 3 (ops.Stack moves.Pop) ∷ insn 3 4 (ops.Stack moves.Pop) ∷ insn 4 5 ops.Return ∷ []) (nothing ∷ nothing ∷ nothing ∷ nothing ∷ nothing ∷ [])) ≡ Refused V2 1
unfolding is_subclass common_ancestor
too_many = refl

no_such_local : verified program (small (insn 0 1 (ops.Iload 0) ∷ insn 1 2 (ops.Stack moves.Pop) ∷ insn 2 3 ops.Return ∷ []) (nothing ∷ nothing ∷ nothing ∷ [])) ≡ Refused V3 0
unfolding is_subclass common_ancestor
no_such_local = refl

-- `this` has no local
no_place_for_this : verified program (method 0 (codes "m") 1 0 (insn 0 1 ops.Return ∷ []) (nothing ∷ []) []) ≡ Refused V3 0
unfolding is_subclass common_ancestor
no_place_for_this = refl

-- the stack rules of pc 0 go before
no_place_and_too_few : verified program (method 0 (codes "m") 1 0 (insn 0 1 (ops.Stack moves.Pop) ∷ []) (nothing ∷ []) []) ≡ Refused V1 0
unfolding is_subclass common_ancestor
no_place_and_too_few = refl

no_int : verified program (small (insn 0 1 ops.AconstNull ∷ insn 1 2 ops.Ineg ∷ insn 2 3 (ops.Stack moves.Pop) ∷ insn 3 4 ops.Return ∷ []) (nothing ∷ nothing ∷ nothing ∷ nothing ∷ [])) ≡ Refused V4 1
unfolding is_subclass common_ancestor
no_int = refl

other_depth : verified program (small (insn 0 1 (ops.Iconst (pos 0)) ∷ insn 1 4 (ops.If cmps.Eq 5) ∷ insn 4 5 (ops.Iconst (pos 0)) ∷ insn 5 6 ops.Return ∷ []) (nothing ∷ nothing ∷ nothing ∷ nothing ∷ [])) ≡ Refused V5 5
unfolding is_subclass common_ancestor
other_depth = refl

no_end : verified program (small (insn 0 1 ops.Nop ∷ []) (nothing ∷ [])) ≡ Refused V6 0
unfolding is_subclass common_ancestor
no_end = refl

entered_too_soon : verified program (small (insn 0 3 (ops.New 2) ∷ insn 3 4 ops.Monitorenter ∷ insn 4 5 ops.Return ∷ []) (targets.Class 17 ∷ nothing ∷ nothing ∷ [])) ≡ Refused V7 3
unfolding is_subclass common_ancestor
entered_too_soon = refl

no_result_asked : verified program (small (insn 0 1 (ops.Iconst (pos 0)) ∷ insn 1 2 ops.Ireturn ∷ []) (nothing ∷ nothing ∷ [])) ≡ Refused V8 1
unfolding is_subclass common_ancestor
no_result_asked = refl

-- ---- uninitialised objects

-- `this` is not initialised at the return
never_started : verified program (method 0 (codes "<init>") 1 1 (insn 0 1 ops.Return ∷ []) (nothing ∷ []) []) ≡ Refused V7 0
unfolding is_subclass common_ancestor
never_started = refl

-- a branch back while an object that `new` made lies on the stack
back_with_new : verified program (small (insn 0 3 (ops.New 2) ∷ insn 3 6 (ops.Goto 0) ∷ []) (targets.Class 17 ∷ nothing ∷ [])) ≡ Refused V7 3
unfolding is_subclass common_ancestor
back_with_new = refl

-- an `<init>` of Object on what a `new` of another class made and on null, and one on an initialised object
other_start : verified program (small (insn 0 3 (ops.New 2) ∷ insn 3 6 (ops.Invokespecial 19) ∷ insn 6 7 ops.Return ∷ []) (targets.Class 17 ∷ targets.Init 1 ∷ nothing ∷ [])) ≡ Refused V4 3
unfolding is_subclass common_ancestor
other_start = refl

null_start : verified program (small (insn 0 1 ops.AconstNull ∷ insn 1 4 (ops.Invokespecial 19) ∷ insn 4 5 ops.Return ∷ []) (nothing ∷ targets.Init 1 ∷ nothing ∷ [])) ≡ Refused V4 1
unfolding is_subclass common_ancestor
null_start = refl

second_start : verified program (small (insn 0 3 (ops.Getstatic 26) ∷ insn 3 6 (ops.Invokespecial 20) ∷ insn 6 7 ops.Return ∷ []) (targets.Field 2 ∷ targets.Method 0 ∷ nothing ∷ [])) ≡ Refused V7 3
unfolding is_subclass common_ancestor
second_start = refl

-- a `putfield` of the own class before `this` is initialised is accepted, a `getfield` is not
early_write : verified program (method 0 (codes "<init>") 2 1
    (insn 0 1 (ops.Aload 0) ∷ insn 1 2 (ops.Iconst (pos 1)) ∷ insn 2 5 (ops.Putfield 22) ∷ insn 5 6 (ops.Aload 0) ∷ insn 6 9 (ops.Invokespecial 19) ∷ insn 9 10 ops.Return ∷ [])
    (nothing ∷ nothing ∷ targets.Field 0 ∷ nothing ∷ targets.Init 1 ∷ nothing ∷ []) [])
    ≡ Typed (Some (record { stack = []; locals = This ∷ []; ready = false }) ∷ Some (record { stack = This ∷ []; locals = This ∷ []; ready = false })
    ∷ Some (record { stack = Int ∷ This ∷ []; locals = This ∷ []; ready = false }) ∷ Some (record { stack = []; locals = This ∷ []; ready = false })
    ∷ Some (record { stack = This ∷ []; locals = This ∷ []; ready = false }) ∷ Some (record { stack = []; locals = Ref 17 ∷ []; ready = true }) ∷ [])
unfolding is_subclass common_ancestor
early_write = refl

early_read : verified program (method 0 (codes "<init>") 2 1 (insn 0 1 (ops.Aload 0) ∷ insn 1 4 (ops.Getfield 22) ∷ []) (nothing ∷ targets.Field 0 ∷ []) []) ≡ Refused V7 1
unfolding is_subclass common_ancestor
early_read = refl

-- a handler row over an instruction with such an object in a local
covered_new : verified program (method 8 (codes "m") 1 1 (insn 0 3 (ops.New 2) ∷ insn 3 4 (ops.Astore 0) ∷ insn 4 5 ops.Nop ∷ insn 5 6 ops.Return ∷ insn 6 7 ops.Athrow ∷ [])
    (targets.Class 17 ∷ nothing ∷ nothing ∷ nothing ∷ nothing ∷ []) (record { start = 4; end = 5; handler = 6; catch_class = 0 } ∷ [])) ≡ Refused V7 4
unfolding is_subclass common_ancestor
covered_new = refl

-- a catch type that is no throwable, and a handler with no room for the exception
no_throwable : verified program (method 8 (codes "m") 1 0 (insn 0 1 ops.Nop ∷ insn 1 2 ops.Return ∷ insn 2 3 ops.Athrow ∷ []) (nothing ∷ nothing ∷ nothing ∷ [])
    (record { start = 0; end = 1; handler = 2; catch_class = 17 } ∷ [])) ≡ Refused V4 2
unfolding is_subclass common_ancestor
no_throwable = refl

no_room : verified program (method 8 (codes "m") 0 0 (insn 0 1 ops.Nop ∷ insn 1 2 ops.Return ∷ insn 2 3 ops.Athrow ∷ []) (nothing ∷ nothing ∷ nothing ∷ [])
    (record { start = 0; end = 1; handler = 2; catch_class = 0 } ∷ [])) ≡ Refused V2 0
unfolding is_subclass common_ancestor
no_room = refl

-- ---- typings

the_constructor : verified program constructor ≡ Typed (Some (record { stack = []; locals = This ∷ []; ready = false })
    ∷ Some (record { stack = This ∷ []; locals = This ∷ []; ready = false }) ∷ Some (record { stack = []; locals = Ref 17 ∷ []; ready = true }) ∷ [])
unfolding is_subclass common_ancestor
the_constructor = refl

abbrev frame : List VType → List VType → Option TypeFrame
frame stack locals = Some (record { stack = stack; locals = locals; ready = true })

-- a block on `this` in the shape of javac: both rows lead to 16, where local 2 is of no known type
abbrev block : MethodInfo
block = record (method 0 (codes "sum") 2 3
    (insn 0 1 (ops.Aload 0) ∷ insn 1 2 (ops.Stack moves.Dup) ∷ insn 2 3 (ops.Astore 1) ∷ insn 3 4 ops.Monitorenter ∷ insn 4 5 (ops.Aload 0) ∷ insn 5 8 (ops.Getfield 22)
    ∷ insn 8 9 (ops.Aload 0) ∷ insn 9 12 (ops.Getfield 24) ∷ insn 12 13 ops.Iadd ∷ insn 13 14 (ops.Aload 1) ∷ insn 14 15 ops.Monitorexit ∷ insn 15 16 ops.Ireturn
    ∷ insn 16 17 (ops.Astore 2) ∷ insn 17 18 (ops.Aload 1) ∷ insn 18 19 ops.Monitorexit ∷ insn 19 20 (ops.Aload 2) ∷ insn 20 21 ops.Athrow ∷ [])
    (nothing ∷ nothing ∷ nothing ∷ nothing ∷ nothing ∷ targets.Field 0 ∷ nothing ∷ targets.Field 1 ∷ nothing ∷ nothing ∷ nothing ∷ nothing
    ∷ nothing ∷ nothing ∷ nothing ∷ nothing ∷ nothing ∷ [])
    (record { start = 4; end = 15; handler = 16; catch_class = 0 } ∷ record { start = 16; end = 19; handler = 16; catch_class = 0 } ∷ [])) { descriptor = codes "()I"; result = Some kinds.Int }

the_block : verified program block ≡ Typed (frame [] (Ref 17 ∷ Top ∷ Top ∷ []) ∷ frame (Ref 17 ∷ []) (Ref 17 ∷ Top ∷ Top ∷ []) ∷ frame (Ref 17 ∷ Ref 17 ∷ []) (Ref 17 ∷ Top ∷ Top ∷ [])
    ∷ frame (Ref 17 ∷ []) (Ref 17 ∷ Ref 17 ∷ Top ∷ []) ∷ frame [] (Ref 17 ∷ Ref 17 ∷ Top ∷ []) ∷ frame (Ref 17 ∷ []) (Ref 17 ∷ Ref 17 ∷ Top ∷ []) ∷ frame (Int ∷ []) (Ref 17 ∷ Ref 17 ∷ Top ∷ [])
    ∷ frame (Ref 17 ∷ Int ∷ []) (Ref 17 ∷ Ref 17 ∷ Top ∷ []) ∷ frame (Int ∷ Int ∷ []) (Ref 17 ∷ Ref 17 ∷ Top ∷ []) ∷ frame (Int ∷ []) (Ref 17 ∷ Ref 17 ∷ Top ∷ [])
    ∷ frame (Ref 17 ∷ Int ∷ []) (Ref 17 ∷ Ref 17 ∷ Top ∷ []) ∷ frame (Int ∷ []) (Ref 17 ∷ Ref 17 ∷ Top ∷ []) ∷ frame (Ref 4 ∷ []) (Ref 17 ∷ Ref 17 ∷ Top ∷ [])
    ∷ frame [] (Ref 17 ∷ Ref 17 ∷ Ref 4 ∷ []) ∷ frame (Ref 17 ∷ []) (Ref 17 ∷ Ref 17 ∷ Ref 4 ∷ []) ∷ frame [] (Ref 17 ∷ Ref 17 ∷ Ref 4 ∷ []) ∷ frame (Ref 4 ∷ []) (Ref 17 ∷ Ref 17 ∷ Ref 4 ∷ []) ∷ [])
unfolding is_subclass common_ancestor
the_block = refl

-- the sum that is printed
prints_a_sum : verified program (method 9 (codes "init") 3 0
    (insn 0 3 (ops.Getstatic 13) ∷ insn 3 4 (ops.Iconst (pos 2)) ∷ insn 4 5 (ops.Iconst (pos 3)) ∷ insn 5 6 ops.Iadd ∷ insn 6 9 (ops.Invokevirtual 19) ∷ insn 9 10 ops.Return ∷ [])
    (targets.Out ∷ nothing ∷ nothing ∷ nothing ∷ targets.Println ∷ nothing ∷ []) [])
    ≡ Typed (frame [] [] ∷ frame (Ref 3 ∷ []) [] ∷ frame (Int ∷ Ref 3 ∷ []) [] ∷ frame (Int ∷ Int ∷ Ref 3 ∷ []) [] ∷ frame (Int ∷ Ref 3 ∷ []) [] ∷ frame [] [] ∷ [])
unfolding is_subclass common_ancestor
prints_a_sum = refl

-- `new`, `dup`, `<init>`: both copies are initialised at once
new_object : verified program (method 8 (codes "init") 2 0 (insn 0 3 (ops.New 2) ∷ insn 3 4 (ops.Stack moves.Dup) ∷ insn 4 7 (ops.Invokespecial 20) ∷ insn 7 10 (ops.Putstatic 26) ∷ insn 10 11 ops.Return ∷ [])
    (targets.Class 17 ∷ nothing ∷ targets.Method 0 ∷ targets.Field 2 ∷ nothing ∷ []) [])
    ≡ Typed (frame [] [] ∷ frame (New 0 ∷ []) [] ∷ frame (New 0 ∷ New 0 ∷ []) [] ∷ frame (Ref 17 ∷ []) [] ∷ frame [] [] ∷ [])
unfolding is_subclass common_ancestor
new_object = refl

-- two catch types with one handler: what is caught there is some Throwable
two_catch_types : verified program (method 8 (codes "m") 1 0 (insn 0 1 ops.Nop ∷ insn 1 2 ops.Return ∷ insn 2 3 (ops.Stack moves.Pop) ∷ insn 3 4 ops.Return ∷ insn 4 5 ops.Nop ∷ []) (nothing ∷ nothing ∷ nothing ∷ nothing ∷ nothing ∷ [])
    (record { start = 0; end = 1; handler = 2; catch_class = 9 } ∷ record { start = 0; end = 2; handler = 2; catch_class = 14 } ∷ []))
    ≡ Typed (frame [] [] ∷ frame [] [] ∷ frame (Ref 4 ∷ []) [] ∷ frame [] [] ∷ None ∷ [])
unfolding is_subclass common_ancestor
two_catch_types = refl

-- a loop that makes local 0 of no known type is visited twice before its end is
loop : verified program (method 8 (codes "m") 1 1
    (insn 0 1 (ops.Iconst (pos 3)) ∷ insn 1 2 (ops.Istore 0) ∷ insn 2 3 (ops.Iconst (pos 1)) ∷ insn 3 6 (ops.If cmps.Eq 11) ∷ insn 6 7 ops.AconstNull ∷ insn 7 8 (ops.Astore 0) ∷ insn 8 11 (ops.Goto 2) ∷ insn 11 12 ops.Return ∷ [])
    (nothing ∷ nothing ∷ nothing ∷ nothing ∷ nothing ∷ nothing ∷ nothing ∷ nothing ∷ []) [])
    ≡ Typed (frame [] (Top ∷ []) ∷ frame (Int ∷ []) (Top ∷ []) ∷ frame [] (Top ∷ []) ∷ frame (Int ∷ []) (Top ∷ []) ∷ frame [] (Top ∷ []) ∷ frame (Null ∷ []) (Top ∷ [])
    ∷ frame [] (Null ∷ []) ∷ frame [] (Top ∷ []) ∷ [])
unfolding is_subclass common_ancestor
loop = refl

-- ---- edges to handlers and the order of rules

abbrev two_nothings : List Target
two_nothings = nothing ∷ nothing ∷ []

abbrev to_handler : (start end handler : ℕ) → Row
to_handler start end handler = record { start = start; end = end; handler = handler; catch_class = 0 }

-- a handler that code falls into with two values on the stack
handler_of_other_depth : verified program (method 8 (codes "m") 2 0
    (insn 0 1 (ops.Iconst (pos 0)) ∷ insn 1 2 (ops.Iconst (pos 0)) ∷ insn 2 3 ops.Nop ∷ insn 3 4 (ops.Stack moves.Pop) ∷ insn 4 5 ops.Return ∷ [])
    (nothing ∷ nothing ∷ nothing ∷ two_nothings) (to_handler 2 3 3 ∷ [])) ≡ Refused V5 3
unfolding is_subclass common_ancestor
handler_of_other_depth = refl

end_before_row : verified program (method 8 (codes "m") 0 0 (insn 0 1 ops.Nop ∷ []) (nothing ∷ []) (to_handler 0 1 0 ∷ [])) ≡ Refused V6 0
unfolding is_subclass common_ancestor
end_before_row = refl

depth_before_end : verified program (method 8 (codes "m") 2 0
    (insn 0 1 (ops.Iconst (pos 0)) ∷ insn 1 2 (ops.Iconst (pos 0)) ∷ insn 2 5 (ops.If cmps.Eq 0) ∷ []) (nothing ∷ two_nothings) []) ≡ Refused V5 0
unfolding is_subclass common_ancestor
depth_before_end = refl

-- ---- returns

other_class_returned : verified program (record (small (insn 0 3 (ops.Getstatic 26) ∷ insn 3 4 ops.Areturn ∷ []) (targets.Field 2 ∷ nothing ∷ [])) { result = Some (kinds.Ref 18) }) ≡ Refused V4 3
unfolding is_subclass common_ancestor
other_class_returned = refl

reference_where_void : verified program (small (insn 0 3 (ops.Getstatic 26) ∷ insn 3 4 ops.Areturn ∷ []) (targets.Field 2 ∷ nothing ∷ [])) ≡ Refused V8 3
unfolding is_subclass common_ancestor
reference_where_void = refl

int_as_reference : verified program (small (insn 0 1 (ops.Iconst (pos 0)) ∷ insn 1 2 ops.Areturn ∷ []) two_nothings) ≡ Refused V4 1
unfolding is_subclass common_ancestor
int_as_reference = refl

-- ---- `this` before it is initialised, and what `new` made

back_with_this : verified program (method 0 (codes "<init>") 1 1 (insn 0 3 (ops.Goto 0) ∷ []) (nothing ∷ []) []) ≡ Refused V7 0
unfolding is_subclass common_ancestor
back_with_this = refl

-- `this` is initialised on one of two ways to the return
started_on_one_way : verified program (record (method 0 (codes "<init>") 1 2
    (insn 0 1 (ops.Iload 1) ∷ insn 1 4 (ops.If cmps.Eq 8) ∷ insn 4 5 (ops.Aload 0) ∷ insn 5 8 (ops.Invokespecial 19) ∷ insn 8 9 ops.Return ∷ [])
    (nothing ∷ nothing ∷ nothing ∷ targets.Init 1 ∷ nothing ∷ []) []) { args = kinds.Int ∷ [] }) ≡ Refused V7 8
unfolding is_subclass common_ancestor
started_on_one_way = refl

static_init : verified program (method 8 (codes "<init>") 1 1 (insn 0 1 ops.Return ∷ []) (nothing ∷ []) []) ≡ Refused V7 0
unfolding is_subclass common_ancestor
static_init = refl

-- the handler finds the locals as they are before the `astore`
new_stored_where_covered : verified program (method 8 (codes "m") 1 1
    (insn 0 3 (ops.New 2) ∷ insn 3 4 (ops.Astore 0) ∷ insn 4 5 ops.Return ∷ insn 5 6 ops.Athrow ∷ []) (targets.Class 17 ∷ nothing ∷ two_nothings) (to_handler 3 4 5 ∷ []))
    ≡ Typed (frame [] (Top ∷ []) ∷ frame (New 0 ∷ []) (Top ∷ []) ∷ frame [] (New 0 ∷ []) ∷ frame (Ref 4 ∷ []) (Top ∷ []) ∷ [])
unfolding is_subclass common_ancestor
new_stored_where_covered = refl

-- the top of three values goes below them
copied_below_three : verified program (method 8 (codes "m") 4 0
    (insn 0 1 (ops.Iconst (pos 0)) ∷ insn 1 2 ops.AconstNull ∷ insn 2 5 (ops.Getstatic 26) ∷ insn 5 6 (ops.Stack moves.DupX2) ∷ insn 6 7 ops.Return ∷ [])
    (nothing ∷ nothing ∷ targets.Field 2 ∷ two_nothings) [])
    ≡ Typed (frame [] [] ∷ frame (Int ∷ []) [] ∷ frame (Null ∷ Int ∷ []) [] ∷ frame (Ref 17 ∷ Null ∷ Int ∷ []) [] ∷ frame (Ref 17 ∷ Null ∷ Int ∷ Ref 17 ∷ []) [] ∷ [])
unfolding is_subclass common_ancestor
copied_below_three = refl

-- ---- the tree of classes

-- of errors, exceptions and classes of a file
nearest : map (λ (c : ℕ × ℕ). common_ancestor c.0 c.1) ((9, 14) ∷ (9, 10) ∷ (7, 8) ∷ (17, 2) ∷ (18, 18) ∷ []) ≡ 4 ∷ 7 ∷ 5 ∷ 1 ∷ 18 ∷ []
unfolding is_subclass common_ancestor
nearest = refl

null_and_class : meet Null (Ref 9) ≡ Ref 9
unfolding is_subclass common_ancestor
null_and_class = refl

new_and_new : meet (New 4) (New 7) ≡ Top
unfolding is_subclass common_ancestor
new_and_new = refl
