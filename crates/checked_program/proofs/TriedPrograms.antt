-- Small programs that the definitions of this crate are tried on, and the visits that tag a method, computed.
use Rattle.std.proofs.Common.{ℕ, zero, suc, pos, List, [], ◌∷◌, Option, Some, None, Result, Ok, Err, map, codes}
use Rattle.jvm_types.specs.declared.{code.{Insn.Insn, Op.Op}, program.{FieldInfo.FieldInfo, Kind.Kind, MethodInfo.MethodInfo, Program.Program, Row.Row, Target.Target}, refusal.SRule.SRule}
use Rattle.jvm_types.proofs.SampleMethods.{insn}
use Rattle.checked_program.specs.{LockTags.TagShape, TaggedCode.Tagged, Tagging.tag_plan, Visits.{PlanNode, plan_nodes, next_waiting, plan_visited}}
use Rattle.jvm_types.specs.declared.code.Op.TheVariants as ops
use Rattle.jvm_types.specs.declared.stack_move.StackMove.TheVariants as moves
use Rattle.jvm_types.specs.declared.program.Kind.TheVariants as kinds
use Rattle.jvm_types.specs.declared.program.Target.TheVariants as targets

-- ---- the visits, computed

pub data Answer : Type 0 where
  Running : Answer
  Accepted : (frames : List (Option TagShape)) → Answer
  Refused : (rule : SRule) (pc : ℕ) → Answer

abbrev pub after_visit : Result (List (PlanNode TagShape)) (SRule × ℕ) → (List (PlanNode TagShape) → Answer) → Answer
after_visit (Err fault) more = Refused fault.0 fault.1
after_visit (Ok nodes) more = more nodes

abbrev pub at_visit : Option ℕ → List (PlanNode TagShape) → (ℕ → Result (List (PlanNode TagShape)) (SRule × ℕ)) → (List (PlanNode TagShape) → Answer) → Answer
at_visit None nodes visit more = Accepted (map (λ node. node.frame) nodes)
at_visit (Some i) nodes visit more = after_visit (visit i) more

-- up to so many visits
abbrev pub run : ℕ → Program → MethodInfo → List (PlanNode TagShape) → Answer
run zero p m nodes = Running
run (suc n) p m nodes = at_visit (next_waiting nodes) nodes (λ i. plan_visited (tag_plan p m) i nodes) (λ more. run n p m more)

abbrev pub tagged : Program → MethodInfo → Answer
tagged p m = run 60 p m (plan_nodes (tag_plan p m))

abbrev pub frames_in : Answer → List (Option TagShape)
frames_in (Accepted frames) = frames
frames_in answer = []

-- the tags of all methods of a program
abbrev pub tags_of : Program → Tagged
tags_of p = map (λ m. frames_in (tagged p m)) p.methods

-- ---- methods

-- an instruction with what its constant names
abbrev pub Line : Type 0
Line = Insn × Target

abbrev pub op : ℕ → ℕ → Op → Line
op pc next o = (insn pc next o, targets.Nothing)

abbrev pub names : ℕ → ℕ → Op → Target → Line
names pc next o target = (insn pc next o, target)

-- a method of class 17
abbrev pub method : ℕ → List ℕ → List Kind → Option Kind → ℕ → ℕ → List Line → List Row → MethodInfo
method flags name args result max_stack max_locals lines rows = record {
  class = 17;
  flags = flags;
  name = name;
  descriptor = codes "()V";
  args = args;
  result = result;
  max_stack = max_stack;
  max_locals = max_locals;
  code = map (λ line. line.0) lines;
  targets = map (λ line. line.1) lines;
  rows = rows;
}

abbrev pub to_handler : ℕ → ℕ → ℕ → Row
to_handler start stop handler = record { start = start; «end» = stop; handler = handler; catch_class = 0 }

abbrev pub constructor : MethodInfo
constructor = method 0 (codes "<init>") [] None 1 1 (op 0 1 (ops.Aload 0) ∷ names 1 4 (ops.Invokespecial 19) (targets.Init 1) ∷ op 4 5 ops.Return ∷ []) []

-- ---- a class with two private fields, a synchronized method that writes them and a block that reads them

abbrev pub private_int : ℕ → FieldInfo
private_int index = record { class = 17; flags = 2; kind = kinds.Int; index = index; start = pos 0 }

abbrev pub static_object : FieldInfo
static_object = record { class = 17; flags = 8; kind = kinds.Ref 17; index = 2070; start = pos 0 }

abbrev pub set : MethodInfo
set = method 32 (codes "set") (kinds.Int ∷ []) None 2 2
    (op 0 1 (ops.Aload 0) ∷ op 1 2 (ops.Iload 1) ∷ names 2 5 (ops.Putfield 22) (targets.Field 0)
    ∷ op 5 6 (ops.Aload 0) ∷ op 6 7 (ops.Iload 1) ∷ names 7 10 (ops.Putfield 24) (targets.Field 1) ∷ op 10 11 ops.Return ∷ []) []

abbrev pub sum : MethodInfo
sum = method 0 (codes "sum") [] (Some kinds.Int) 2 3
    (op 0 1 (ops.Aload 0) ∷ op 1 2 (ops.Stack moves.Dup) ∷ op 2 3 (ops.Astore 1) ∷ op 3 4 ops.Monitorenter
    ∷ op 4 5 (ops.Aload 0) ∷ names 5 8 (ops.Getfield 22) (targets.Field 0) ∷ op 8 9 (ops.Aload 0) ∷ names 9 12 (ops.Getfield 24) (targets.Field 1)
    ∷ op 12 13 ops.Iadd ∷ op 13 14 (ops.Aload 1) ∷ op 14 15 ops.Monitorexit ∷ op 15 16 ops.Ireturn
    ∷ op 16 17 (ops.Astore 2) ∷ op 17 18 (ops.Aload 1) ∷ op 18 19 ops.Monitorexit ∷ op 19 20 (ops.Aload 2) ∷ op 20 21 ops.Athrow ∷ [])
    (to_handler 4 15 16 ∷ to_handler 16 19 16 ∷ [])

abbrev pub program : List FieldInfo → List MethodInfo → Program
program fields methods = record { names = codes "P" ∷ []; fields = fields; methods = methods; heap = 4096; workers = 0 }

abbrev pub pair_fields : List FieldInfo
pair_fields = private_int 0 ∷ private_int 1 ∷ static_object ∷ []

-- what calls the two from outside
abbrev pub init : MethodInfo
init = method 8 (codes "init") [] None 2 0
    (names 0 3 (ops.New 2) (targets.Class 17) ∷ op 3 4 (ops.Stack moves.Dup) ∷ names 4 7 (ops.Invokespecial 20) (targets.Method 0) ∷ names 7 10 (ops.Putstatic 26) (targets.Field 2)
    ∷ names 10 13 (ops.Getstatic 26) (targets.Field 2) ∷ op 13 14 (ops.Iconst (pos 4)) ∷ names 14 17 (ops.Invokevirtual 28) (targets.Method 1)
    ∷ names 17 20 (ops.Getstatic 36) targets.Out ∷ names 20 23 (ops.Getstatic 26) (targets.Field 2) ∷ names 23 26 (ops.Invokevirtual 30) (targets.Method 2)
    ∷ names 26 29 (ops.Invokevirtual 41) targets.Println ∷ op 29 30 ops.Return ∷ []) []

abbrev pub pair : Program
pair = program pair_fields (constructor ∷ set ∷ sum ∷ init ∷ [])

-- ---- a class with a section for each mark

abbrev pub final_object : FieldInfo
final_object = record { class = 17; flags = 18; kind = kinds.Ref 1; index = 2; start = pos 0 }

abbrev pub many_fields : List FieldInfo
many_fields = private_int 0 ∷ private_int 1 ∷ static_object ∷ final_object ∷ []

-- a synchronized method that allocates
abbrev pub makes : MethodInfo
makes = method 32 (codes "makes") [] None 1 1 (names 0 3 (ops.New 2) (targets.Class 17) ∷ op 3 4 (ops.Stack moves.Pop) ∷ op 4 5 ops.Return ∷ []) []

-- one that calls a synchronized method of its argument
abbrev pub sets_other : MethodInfo
sets_other = method 32 (codes "sets_other") (kinds.Ref 17 ∷ []) None 2 2 (op 0 1 (ops.Aload 1) ∷ op 1 2 (ops.Iconst (pos 1)) ∷ names 2 5 (ops.Invokevirtual 28) (targets.Method 1) ∷ op 5 6 ops.Return ∷ []) []

abbrev pub notifies : MethodInfo
notifies = method 32 (codes "notifies") [] None 1 1 (op 0 1 (ops.Aload 0) ∷ names 1 4 (ops.Invokevirtual 50) targets.Notify ∷ op 4 5 ops.Return ∷ []) []

abbrev pub reads_static : MethodInfo
reads_static = method 32 (codes "reads_static") [] None 1 1 (names 0 3 (ops.Getstatic 26) (targets.Field 2) ∷ op 3 4 (ops.Stack moves.Pop) ∷ op 4 5 ops.Return ∷ []) []

-- a method that prints, and a section that calls it
abbrev pub prints : MethodInfo
prints = method 0 (codes "prints") [] None 2 1 (names 0 3 (ops.Getstatic 36) targets.Out ∷ op 3 4 (ops.Iconst (pos 1)) ∷ names 4 7 (ops.Invokevirtual 41) targets.Println ∷ op 7 8 ops.Return ∷ []) []

abbrev pub calls_on_this : List ℕ → ℕ → MethodInfo
calls_on_this name u = method 32 name [] None 1 1 (op 0 1 (ops.Aload 0) ∷ names 1 4 (ops.Invokevirtual 51) (targets.Method u) ∷ op 4 5 ops.Return ∷ []) []

-- a method that calls itself
abbrev pub again : MethodInfo
again = method 0 (codes "again") [] None 1 1 (op 0 1 (ops.Aload 0) ∷ names 1 4 (ops.Invokevirtual 53) (targets.Method 9) ∷ op 4 5 ops.Return ∷ []) []

-- a block on the value of a final field
abbrev pub locks_field : MethodInfo
locks_field = method 0 (codes "locks_field") [] None 2 2
    (op 0 1 (ops.Aload 0) ∷ names 1 4 (ops.Getfield 54) (targets.Field 3) ∷ op 4 5 (ops.Stack moves.Dup) ∷ op 5 6 (ops.Astore 1) ∷ op 6 7 ops.Monitorenter ∷ op 7 8 (ops.Aload 1) ∷ op 8 9 ops.Monitorexit ∷ op 9 10 ops.Return ∷ []) []

-- two calls of the block, on this
abbrev pub twice : MethodInfo
twice = method 32 (codes "twice") [] (Some kinds.Int) 2 1
    (op 0 1 (ops.Aload 0) ∷ names 1 4 (ops.Invokevirtual 30) (targets.Method 2) ∷ op 4 5 (ops.Aload 0) ∷ names 5 8 (ops.Invokevirtual 30) (targets.Method 2) ∷ op 8 9 ops.Iadd ∷ op 9 10 ops.Ireturn ∷ []) []

-- and one of the block of another object
abbrev pub sums_other : MethodInfo
sums_other = method 32 (codes "sums_other") (kinds.Ref 17 ∷ []) None 1 2 (op 0 1 (ops.Aload 1) ∷ names 1 4 (ops.Invokevirtual 30) (targets.Method 2) ∷ op 4 5 (ops.Stack moves.Pop) ∷ op 5 6 ops.Return ∷ []) []

abbrev pub many : Program
many = program many_fields (constructor ∷ set ∷ sum ∷ makes ∷ sets_other ∷ notifies ∷ reads_static ∷ prints ∷ calls_on_this (codes "calls_printer") 7
    ∷ again ∷ calls_on_this (codes "calls_again") 9 ∷ locks_field ∷ twice ∷ sums_other ∷ [])

-- ---- classes whose field is neither frozen nor guarded

-- the constructor stores its object in a static field
abbrev pub leaking_constructor : MethodInfo
leaking_constructor = method 0 (codes "<init>") [] None 2 1
    (op 0 1 (ops.Aload 0) ∷ names 1 4 (ops.Invokespecial 19) (targets.Init 1) ∷ op 4 5 (ops.Aload 0) ∷ names 5 8 (ops.Putstatic 26) (targets.Field 1)
    ∷ op 8 9 (ops.Aload 0) ∷ op 9 10 (ops.Iconst (pos 1)) ∷ names 10 13 (ops.Putfield 22) (targets.Field 0) ∷ op 13 14 ops.Return ∷ []) []

abbrev pub get : MethodInfo
get = method 32 (codes "get") [] (Some kinds.Int) 1 1 (op 0 1 (ops.Aload 0) ∷ names 1 4 (ops.Getfield 22) (targets.Field 0) ∷ op 4 5 ops.Ireturn ∷ []) []

abbrev pub one_field : List FieldInfo
one_field = private_int 0 ∷ static_object ∷ []

abbrev pub leaking : Program
leaking = program one_field (leaking_constructor ∷ get ∷ [])

-- a method that writes the field, and what it writes it on
abbrev pub writer : ℕ → ℕ → MethodInfo
writer flags i = method flags (codes "write") (kinds.Ref 17 ∷ []) None 2 2 (op 0 1 (ops.Aload i) ∷ op 1 2 (ops.Iconst (pos 1)) ∷ names 2 5 (ops.Putfield 22) (targets.Field 0) ∷ op 5 6 ops.Return ∷ []) []

-- on `this` without its monitor, and on another object with the monitor of `this`
abbrev pub unlocked : Program
unlocked = program one_field (constructor ∷ get ∷ writer 0 0 ∷ [])

abbrev pub on_another : Program
on_another = program one_field (constructor ∷ get ∷ writer 32 1 ∷ [])
