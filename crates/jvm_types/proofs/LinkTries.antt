-- What the definitions of linking say of small programs, by computing.
use Rattle.std.proofs.Common.{◌≡◌, ℕ, ◌+◌, pos, List, [], ◌∷◌, Option, Some, None, refl, replicate, codes, map}
use Rattle.jvm_types.specs.{LinkFaults.{LinkFault, link_fault, in_file, in_method, word_pass}, Linked.program_of, declared.class_file.{ClassFile.ClassFile, Constant.Constant}}
use Rattle.jvm_types.specs.declared.class_file.{Constant.TheVariants.{Gap, Utf8, Integer, Float, Class, Field, Method, InterfaceMethod, NameAndType}, Handler.Handler, Member.{Member as ClassMember}}
use Rattle.jvm_types.specs.declared.{class_file.MemberAttr.TheVariants.Code, code.{Insn.Insn, Op.Op}}
use Rattle.jvm_types.specs.declared.code.Op.TheVariants.{Nop, Iconst, Ldc, Iadd, Return, Getstatic, Putstatic, Getfield, Putfield, Invokevirtual, Invokespecial, Invokestatic, New}
use Rattle.jvm_types.specs.declared.{program.{MethodInfo.MethodInfo, Target.Target}, refusal.LRule.TheVariants.{L1, L2, L3, L4, L5, L6, L7, L8, L9}}
use Rattle.jvm_types.specs.declared.program.Target.TheVariants as targets

-- ---- a pool for all of them

-- 0 to 19 are those of a class A whose `init` prints; the others are named where they are used
abbrev pool : List Constant
pool = Gap ∷ Utf8 (codes "A") ∷ Class 1 ∷ Utf8 (codes "java/lang/Object") ∷ Class 3
    ∷ Utf8 (codes "init") ∷ Utf8 (codes "()V") ∷ Utf8 (codes "Code") ∷ Utf8 (codes "java/lang/System") ∷ Class 8
    ∷ Utf8 (codes "out") ∷ Utf8 (codes "Ljava/io/PrintStream;") ∷ NameAndType 10 11 ∷ Field 9 12 ∷ Utf8 (codes "java/io/PrintStream")
    ∷ Class 14 ∷ Utf8 (codes "println") ∷ Utf8 (codes "(I)V") ∷ NameAndType 16 17 ∷ Method 15 18
    -- 20 println()V, 21 a Float, 22 the class C, which is no file, 24 its field x
    ∷ NameAndType 16 6 ∷ Float 0 ∷ Class 23 ∷ Utf8 (codes "C") ∷ Field 22 25
    ∷ NameAndType 26 27 ∷ Utf8 (codes "x") ∷ Utf8 (codes "I") ∷ Method 15 20 ∷ Field 2 25
    -- 30 java/lang/Exception, 32 the class B, 34 its field x, 35 its <init>()V, 36 Object's
    ∷ Class 31 ∷ Utf8 (codes "java/lang/Exception") ∷ Class 33 ∷ Utf8 (codes "B") ∷ Field 32 25
    ∷ Method 32 37 ∷ Method 4 37 ∷ NameAndType 38 6 ∷ Utf8 (codes "<init>") ∷ Utf8 (codes "wait")
    -- 40 A.wait()V, 42 an interface's method, 43 A.init()V, 45 x of type J, 48 <clinit>
    ∷ Method 2 41 ∷ NameAndType 39 6 ∷ InterfaceMethod 15 18 ∷ Method 2 44 ∷ NameAndType 5 6
    ∷ Field 2 46 ∷ NameAndType 26 47 ∷ Utf8 (codes "J") ∷ Utf8 (codes "<clinit>") ∷ Utf8 (codes "run")
    -- 50 the Exception's <init>()V, 51 an Integer
    ∷ Method 30 37 ∷ Integer (pos 9) ∷ []

-- ---- classes, and their instructions

abbrev coded : (flags name descriptor : ℕ) → List Handler → ClassMember
coded flags name descriptor rows = record { flags = flags; name = name; descriptor = descriptor; attrs = Code (record { max_stack = 1; max_locals = 2; bytes = []; rows = rows; attrs = []; name = 7 }) ∷ [] }

abbrev class : (name super flags : ℕ) → List ClassMember → List ClassMember → ClassFile
class name super flags fields methods = record { minor = 0; major = 50; constants = pool; flags = flags; this_class = name; super_class = super; interfaces = []; fields = fields; methods = methods; attrs = [] }

-- instructions one after another, of three bytes each
abbrev insns : ℕ → List Op → List Insn
insns pc [] = []
insns pc (op ∷ ops) = record { pc = pc; next = pc + 3; op = op } ∷ insns (pc + 3) ops

abbrev field : ℕ → ClassMember
field flags = record { flags = flags; name = 26; descriptor = 27; attrs = [] }

-- class A with a static `init()V` of these instructions, and fields
abbrev with_init : List ClassMember → List Op → Option LinkFault
with_init fields ops = link_fault (class 2 4 0 fields (coded 8 5 6 [] ∷ []) ∷ []) (insns 0 ops ∷ []) 65536 0

-- ---- the class that prints

prints : with_init [] (Getstatic 13 ∷ Iconst (pos 2) ∷ Iconst (pos 3) ∷ Iadd ∷ Invokevirtual 19 ∷ Return ∷ []) ≡ None
prints = refl

abbrev targets_of : List MethodInfo → List (List Target)
targets_of methods = map (λ m. m.targets) methods

prints_targets : targets_of (program_of (class 2 4 0 [] (coded 8 5 6 [] ∷ []) ∷ []) (insns 0 (Getstatic 13 ∷ Iconst (pos 2) ∷ Iconst (pos 3) ∷ Iadd ∷ Invokevirtual 19 ∷ Return ∷ []) ∷ []) 65536 0).methods
    ≡ (targets.Out ∷ targets.Nothing ∷ targets.Nothing ∷ targets.Nothing ∷ targets.Println ∷ targets.Nothing ∷ []) ∷ []
prints_targets = refl

-- ---- the third pass

no_such_class : with_init [] (Nop ∷ Getstatic 24 ∷ []) ≡ Some (L1, in_method 0 0 3)
no_such_class = refl

float_loaded : with_init [] (Ldc 21 ∷ []) ≡ Some (L1, in_method 0 0 0)
float_loaded = refl

int_loaded : with_init [] (Ldc 51 ∷ []) ≡ None
int_loaded = refl

gap_loaded : with_init [] (Ldc 0 ∷ Ldc 21 ∷ []) ≡ Some (L2, in_method 0 0 0)
gap_loaded = refl

println_without_argument : with_init [] (Getstatic 13 ∷ Iconst (pos 2) ∷ Invokevirtual 28 ∷ []) ≡ Some (L2, in_method 0 0 6)
println_without_argument = refl

other_kind : with_init [] (Invokevirtual 42 ∷ []) ≡ Some (L2, in_method 0 0 0)
other_kind = refl

other_descriptor : with_init (field 0 ∷ []) (Getfield 45 ∷ []) ≡ Some (L1, in_method 0 0 0)
other_descriptor = refl

out_written : with_init [] (Putstatic 13 ∷ []) ≡ Some (L7, in_method 0 0 0)
out_written = refl

out_as_instance : with_init [] (Putfield 13 ∷ []) ≡ Some (L2, in_method 0 0 0)
out_as_instance = refl

static_as_instance : with_init (field 8 ∷ []) (Getstatic 29 ∷ Getfield 29 ∷ []) ≡ Some (L2, in_method 0 0 3)
static_as_instance = refl

final_written : with_init (field 16 ∷ []) (Getfield 29 ∷ Putfield 29 ∷ []) ≡ Some (L7, in_method 0 0 3)
final_written = refl

private_read : link_fault (class 2 4 0 [] (coded 8 5 6 [] ∷ []) ∷ class 32 4 0 (field 2 ∷ []) [] ∷ []) (insns 0 (Getfield 34 ∷ []) ∷ []) 65536 0 ≡ Some (L3, in_method 0 0 0)
private_read = refl

-- a private final field of another class, and one that is written in an `<init>` of its own
private_final_written : link_fault (class 2 4 0 [] (coded 8 5 6 [] ∷ []) ∷ class 32 4 0 (field 18 ∷ []) [] ∷ []) (insns 0 (Putfield 34 ∷ []) ∷ []) 65536 0 ≡ Some (L3, in_method 0 0 0)
private_final_written = refl

final_in_init : link_fault (class 2 4 0 (field 18 ∷ []) (coded 0 38 6 [] ∷ []) ∷ []) (insns 0 (Putfield 29 ∷ Invokespecial 36 ∷ Return ∷ []) ∷ []) 65536 0 ≡ None
final_in_init = refl

-- `new` of the own class, of Object and of a throwable; then of the stream
made : with_init [] (New 2 ∷ New 4 ∷ New 30 ∷ Invokespecial 50 ∷ New 15 ∷ []) ≡ Some (L2, in_method 0 0 12)
made = refl

made_unknown : with_init [] (New 22 ∷ []) ≡ Some (L1, in_method 0 0 0)
made_unknown = refl

-- Object's `wait` by the own class, called virtually and specially; a static method called virtually
waits : with_init [] (Invokevirtual 40 ∷ Invokespecial 40 ∷ []) ≡ Some (L2, in_method 0 0 3)
waits = refl

static_called : with_init [] (Invokestatic 43 ∷ Invokevirtual 43 ∷ []) ≡ Some (L2, in_method 0 0 3)
static_called = refl

-- no `<init>` is found in a superclass
no_own_init : link_fault (class 2 4 0 [] (coded 8 5 6 [] ∷ []) ∷ class 32 4 0 [] [] ∷ []) (insns 0 (Invokespecial 36 ∷ Invokespecial 35 ∷ []) ∷ []) 65536 0 ≡ Some (L2, in_method 0 0 3)
no_own_init = refl

-- the instructions come before the rows; a row may name any class with a number
abbrev row : (start catch_type : ℕ) → Handler
row start catch_type = record { start = start; end = 3; handler = 0; catch_type = catch_type }

caught : link_fault (class 2 4 0 [] (coded 8 5 6 (row 0 0 ∷ row 0 30 ∷ row 0 2 ∷ row 1 9 ∷ row 2 22 ∷ []) ∷ []) ∷ []) (insns 0 (Nop ∷ []) ∷ []) 65536 0 ≡ Some (L1, in_method 0 0 1)
caught = refl

instruction_before_row : link_fault (class 2 4 0 [] (coded 8 5 6 (row 0 22 ∷ []) ∷ []) ∷ []) (insns 0 (Nop ∷ Ldc 0 ∷ []) ∷ []) 65536 0 ≡ Some (L2, in_method 0 0 3)
instruction_before_row = refl

-- ---- the first and the second pass

below_exception : link_fault (class 2 30 0 [] [] ∷ []) [] 65536 0 ≡ Some (L6, in_file 0 0)
below_exception = refl

interface : link_fault (class 32 4 0 [] [] ∷ class 2 4 512 [] [] ∷ []) [] 65536 0 ≡ Some (L6, in_file 1 0)
interface = refl

same_name : link_fault (class 2 4 0 [] [] ∷ class 2 4 0 [] [] ∷ []) [] 65536 0 ≡ Some (L5, in_file 1 0)
same_name = refl

built_in_name : link_fault (class 9 4 0 [] [] ∷ []) [] 65536 0 ≡ Some (L5, in_file 0 0)
built_in_name = refl

same_field : link_fault (class 2 4 0 (field 0 ∷ field 8 ∷ []) [] ∷ []) [] 65536 0 ≡ Some (L5, in_file 0 1)
same_field = refl

long_field : link_fault (class 2 4 0 (field 0 ∷ record { flags = 0; name = 26; descriptor = 47; attrs = [] } ∷ []) [] ∷ []) [] 65536 0 ≡ Some (L1, in_file 0 1)
long_field = refl

synchronized_init : link_fault (class 2 4 0 [] (coded 8 26 6 [] ∷ coded 40 5 6 [] ∷ []) ∷ []) ([] ∷ [] ∷ []) 65536 0 ≡ Some (L9, in_method 0 1 0)
synchronized_init = refl

synchronized_clinit : link_fault (class 2 4 0 [] (coded 8 5 6 [] ∷ []) ∷ class 32 4 0 [] (coded 40 48 6 [] ∷ []) ∷ []) ([] ∷ [] ∷ []) 65536 0 ≡ Some (L9, in_method 1 0 0)
synchronized_clinit = refl

-- `run()V`, another method, and the `init()V` of another class begin nothing
static_synchronized : link_fault (class 2 4 0 [] (coded 8 5 6 [] ∷ coded 40 49 6 [] ∷ coded 40 26 6 [] ∷ []) ∷ class 32 4 0 [] (coded 40 5 6 [] ∷ []) ∷ []) ([] ∷ [] ∷ [] ∷ [] ∷ []) 65536 0 ≡ None
static_synchronized = refl

-- ---- the fourth and the fifth pass

instance_entry : link_fault (class 2 4 0 [] (coded 0 5 6 [] ∷ []) ∷ []) ([] ∷ []) 65536 0 ≡ Some (L4, in_file 0 0)
instance_entry = refl

-- only the class of the first file is entered
instance_elsewhere : link_fault (class 32 4 0 [] [] ∷ class 2 4 0 [] (coded 0 5 6 [] ∷ []) ∷ []) ([] ∷ []) 65536 0 ≡ None
instance_elsewhere = refl

instance_class_init : link_fault (class 32 4 0 [] [] ∷ class 2 4 0 [] (coded 0 48 6 [] ∷ []) ∷ []) ([] ∷ []) 65536 0 ≡ Some (L4, in_file 0 0)
instance_class_init = refl

no_run : link_fault (class 2 4 0 [] [] ∷ []) [] 65536 1 ≡ Some (L4, in_file 0 0)
no_run = refl

run : link_fault (class 2 4 0 [] (coded 8 49 17 [] ∷ []) ∷ []) ([] ∷ []) 65536 8 ≡ None
run = refl

-- 4,096 words: the most static fields of one class
most_statics : word_pass (class 2 4 0 (replicate 2026 (field 8)) [] ∷ []) 4096 ≡ None
most_statics = refl

too_many_statics : word_pass (class 2 4 0 (replicate 2027 (field 8)) [] ∷ []) 4096 ≡ Some (L8, in_file 0 0)
too_many_statics = refl

-- ---- `wait` and `<init>` of a program's own, and the order of the passes

own_wait : targets_of (program_of (class 2 4 0 [] (coded 8 5 6 [] ∷ coded 0 39 6 [] ∷ []) ∷ []) (insns 0 (Invokevirtual 40 ∷ Invokevirtual 36 ∷ Return ∷ []) ∷ [] ∷ []) 65536 0).methods
    ≡ (targets.Method 1 ∷ targets.Nothing ∷ targets.Nothing ∷ []) ∷ [] ∷ []
own_wait = refl

private_wait : link_fault (class 2 4 0 [] (coded 2 39 6 [] ∷ []) ∷ class 32 4 0 [] (coded 8 5 6 [] ∷ coded 8 49 6 [] ∷ []) ∷ []) ([] ∷ [] ∷ insns 0 (Nop ∷ Invokevirtual 40 ∷ []) ∷ []) 65536 0 ≡ Some (L3, in_method 1 1 3)
private_wait = refl

static_wait : link_fault (class 2 4 0 [] (coded 8 39 6 [] ∷ []) ∷ []) (insns 0 (Invokevirtual 40 ∷ []) ∷ []) 65536 0 ≡ Some (L2, in_method 0 0 0)
static_wait = refl

classes_before_members : link_fault (class 2 4 0 (record { flags = 0; name = 26; descriptor = 47; attrs = [] } ∷ []) [] ∷ class 32 30 0 [] [] ∷ []) [] 65536 0 ≡ Some (L6, in_file 1 0)
classes_before_members = refl

superclass_before_name : link_fault (class 9 30 0 [] [] ∷ []) [] 65536 0 ≡ Some (L6, in_file 0 0)
superclass_before_name = refl

file_by_file : link_fault (class 9 4 0 [] [] ∷ class 2 30 0 [] [] ∷ []) [] 65536 0 ≡ Some (L5, in_file 0 0)
file_by_file = refl

row_before_next_method : link_fault (class 2 4 0 [] (coded 8 5 6 (row 2 22 ∷ []) ∷ coded 8 49 6 [] ∷ []) ∷ []) (insns 0 (Nop ∷ []) ∷ insns 0 (Ldc 0 ∷ []) ∷ []) 65536 0 ≡ Some (L1, in_method 0 0 2)
row_before_next_method = refl

private_init : link_fault (class 2 4 0 [] (coded 8 5 6 [] ∷ []) ∷ class 32 4 0 [] (coded 2 38 6 [] ∷ []) ∷ []) (insns 0 (Invokespecial 35 ∷ []) ∷ [] ∷ []) 65536 0 ≡ Some (L3, in_method 0 0 0)
private_init = refl

fields_before_methods : link_fault (class 2 4 0 (field 0 ∷ field 8 ∷ []) (coded 40 49 47 [] ∷ []) ∷ []) ([] ∷ []) 65536 0 ≡ Some (L5, in_file 0 1)
fields_before_methods = refl

repeated_before_synchronized : link_fault (class 32 4 0 [] [] ∷ class 2 4 0 [] (coded 8 49 6 [] ∷ coded 40 49 6 [] ∷ []) ∷ []) ([] ∷ [] ∷ []) 65536 0 ≡ Some (L5, in_method 1 1 0)
repeated_before_synchronized = refl

roots_before_words : link_fault (class 2 4 0 (replicate 1 (field 8)) (coded 0 5 6 [] ∷ []) ∷ []) ([] ∷ []) 10 0 ≡ Some (L4, in_file 0 0)
roots_before_words = refl

init_from_elsewhere : with_init [] (Invokevirtual 36 ∷ []) ≡ Some (L2, in_method 0 0 0)
init_from_elsewhere = refl
