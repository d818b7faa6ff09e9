-- The class of a load: one object with two counters, and as many synchronized methods as the load's
-- size says, which add to them by factors that come from a number. Each worker calls each method,
-- and reads both counters behind each call.
use Rattle.std.specs.Prelude.{ℕ, zero, suc, ◌+◌, ◌*◌, ◌/◌, ◌%◌, ◌^◌, List, [], ◌∷◌, ◌++◌, codes}
use Rattle.std.specs.List.{flat_map, range_with_len}
use Rattle.std.specs.Fmt.{decimal}
use Rattle.jvm_types.specs.Numbers.{u2}
use Rattle.jvm_types.specs.declared.class_file.Constant.{Constant}
use Rattle.jvm_types.specs.declared.class_file.Constant.TheVariants.{Gap, Utf8, Class, Field}
use Rattle.jvm_types.specs.declared.class_file.Constant.TheVariants.{Method, NameAndType}
use Rattle.jvm_types.specs.declared.class_file.MemberAttr.TheVariants as member_attrs
use Rattle.jvm_types.specs.declared.class_file.Member.{Member}
use Rattle.jvm_types.specs.declared.class_file.ClassFile.{ClassFile}
use Rattle.jvm_types.specs.declared.flags.TheConstants.{PRIVATE, STATIC, SYNCHRONIZED}

-- ---- the factors

-- the number behind this one: a linear congruential generator modulo 2^32
abbrev pub next_number : ℕ → ℕ
next_number x = (1664525 * x + 1013904223) % 2 ^ 32

-- so many factors below 100, by the numbers behind this one
abbrev pub factors : ℕ → ℕ → List ℕ
factors x zero = []
factors x (suc size) = ((next_number x / 65536) % 100) ∷ factors (next_number x) size

-- ---- the constant pool

-- The entries that each load has, in four groups; the comment behind each has its index, and what
-- it names where that isn't plain.

-- the names of the class and of its members
abbrev pub own_names : List Constant
own_names =
    Gap
    ∷ Utf8 (codes "Load")  -- 1
    ∷ Class 1  -- 2
    ∷ Utf8 (codes "java/lang/Object")  -- 3
    ∷ Class 3  -- 4
    ∷ Utf8 (codes "a")  -- 5
    ∷ Utf8 (codes "I")  -- 6
    ∷ Utf8 (codes "b")  -- 7
    ∷ Utf8 (codes "p")  -- 8
    ∷ Utf8 (codes "LLoad;")  -- 9
    ∷ Utf8 (codes "<init>")  -- 10
    ∷ Utf8 (codes "()V")  -- 11
    ∷ Utf8 (codes "Code")  -- 12
    ∷ Utf8 (codes "(I)V")  -- 13
    ∷ Utf8 (codes "r")  -- 14
    ∷ Utf8 (codes "()I")  -- 15
    ∷ Utf8 (codes "g")  -- 16
    ∷ Utf8 (codes "init")  -- 17
    ∷ Utf8 (codes "run")  -- 18
    ∷ Utf8 (codes "done")  -- 19
    ∷ []

-- the members that its code names
abbrev pub own_members : List Constant
own_members =
    NameAndType 10 11  -- 20
    ∷ Method 4 20  -- 21, Object.<init>
    ∷ Method 2 20  -- 22, Load.<init>
    ∷ NameAndType 5 6  -- 23
    ∷ Field 2 23  -- 24, a
    ∷ NameAndType 7 6  -- 25
    ∷ Field 2 25  -- 26, b
    ∷ NameAndType 8 9  -- 27
    ∷ Field 2 27  -- 28, p
    ∷ NameAndType 14 15  -- 29
    ∷ Method 2 29  -- 30, r
    ∷ NameAndType 16 15  -- 31
    ∷ Method 2 31  -- 32, g
    ∷ []

-- what names System.out
abbrev pub system_out : List Constant
system_out =
    Utf8 (codes "java/lang/System")  -- 33
    ∷ Class 33  -- 34
    ∷ Utf8 (codes "out")  -- 35
    ∷ Utf8 (codes "Ljava/io/PrintStream;")  -- 36
    ∷ NameAndType 35 36  -- 37
    ∷ Field 34 37  -- 38
    ∷ []

-- what names println
abbrev pub println : List Constant
println =
    Utf8 (codes "java/io/PrintStream")  -- 39
    ∷ Class 39  -- 40
    ∷ Utf8 (codes "println")  -- 41
    ∷ NameAndType 41 13  -- 42
    ∷ Method 40 42  -- 43
    ∷ []

abbrev pub fixed_constants : List Constant
fixed_constants = own_names ++ own_members ++ system_out ++ println

-- the index of the name of a method that adds, counted from 0; its name and type and the method
-- itself have the next two
abbrev pub name_index : ℕ → ℕ
name_index k = 44 + 3 * k

-- w1, w2 and so on
abbrev pub adder_name : ℕ → List ℕ
adder_name k = codes "w" ++ decimal (k + 1)

abbrev pub adder_constants : ℕ → List Constant
adder_constants k =
    Utf8 (adder_name k) ∷ NameAndType (name_index k) 13 ∷ Method 2 (name_index k + 1) ∷ []

abbrev pub load_constants : ℕ → List Constant
load_constants size = fixed_constants ++ flat_map adder_constants (range_with_len 0 size)

-- ---- the methods

-- a method without rows and further attributes
abbrev pub method : (flags name descriptor max_stack max_locals : ℕ) → List ℕ → Member
method flags name descriptor max_stack max_locals bytes = record {
  flags = flags;
  name = name;
  descriptor = descriptor;
  attrs =
      member_attrs.Code (record {
        max_stack = max_stack;
        max_locals = max_locals;
        bytes = bytes;
        rows = [];
        attrs = [];
        name = 12;
      }) ∷ [];
}

-- aload_0; invokespecial Object.<init>; return
abbrev pub constructor : Member
constructor = method 0 10 11 1 1 (42 ∷ 183 ∷ 0 ∷ 21 ∷ 177 ∷ [])

-- aload_0; aload_0; getfield a; iload_1; bipush FACTOR; imul; iadd; putfield a, and the same with b
-- and isub; return
abbrev pub adder_bytes : ℕ → List ℕ
adder_bytes factor =
    42 ∷ 42 ∷ 180 ∷ 0 ∷ 24 ∷ 27 ∷ 16 ∷ factor ∷ 104 ∷ 96 ∷ 181 ∷ 0 ∷ 24
    ∷ 42 ∷ 42 ∷ 180 ∷ 0 ∷ 26 ∷ 27 ∷ 16 ∷ factor ∷ 104 ∷ 100 ∷ 181 ∷ 0 ∷ 26
    ∷ 177 ∷ []

abbrev pub adder : ℕ → ℕ → Member
adder k factor = method SYNCHRONIZED (name_index k) 13 4 2 (adder_bytes factor)

-- the methods that add, the first of which has this number
abbrev pub adders : ℕ → List ℕ → List Member
adders k [] = []
adders k (factor ∷ rest) = adder k factor ∷ adders (k + 1) rest

-- r: aload_0; getfield a; aload_0; getfield b; iadd; ireturn
abbrev pub sum_reader : Member
sum_reader = method SYNCHRONIZED 14 15 2 1 (42 ∷ 180 ∷ 0 ∷ 24 ∷ 42 ∷ 180 ∷ 0 ∷ 26 ∷ 96 ∷ 172 ∷ [])

-- g: aload_0; getfield a; ireturn
abbrev pub counter_reader : Member
counter_reader = method SYNCHRONIZED 16 15 1 1 (42 ∷ 180 ∷ 0 ∷ 24 ∷ 172 ∷ [])

-- init: new Load; dup; invokespecial <init>; putstatic p; return
abbrev pub first_part : Member
first_part = method STATIC 17 11 2 0 (187 ∷ 0 ∷ 2 ∷ 89 ∷ 183 ∷ 0 ∷ 22 ∷ 179 ∷ 0 ∷ 28 ∷ 177 ∷ [])

-- getstatic p; iload_0; invokevirtual the method that adds; getstatic p; invokevirtual r; ifeq N;
-- getstatic out; iconst_1; invokevirtual println; N:
abbrev pub call_bytes : ℕ → List ℕ
call_bytes k =
    178 ∷ 0 ∷ 28 ∷ 26 ∷ 182 ∷ (u2 (name_index k + 2)
    ++ (178 ∷ 0 ∷ 28 ∷ 182 ∷ 0 ∷ 30 ∷ 153 ∷ 0 ∷ 10 ∷ 178 ∷ 0 ∷ 38 ∷ 4 ∷ 182 ∷ 0 ∷ 43 ∷ []))

abbrev pub run_bytes : ℕ → List ℕ
run_bytes size = flat_map call_bytes (range_with_len 0 size) ++ 177 ∷ []

-- run
abbrev pub worker_part : ℕ → Member
worker_part size = method STATIC 18 13 2 1 (run_bytes size)

-- done: getstatic out; getstatic p; invokevirtual g; invokevirtual println, and the same with r;
-- return
abbrev pub last_part : Member
last_part = method STATIC 19 11 2 0
    (178 ∷ 0 ∷ 38 ∷ 178 ∷ 0 ∷ 28 ∷ 182 ∷ 0 ∷ 32 ∷ 182 ∷ 0 ∷ 43 ∷ 178 ∷ 0 ∷ 38 ∷ 178 ∷ 0 ∷ 28 ∷ 182
    ∷ 0 ∷ 30 ∷ 182 ∷ 0 ∷ 43 ∷ 177 ∷ [])

abbrev pub load_methods : ℕ → ℕ → List Member
load_methods size seed =
    constructor
    ∷ (adders 0 (factors seed size)
    ++ (sum_reader ∷ counter_reader ∷ first_part ∷ worker_part size ∷ last_part ∷ []))

-- ---- the class

abbrev pub field : (flags name descriptor : ℕ) → Member
field flags name descriptor =
    record { flags = flags; name = name; descriptor = descriptor; attrs = [] }

-- private int a, b; static Load p
abbrev pub load_fields : List Member
load_fields = field PRIVATE 5 6 ∷ field PRIVATE 7 6 ∷ field STATIC 8 9 ∷ []

-- the class `Load` of this size, by this seed
abbrev pub load_class : ℕ → ℕ → ClassFile
load_class size seed = record {
  minor = 0;
  major = 50;
  constants = load_constants size;
  flags = 32;
  this_class = 2;
  super_class = 4;
  interfaces = [];
  fields = load_fields;
  methods = load_methods size seed;
  attrs = [];
}
