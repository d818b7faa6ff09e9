-- Members and how a name finds one (JVMS 5.4.3.2, 5.4.3.3): in the named class and then in Object,
-- which is the superclass of every class of a file, and an `<init>` in the named class alone (JVMS
-- 5.4.3.3 with 6.5, `invokespecial`).
use Rattle.std.specs.Prelude.{ℕ, bytes_eq, ◌+◌, ◌==◌, Bool, ◌&&◌, ◌||◌, not, List, [], ◌∷◌, ◌++◌}
use Rattle.std.specs.Prelude.{map, Option, Some, None, codes, if◌then◌else◌}
use Rattle.std.specs.Option.{option_or}
use Rattle.std.specs.List.{find, range_with_len}
use Rattle.jvm_types.specs.Numbers.{has_flag}
use Rattle.jvm_types.specs.ClassNames.{text_at, file_class}
use Rattle.jvm_types.specs.declared.call.Call.{Call}
use Rattle.jvm_types.specs.declared.call.Call.TheVariants.{Virtual, Special, Static}
use Rattle.jvm_types.specs.declared.class_file.Constant.{Constant}
use Rattle.jvm_types.specs.declared.class_file.Member.{Member as ClassMember}
use Rattle.jvm_types.specs.declared.class_file.ClassFile.{ClassFile}
use Rattle.jvm_types.specs.declared.program.Target.{Target}
use Rattle.jvm_types.specs.declared.program.Target.TheVariants as targets
use Rattle.jvm_types.specs.declared.refusal.LRule.{LRule}
use Rattle.jvm_types.specs.declared.refusal.LRule.TheVariants.{L2, L3, L7}
use Rattle.jvm_types.specs.declared.flags.TheConstants.{PUBLIC, PRIVATE, STATIC, FINAL}
use Rattle.jvm_types.specs.declared.flags.TheConstants.{SYNCHRONIZED}
use Rattle.jvm_types.specs.declared.class_numbers.TheConstants.{THROWABLES, OBJECT_CLASS}
use Rattle.jvm_types.specs.declared.class_numbers.TheConstants.{PRINT_STREAM_CLASS, SYSTEM_CLASS}
use Rattle.jvm_types.specs.declared.class_numbers.TheConstants.{THROWABLE_CLASS}

-- ---- flags (JVMS 4.5, 4.6); every other flag has no effect

abbrev pub is_private : ℕ → Bool
is_private flags = has_flag PRIVATE flags

abbrev pub is_static : ℕ → Bool
is_static flags = has_flag STATIC flags

abbrev pub is_final : ℕ → Bool
is_final flags = has_flag FINAL flags

abbrev pub is_synchronized : ℕ → Bool
is_synchronized flags = has_flag SYNCHRONIZED flags

-- ---- names with a meaning of their own (JVMS 2.9)

abbrev pub is_init_name : List ℕ → Bool
is_init_name name = bytes_eq name (codes "<init>")

abbrev pub is_class_init_name : List ℕ → Bool
is_class_init_name name = bytes_eq name (codes "<clinit>")

-- ---- the members that a constant may name

-- a field or a method, with the class that declares it, and with what an instruction's constant
-- that names it stands for
pub record Entry : Type 0 where
  pub class : ℕ
  pub name : List ℕ
  pub descriptor : List ℕ
  pub flags : ℕ
  pub target : Target

-- `java/lang/System.out`: public, static and final
abbrev pub built_in_fields : List Entry
built_in_fields =
    record {
      class = SYSTEM_CLASS;
      name = codes "out";
      descriptor = codes "Ljava/io/PrintStream;";
      flags = PUBLIC + STATIC + FINAL;
      target = targets.Out;
    } ∷ []

-- a public instance method of a built-in class
abbrev pub public_method : ℕ → List ℕ → List ℕ → Target → Entry
public_method class name descriptor target =
    record { class = class; name = name; descriptor = descriptor; flags = PUBLIC; target = target }

abbrev pub init_of : ℕ → Entry
init_of class = public_method class (codes "<init>") (codes "()V") (targets.Init class)

-- Object's, PrintStream's, and those of the twelve throwables
abbrev pub built_in_methods : List Entry
built_in_methods = init_of OBJECT_CLASS
    ∷ public_method OBJECT_CLASS (codes "wait") (codes "()V") targets.Wait
    ∷ public_method OBJECT_CLASS (codes "notify") (codes "()V") targets.Notify
    ∷ public_method OBJECT_CLASS (codes "notifyAll") (codes "()V") targets.NotifyAll
    ∷ public_method PRINT_STREAM_CLASS (codes "println") (codes "(I)V") targets.Println
    ∷ map init_of (range_with_len THROWABLE_CLASS THROWABLES)

-- a field or method that a file declares: the number of the file, its own number among those of its
-- class, and the pool of the file
pub record Declared : Type 0 where
  pub file : ℕ
  pub place : ℕ
  pub pool : List Constant
  pub member : ClassMember

abbrev pub class_of_declared : Declared → ℕ
class_of_declared d = file_class d.file

abbrev pub name_of : Declared → List ℕ
name_of d = text_at d.pool d.member.name

abbrev pub descriptor_of : Declared → List ℕ
descriptor_of d = text_at d.pool d.member.descriptor

-- the members of one file, in order, numbered from a place on
abbrev pub declared_from : ℕ → List Constant → ℕ → List ClassMember → List Declared
declared_from file pool place [] = []
declared_from file pool place (m ∷ ms) =
    record { file = file; place = place; pool = pool; member = m }
    ∷ declared_from file pool (place + 1) ms

-- the members of all files, in order of the files, numbered from one on
abbrev pub declared_by : (ClassFile → List ClassMember) → ℕ → List ClassFile → List Declared
declared_by members file [] = []
declared_by members file (c ∷ cs) =
    declared_from file c.constants 0 (members c) ++ declared_by members (file + 1) cs

abbrev pub declared_fields : List ClassFile → List Declared
declared_fields files = declared_by (λ c. c.fields) 0 files

abbrev pub declared_methods : List ClassFile → List Declared
declared_methods files = declared_by (λ c. c.methods) 0 files

-- members as entries, each with its number in the program, from one on
abbrev pub entries_from : (ℕ → Target) → ℕ → List Declared → List Entry
entries_from target number [] = []
entries_from target number (d ∷ ds) =
    record {
      class = class_of_declared d;
      name = name_of d;
      descriptor = descriptor_of d;
      flags = d.member.flags;
      target = target number;
    } ∷ entries_from target (number + 1) ds

-- ---- look-up

-- the member of just this class with this name and descriptor
abbrev pub member_in : List Entry → ℕ → List ℕ → List ℕ → Option Entry
member_in entries class name descriptor =
    find (λ e. (e.class == class) && bytes_eq e.name name && bytes_eq e.descriptor descriptor)
    entries

abbrev pub look_up : List Entry → ℕ → List ℕ → List ℕ → Option Entry
look_up entries class name descriptor =
    option_or (member_in entries class name descriptor)
    (if is_init_name name then None else member_in entries OBJECT_CLASS name descriptor)

-- ---- what a member allows

-- the first rule whose condition stands
abbrev pub first_rule : List (Bool × LRule) → Option LRule
first_rule [] = None
first_rule (test ∷ tests) = if test.0 then Some test.1 else first_rule tests

-- the method in which an instruction stands: its class, and its name
pub record MethodSite : Type 0 where
  pub class : ℕ
  pub name : List ℕ

-- a private member of another class (JVMS 5.4.4; package and protected access are not looked at)
abbrev pub is_hidden : MethodSite → ℕ → ℕ → Bool
is_hidden site class flags = is_private flags && not (class == site.class)

-- Whether the site may write final fields of a class: static ones in its `<clinit>`, instance
-- fields in its `<init>`, on whichever object (JVMS 6.5, `putfield` and `putstatic`, has it "in the
-- current class"; here the method counts too).
abbrev pub initializes : MethodSite → Bool → ℕ → Bool
initializes site static class =
    (class == site.class)
    && (if static then is_class_init_name site.name else is_init_name site.name)

-- an instruction for static fields on an instance field, or the reverse
abbrev pub is_other_sort : (static : Bool) → (flags : ℕ) → Bool
is_other_sort static flags = if static then not (is_static flags) else is_static flags

-- The rule that refuses the use of a field with this class and these flags, by an instruction for
-- static fields or not, which writes or not. `System.out` is of no file, so that no site may write
-- it.
abbrev pub field_rule : (static writes : Bool) → MethodSite → (class flags : ℕ) → Option LRule
field_rule static writes site class flags = first_rule (
    (is_other_sort static flags, L2)
    ∷ (is_hidden site class flags, L3)
    ∷ (writes && is_final flags && not (initializes site static class), L7) ∷ [])

-- Whether a call has the kind of its method (JVMS 4.9.1, 6.5). `invokespecial` is for an `<init>`
-- and for a private instance method of the own class; the standard's calls of a superclass's
-- methods by it are refused. Nothing calls a `<clinit>`.
abbrev pub fits_call : Call → MethodSite → (class : ℕ) (name : List ℕ) (flags : ℕ) → Bool
fits_call Virtual site class name flags =
    not (is_static flags || is_init_name name || is_class_init_name name)
fits_call Special site class name flags =
    not (is_static flags || is_class_init_name name)
    && (is_init_name name || (is_private flags && (class == site.class)))
fits_call Static site class name flags =
    is_static flags && not (is_init_name name || is_class_init_name name)

-- the rule that refuses a call of a method with this class, name and flags
abbrev pub call_rule : Call → MethodSite → (class : ℕ) (name : List ℕ) (flags : ℕ) → Option LRule
call_rule call site class name flags = first_rule (
    (not (fits_call call site class name flags), L2)
    ∷ (is_hidden site class flags, L3) ∷ [])
