-- Why some class files are not linked (JVMS 4.1, 4.5, 4.6, 5.3, 5.4), and where. There are five
-- passes over the files, and the first refusal is the answer. The standard lets a machine resolve
-- early or late, and reports an error only where the name is used (JVMS 5.4); here every name that
-- an instruction, a descriptor or a handler row has is resolved before the program runs, reached or
-- not, and no other name is.
use Rattle.std.specs.Prelude.{◌≡◌, ℕ, bytes_eq, ◌+◌, nat_lt, ◌==◌, Bool, ◌&&◌, ◌||◌, not, List, []}
use Rattle.std.specs.Prelude.{◌∷◌, length, map, take, Option, None, is_none, codes}
use Rattle.std.specs.Option.{option_map, option_or}
use Rattle.std.specs.Result.{result_err}
use Rattle.std.specs.List.{list_any}
use Rattle.jvm_types.specs.Numbers.{has_flag}
use Rattle.jvm_types.specs.ClassNames.{text_at, class_text_at, class_name, class_names}
use Rattle.jvm_types.specs.ClassNames.{is_built_in_name, file_class}
use Rattle.jvm_types.specs.Descriptors.{field_kind, method_signature}
use Rattle.jvm_types.specs.Members.{is_static, is_synchronized, is_class_init_name, Declared}
use Rattle.jvm_types.specs.Members.{name_of, descriptor_of, class_of_declared, declared_methods}
use Rattle.jvm_types.specs.Members.{first_rule}
use Rattle.jvm_types.specs.Targets.{Scope, target_of, catch_class}
use Rattle.jvm_types.specs.Layout.{fixed_words}
use Rattle.jvm_types.specs.Linked.{scope_of, coded_methods, code_of, site_of, program_of}
use Rattle.jvm_types.specs.declared.class_file.Constant.{Constant}
use Rattle.jvm_types.specs.declared.class_file.Handler.{Handler}
use Rattle.jvm_types.specs.declared.class_file.Member.{Member as ClassMember}
use Rattle.jvm_types.specs.declared.class_file.ClassFile.{ClassFile}
use Rattle.jvm_types.specs.declared.code.Insn.{Insn}
use Rattle.jvm_types.specs.declared.program.Program.{Program}
use Rattle.jvm_types.specs.declared.refusal.LRule.{LRule}
use Rattle.jvm_types.specs.declared.refusal.LRule.TheVariants.{L1, L4, L5, L6, L8, L9}
use Rattle.jvm_types.specs.declared.refusal.Place.{Place}
use Rattle.jvm_types.specs.declared.refusal.TheConstants.{NO_METHOD}
use Rattle.jvm_types.specs.declared.flags.TheConstants.{INTERFACE, ABSTRACT}

-- ---- faults

-- a rule of linking, and the place where it refuses
abbrev pub LinkFault : Type 0
LinkFault = LRule × Place

-- the first of several answers that is one
abbrev pub first_fault : List (Option LinkFault) → Option LinkFault
first_fault [] = None
first_fault (fault ∷ faults) = option_or fault (first_fault faults)

-- the first that a check finds, in items that are counted from a number on
abbrev pub first_from : {X : Type 0} → (ℕ → X → Option LinkFault) → ℕ → List X → Option LinkFault
first_from check number [] = None
first_from check number (x ∷ xs) = option_or (check number x) (first_from check (number + 1) xs)

abbrev pub rule_at_place : Place → Option LRule → Option LinkFault
rule_at_place place rule = option_map (λ r. (r, place)) rule

-- a place in no method
abbrev pub in_file : (file at : ℕ) → Place
in_file file at = record { file = file; method = NO_METHOD; at = at }

abbrev pub in_method : (file method at : ℕ) → Place
in_method file method at = record { file = file; method = method; at = at }

-- ---- first pass, file by file: the class itself (JVMS 4.1, 5.3.5)

-- A superclass other than Object, an interface that is implemented, or a class that is an interface
-- or abstract. The standard has all of these.
abbrev pub is_outside : ClassFile → Bool
is_outside c = not (bytes_eq (class_text_at c.constants c.super_class) (codes "java/lang/Object"))
    || nat_lt 0 (length c.interfaces) || has_flag INTERFACE c.flags || has_flag ABSTRACT c.flags

-- a name of an earlier file or of a built-in class
abbrev pub is_taken : List (List ℕ) → List ℕ → Bool
is_taken earlier name = is_built_in_name name || list_any (bytes_eq name) earlier

abbrev pub class_link_fault : List (List ℕ) → (file : ℕ) → ClassFile → Option LinkFault
class_link_fault names file c = rule_at_place (in_file file 0) (first_rule (
    (is_outside c, L6)
    ∷ (is_taken (take file names) (class_name c), L5) ∷ []))

abbrev pub class_pass : List ClassFile → Option LinkFault
class_pass files = first_from (class_link_fault (class_names files)) 0 files

-- ---- the methods that the machine begins with (JVMS 2.9, 5.5; `init`, `run` and `done` are its
-- own)

-- the methods that start a part of the entry class, which is the class of the first file
abbrev pub is_run : (name descriptor : List ℕ) → Bool
is_run name descriptor = bytes_eq name (codes "run") && bytes_eq descriptor (codes "(I)V")

abbrev pub is_entry : (name descriptor : List ℕ) → Bool
is_entry name descriptor =
    is_run name descriptor
    || (bytes_eq descriptor (codes "()V")
    && (bytes_eq name (codes "init") || bytes_eq name (codes "done")))

-- ---- second pass, file by file: its fields, then its methods (JVMS 4.3, 4.5, 4.6)

-- a member with the name and the descriptor of one before it in its class
abbrev pub is_repeated : List Constant → List ClassMember → ClassMember → Bool
is_repeated pool earlier m =
    list_any (λ e.
    bytes_eq (text_at pool e.name) (text_at pool m.name)
    && bytes_eq (text_at pool e.descriptor) (text_at pool m.descriptor)) earlier

abbrev pub field_fault : List (List ℕ) → (file : ℕ) → ClassFile → (number : ℕ) → ClassMember
    → Option LinkFault
field_fault names file c number m = rule_at_place (in_file file number) (first_rule (
    (is_none (field_kind names (text_at c.constants m.descriptor)), L1)
    ∷ (is_repeated c.constants (take number c.fields) m, L5) ∷ []))

-- no thread holds the monitor of a class when a part begins: a method that begins one may not be
-- both static and synchronized; in the standard it may
abbrev pub is_synchronized_root : (class : ℕ) (name descriptor : List ℕ) (flags : ℕ) → Bool
is_synchronized_root class name descriptor flags =
    is_static flags && is_synchronized flags
    && (is_class_init_name name || ((class == file_class 0) && is_entry name descriptor))

abbrev pub method_fault : List (List ℕ) → (file : ℕ) → ClassFile → (number : ℕ) → ClassMember
    → Option LinkFault
method_fault names file c number m = rule_at_place (in_method file number 0) (first_rule (
    (is_none (method_signature names (text_at c.constants m.descriptor)), L1)
    ∷ (is_repeated c.constants (take number c.methods) m, L5)
    ∷ (
      is_synchronized_root (file_class file) (text_at c.constants m.name)
          (text_at c.constants m.descriptor) m.flags,
      L9,
    ) ∷ []))

abbrev pub members_fault : List (List ℕ) → (file : ℕ) → ClassFile → Option LinkFault
members_fault names file c =
    option_or (first_from (field_fault names file c) 0 c.fields)
    (first_from (method_fault names file c) 0 c.methods)

abbrev pub member_pass : List ClassFile → Option LinkFault
member_pass files = first_from (members_fault (class_names files)) 0 files

-- ---- third pass, method by method: its instructions by pc, then its handler rows (JVMS 5.4.3,
-- 4.7.3)

abbrev pub insn_fault : Scope → Declared → Insn → Option LinkFault
insn_fault s d insn =
    rule_at_place (in_method d.file d.place insn.pc)
    (result_err (target_of s (site_of d) d.pool insn.op))

abbrev pub row_fault : Scope → Declared → Handler → Option LinkFault
row_fault s d h =
    rule_at_place (in_method d.file d.place h.start)
    (result_err (catch_class s d.pool h.catch_type))

abbrev pub uses_fault : Scope → Declared × List Insn → Option LinkFault
uses_fault s m =
    option_or (first_fault (map (insn_fault s m.0) m.1))
    (first_fault (map (row_fault s m.0) (code_of m.0.member.attrs).rows))

abbrev pub use_pass : List ClassFile → List (List Insn) → Option LinkFault
use_pass files code = first_fault (map (uses_fault (scope_of files)) (coded_methods files code))

-- ---- fourth pass: the methods that the machine begins with

-- a `<clinit>` that is not the static one without arguments, or an entry of the entry class that is
-- not static; the standard lets other methods named `<clinit>` stand, of no consequence (JVMS 2.9)
abbrev pub is_wrong_root : (class : ℕ) (name descriptor : List ℕ) (flags : ℕ) → Bool
is_wrong_root class name descriptor flags =
    (is_class_init_name name && (not (is_static flags) || not (bytes_eq descriptor (codes "()V"))))
    || ((class == file_class 0) && is_entry name descriptor && not (is_static flags))

abbrev pub is_wrong_method : Declared → Bool
is_wrong_method d = is_wrong_root (class_of_declared d) (name_of d) (descriptor_of d) d.member.flags

abbrev pub is_run_method : Declared → Bool
is_run_method d = (class_of_declared d == file_class 0) && is_run (name_of d) (descriptor_of d)

abbrev pub root_pass : List ClassFile → (workers : ℕ) → Option LinkFault
root_pass files workers = rule_at_place (in_file 0 0) (first_rule (
    (list_any is_wrong_method (declared_methods files), L4)
    ∷ (nat_lt 0 workers && not (list_any is_run_method (declared_methods files)), L4) ∷ []))

-- ---- fifth pass: the fixed words fit in the heap

abbrev pub word_pass : List ClassFile → (heap : ℕ) → Option LinkFault
word_pass files heap =
    rule_at_place (in_file 0 0) (first_rule ((nat_lt heap (fixed_words files), L8) ∷ []))

-- ---- the whole

-- the first refusal of some files, whose methods have these instructions in order
abbrev pub link_fault : List ClassFile → List (List Insn) → (heap workers : ℕ) → Option LinkFault
link_fault files code heap workers = first_fault (
    class_pass files
    ∷ member_pass files
    ∷ use_pass files code
    ∷ root_pass files workers
    ∷ word_pass files heap ∷ [])

-- no rule refuses the files, and this is their program
pub record IsLinked (files : List ClassFile) (code : List (List Insn)) (heap workers : ℕ)
    (program : Program) : Type 0 where
  pub unrefused : link_fault files code heap workers ≡ None
  pub is : program ≡ program_of files code heap workers
