-- What holds of every linked program, in the program's own terms: its files and their constant
-- pools are gone. What is above linking rests on this alone.
use Rattle.std.specs.Prelude.{◌≡◌, ℕ, ◌⊎◌, ◌+◌, ◌-◌, ◌*◌, ◌<◌, ◌≤◌, ◌==◌, pos, FitsSigned, Bool}
use Rattle.std.specs.Prelude.{true, false, not, ◌&&◌, bytes_eq, List, length, take, Some, None}
use Rattle.std.specs.Prelude.{IsSomeAnd, IfSome, IsTrue, slice_get, if◌then◌else◌}
use Rattle.std.specs.List.{AllByRecursion, AllZip, count_by, sum_by, list_any}
use Rattle.std.specs.Int.{w32}
use Rattle.jvm_types.specs.ClassNames.{file_class, is_class, can_be_made, has_built_in_init}
use Rattle.jvm_types.specs.Descriptors.{method_signature}
use Rattle.jvm_types.specs.Members.{is_static, MethodSite, field_rule, call_rule}
use Rattle.jvm_types.specs.declared.call.Call.{Call}
use Rattle.jvm_types.specs.declared.call.Call.TheVariants.{Virtual, Special, Static}
use Rattle.jvm_types.specs.Layout.{kept_int}
use Rattle.jvm_types.specs.LinkFaults.{is_taken, is_run, is_wrong_root, is_synchronized_root}
use Rattle.jvm_types.specs.CodeGrammar.{IsCode}
use Rattle.jvm_types.specs.declared.class_file.Handler.{Handler}
use Rattle.jvm_types.specs.declared.code.Op.{Op}
use Rattle.jvm_types.specs.declared.code.Op.TheVariants.{Ldc, LdcW, Getstatic, Putstatic, Getfield}
use Rattle.jvm_types.specs.declared.code.Op.TheVariants.{Putfield, Invokevirtual, Invokespecial}
use Rattle.jvm_types.specs.declared.code.Op.TheVariants.{Invokestatic, New}
use Rattle.jvm_types.specs.declared.program.Kind.{Kind}
use Rattle.jvm_types.specs.declared.program.Kind.TheVariants as kinds
use Rattle.jvm_types.specs.declared.program.FieldInfo.{FieldInfo}
use Rattle.jvm_types.specs.declared.program.Target.{Target}
use Rattle.jvm_types.specs.declared.program.Target.TheVariants as targets
use Rattle.jvm_types.specs.declared.program.Row.{Row}
use Rattle.jvm_types.specs.declared.program.MethodInfo.{MethodInfo}
use Rattle.jvm_types.specs.declared.program.Program.{Program}
use Rattle.jvm_types.specs.declared.fixed_words.TheConstants.{OBJECT_HEAD_WORDS, FIRST_CLASS_WORD}
use Rattle.jvm_types.specs.declared.limits.TheConstants.{MOST_COUNTED, MOST_FILES}
use Rattle.jvm_types.specs.declared.limits.TheConstants.{MOST_INSTRUCTIONS, MOST_WORKERS}
use Rattle.jvm_types.specs.declared.limits.TheConstants.{LEAST_HEAP, MOST_HEAP}

-- ---- classes and types

-- a class that has objects: a built-in one, or one of the files
abbrev pub IsClassOf : Program → ℕ → Type 0
IsClassOf p class = IsTrue (is_class (length p.names) class)

abbrev pub IsFileClass : Program → ℕ → Type 0
IsFileClass p class = (file_class 0 ≤ class) × (class < file_class (length p.names))

abbrev pub IsKindOf : Program → Kind → Type 0
IsKindOf p kinds.Int = Unit {0}
IsKindOf p kinds.Bool = Unit {0}
IsKindOf p (kinds.Ref class) = IsClassOf p class

-- ---- layout

-- how many of some fields are static
abbrev pub statics_among : List FieldInfo → ℕ
statics_among fields = count_by (λ f. is_static f.flags) fields

-- how many of some fields an object of a class has
abbrev pub instances_among : ℕ → List FieldInfo → ℕ
instances_among class fields = count_by (λ f. (f.class == class) && not (is_static f.flags)) fields

-- The place of a field behind those that stand before it: a static field has the next word, where
-- its class and each one before that have two words of their own; an instance field has the next
-- place of its class's objects.
abbrev pub index_after : List FieldInfo → FieldInfo → ℕ
index_after earlier f =
    if is_static f.flags
    then FIRST_CLASS_WORD + OBJECT_HEAD_WORDS * (f.class - file_class 0 + 1)
    + statics_among earlier
    else instances_among f.class earlier

-- the words that the program has from the start on
abbrev pub words_of : Program → ℕ
words_of p = FIRST_CLASS_WORD + OBJECT_HEAD_WORDS * length p.names + statics_among p.fields

-- a field of the program, behind those before it
pub record IsFieldOf (p : Program) (before : List FieldInfo) (f : FieldInfo) : Type 0 where
  pub class : IsFileClass p f.class
  -- fields stand in order of their classes
  pub ordered : AllByRecursion (λ e. e.class ≤ f.class) before
  pub kind : IsKindOf p f.kind
  pub index : f.index ≡ index_after before f
  -- a class has so many fields at most, since its file counts them in two bytes
  pub few : instances_among f.class before < MOST_COUNTED
  -- an int, of which the field keeps all; 0 where it is of a reference type or no static field
  pub start_fits : FitsSigned w32 f.start
  pub start_kept : f.start ≡ (if is_static f.flags then kept_int f.kind f.start else pos 0)

-- ---- what instructions name

-- a field that an instruction for static fields or not, which writes or not, may use at a site
abbrev pub IsFieldTarget : Program → MethodSite → (static writes : Bool) → Target → Type 0
IsFieldTarget p site static writes (targets.Field number) =
    IsSomeAnd (slice_get p.fields number)
    (λ f. field_rule static writes site f.class f.flags ≡ None)
IsFieldTarget p site true false targets.Out = Unit {0}
IsFieldTarget p site static writes target = ⊥

-- a method that a call may name at a site
abbrev pub IsMethodTarget : Program → MethodSite → Call → Target → Type 0
IsMethodTarget p site call (targets.Method number) =
    IsSomeAnd (slice_get p.methods number) (λ m. call_rule call site m.class m.name m.flags ≡ None)
IsMethodTarget p site Special (targets.Init class) = IsTrue (has_built_in_init class)
IsMethodTarget p site Virtual targets.Println = Unit {0}
IsMethodTarget p site Virtual targets.Wait = Unit {0}
IsMethodTarget p site Virtual targets.Notify = Unit {0}
IsMethodTarget p site Virtual targets.NotifyAll = Unit {0}
IsMethodTarget p site call target = ⊥

-- an int of 32 bits
abbrev pub IsValueTarget : Target → Type 0
IsValueTarget (targets.Value n) = FitsSigned w32 n
IsValueTarget target = ⊥

-- a class that may be made
abbrev pub IsNewTarget : Program → Target → Type 0
IsNewTarget p (targets.Class class) = IsClassOf p class × IsTrue (can_be_made class)
IsNewTarget p target = ⊥

-- what the constant of an instruction may name at a site; most have none
abbrev pub IsTargetOf : Program → MethodSite → Op → Target → Type 0
IsTargetOf p site (Ldc i) target = IsValueTarget target
IsTargetOf p site (LdcW i) target = IsValueTarget target
IsTargetOf p site (Getstatic i) target = IsFieldTarget p site true false target
IsTargetOf p site (Putstatic i) target = IsFieldTarget p site true true target
IsTargetOf p site (Getfield i) target = IsFieldTarget p site false false target
IsTargetOf p site (Putfield i) target = IsFieldTarget p site false true target
IsTargetOf p site (Invokevirtual i) target = IsMethodTarget p site Virtual target
IsTargetOf p site (Invokespecial i) target = IsMethodTarget p site Special target
IsTargetOf p site (Invokestatic i) target = IsMethodTarget p site Static target
IsTargetOf p site (New i) target = IsNewTarget p target
IsTargetOf p site op target = target ≡ targets.Nothing

-- ---- methods

-- a handler row, but for what it catches
pub record IsRowOf (h : Handler) (r : Row) : Type 0 where
  pub start : r.start ≡ h.start
  pub «end» : r.end ≡ h.end
  pub handler : r.handler ≡ h.handler

-- instructions and rows that some code has (JVMS 4.7.3)
pub record IsCoded (m : MethodInfo) : Type 0 where
  pub bytes : List ℕ
  pub handlers : List Handler
  pub code : IsCode bytes handlers m.code
  pub rows : AllZip IsRowOf handlers m.rows

-- 0 catches all
abbrev pub IsCaught : Program → ℕ → Type 0
IsCaught p class = (class ≡ 0) ⊎ IsClassOf p class

abbrev pub site_in : MethodInfo → MethodSite
site_in m = record { class = m.class; name = m.name }

-- a method of the same class, name and descriptor
abbrev pub is_same_method : MethodInfo → MethodInfo → Bool
is_same_method e m =
    (e.class == m.class) && (bytes_eq e.name m.name && bytes_eq e.descriptor m.descriptor)

-- a method of the program, behind those before it
pub record IsMethodOf (p : Program) (before : List MethodInfo) (m : MethodInfo) : Type 0 where
  pub class : IsFileClass p m.class
  -- methods stand in order of their classes, which is the order in which `<clinit>`s run and marks
  -- are listed
  pub ordered : AllByRecursion (λ e. e.class ≤ m.class) before
  pub distinct : AllByRecursion (λ e. is_same_method e m ≡ false) before
  pub described : method_signature p.names m.descriptor
      ≡ Some (record { args = m.args; result = m.result })
  pub args : AllByRecursion (IsKindOf p) m.args
  pub result : IfSome m.result (IsKindOf p)
  pub coded : IsCoded m
  pub targets : AllZip (λ insn target. IsTargetOf p (site_in m) insn.op target) m.code m.targets
  pub caught : AllByRecursion (λ r. IsCaught p r.catch_class) m.rows
  pub root : is_wrong_root m.class m.name m.descriptor m.flags ≡ false
  pub unsynchronized : is_synchronized_root m.class m.name m.descriptor m.flags ≡ false

-- ---- the whole

pub record IsProgram (p : Program) : Type 0 where
  pub some_file : 0 < length p.names
  pub files : length p.names ≤ MOST_FILES
  pub workers : p.workers ≤ MOST_WORKERS
  pub heap_from : LEAST_HEAP ≤ p.heap
  pub heap_to : p.heap ≤ MOST_HEAP
  pub words : words_of p ≤ p.heap
  -- no class has the name of a built-in one or of one before it
  pub names : (number : ℕ) (name : List ℕ) → slice_get p.names number ≡ Some name
      → is_taken (take number p.names) name ≡ false
  pub fields : (number : ℕ) (f : FieldInfo) → slice_get p.fields number ≡ Some f
      → IsFieldOf p (take number p.fields) f
  pub methods : (number : ℕ) (m : MethodInfo) → slice_get p.methods number ≡ Some m
      → IsMethodOf p (take number p.methods) m
  -- with workers there is a `run(I)V` of the first class
  pub run : 0 < p.workers
      → list_any (λ m. (m.class == file_class 0) && is_run m.name m.descriptor) p.methods ≡ true
  pub size : sum_by (λ m. length m.code) p.methods ≤ MOST_INSTRUCTIONS
