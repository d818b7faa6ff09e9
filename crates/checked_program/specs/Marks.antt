-- The mark of each synchronized section: whether it may run without its lock, or which rule forbids
-- that.
use Rattle.std.specs.Prelude.{◌≡◌, ◌<◌, ℕ, zero, suc, Bool, true, false, ◌==◌, if◌then◌else◌, List}
use Rattle.std.specs.Prelude.{[], ◌∷◌, length, Option, Some, None, slice_get, slice_index_or}
use Rattle.std.specs.List.{AllZip}
use Rattle.jvm_types.specs.declared.code.Insn.{Insn}
use Rattle.jvm_types.specs.declared.code.Op.{Op}
use Rattle.jvm_types.specs.declared.code.Op.TheVariants as ops
use Rattle.jvm_types.specs.declared.program.Target.{Target}
use Rattle.jvm_types.specs.declared.program.Target.TheVariants as targets
use Rattle.jvm_types.specs.declared.program.FieldInfo.{FieldInfo}
use Rattle.jvm_types.specs.declared.program.MethodInfo.{MethodInfo}
use Rattle.jvm_types.specs.declared.program.Program.{Program}
use Rattle.checked_program.specs.LockTags.{TagShape, is_this}
use Rattle.checked_program.specs.TaggedCode.{Tagged, IsAt}
use Rattle.checked_program.specs.FrozenPlaces.{locks_this, locks_class}
use Rattle.checked_program.specs.OwnedArrays.{reads_owned, AreUses}
use Rattle.checked_program.specs.Sections.{Section, sections, section_mode, BeginsAt, IsOwn}
use Rattle.checked_program.specs.declared.tag.Tag.{Tag}
use Rattle.checked_program.specs.declared.tag.Tag.TheVariants.{Untagged, This}
use Rattle.checked_program.specs.declared.section.Spot.{Spot}
use Rattle.checked_program.specs.declared.section.Spot.TheVariants.{Method, Block}
use Rattle.checked_program.specs.declared.section.SectionMark.{SectionMark}
use Rattle.checked_program.specs.declared.section.Mode.{Mode}
use Rattle.checked_program.specs.declared.section.Mode.TheVariants.{OnThis, OffThis, OnClass}
use Rattle.checked_program.specs.declared.section.FieldUse.{FieldUse}
use Rattle.checked_program.specs.declared.section.FieldUse.TheVariants.{Frozen, Guarded, Open}
use Rattle.checked_program.specs.declared.section.Uses.{Uses}

-- ---- calls

-- the method of the program that an instruction calls
abbrev pub called_method : Op → Target → Option ℕ
called_method (ops.Invokevirtual i) (targets.Method u) = Some u
called_method (ops.Invokespecial i) (targets.Method u) = Some u
called_method (ops.Invokestatic i) (targets.Method u) = Some u
called_method op target = None

abbrev pub args_of : Option MethodInfo → ℕ
args_of None = 0
args_of (Some called) = length called.args

-- the tag of the receiver of a call; a static method has none
abbrev pub receiver_tag : Program → Op → Target → List Tag → Tag
receiver_tag p (ops.Invokevirtual i) (targets.Method u) stack =
    slice_index_or stack (args_of (slice_get p.methods u)) Untagged
receiver_tag p (ops.Invokespecial i) (targets.Method u) stack =
    slice_index_or stack (args_of (slice_get p.methods u)) Untagged
receiver_tag p op target stack = Untagged

-- a value is the object of the section's monitor: `this`, in a method that is called on that object
abbrev pub is_own_object : Mode → Tag → Bool
is_own_object OnThis t = is_this t
is_own_object mode t = false

-- a class is that of the section's monitor
abbrev pub is_own_class : Mode → (class : ℕ) → Bool
is_own_class (OnClass c) class = class == c
is_own_class mode class = false

abbrev pub mode_if : Bool → Mode
mode_if true = OnThis
mode_if false = OffThis

-- how a method is called, by how its caller is, and the tag of the receiver
abbrev pub called_mode : Mode → Tag → Mode
called_mode (OnClass c) t = OnClass c
called_mode mode t = mode_if (is_own_object mode t)

-- a method as a section calls it
pub record Callee : Type 0 where
  pub method : ℕ
  pub mode : Mode

abbrev pub callee : ℕ → Mode → Callee
callee u mode = record { method = u; mode = mode }

-- the reached instruction i of a method calls another
pub record Calls (p : Program) (tags : Tagged) (a : Callee) (i : ℕ) (b : Callee) : Type 0 where
  pub m : MethodInfo
  pub insn : Insn
  pub target : Target
  pub f : TagShape
  pub at : IsAt p tags a.method i m insn target f
  pub called : called_method insn.op target ≡ Some b.method
  pub mode_is : b.mode ≡ called_mode a.mode (receiver_tag p insn.op target f.stack)

-- by some instruction
abbrev pub Invokes : Program → Tagged → Callee → Callee → Type 0
Invokes p tags a b = (i : ℕ) × Calls p tags a i b

-- through calls, over these; none is a way too
abbrev pub CallsThrough : Program → Tagged → Callee → List Callee → Callee → Type 0
CallsThrough p tags a [] b = a ≡ b
CallsThrough p tags a (c ∷ cs) b = Invokes p tags a c × CallsThrough p tags c cs b

-- a chain of calls leads to a method from an own instruction of a section
pub record IsCalledBy (p : Program) (tags : Tagged) (s : Section) (b : Callee) : Type 0 where
  pub i : ℕ
  pub first : Callee
  pub own : IsOwn p tags s.method s.spot i
  pub calls : Calls p tags (callee s.method (section_mode p s)) i first
  pub over : List Callee
  pub through : CallsThrough p tags first over b

-- a method calls itself, directly or through calls
pub record CallsItself (p : Program) (tags : Tagged) (u : ℕ) : Type 0 where
  pub first : Callee
  pub calls : Invokes p tags (callee u OffThis) first
  pub over : List Callee
  pub mode : Mode
  pub through : CallsThrough p tags first over (callee u mode)

-- ---- what one instruction breaks

abbrev pub enter_fault : Bool → ℕ
enter_fault true = 0
enter_fault false = 3

abbrev pub is_locking : Option MethodInfo → Bool
is_locking None = false
is_locking (Some called) = locks_this called

abbrev pub is_class_locking : Option MethodInfo → Bool
is_class_locking None = false
is_class_locking (Some called) = locks_class called

abbrev pub call_fault : Bool → Bool → ℕ
call_fault true own = enter_fault own
call_fault false own = 0

abbrev pub use_fault : FieldUse → Bool → ℕ
use_fault Frozen own = 0
use_fault Guarded true = 0
use_fault Guarded false = 5
use_fault Open own = 5

-- the class of a field, or of a method; 0 is none
abbrev pub class_of_field : Option FieldInfo → ℕ
class_of_field None = 0
class_of_field (Some field) = field.class

abbrev pub class_of_method : Option MethodInfo → ℕ
class_of_method None = 0
class_of_method (Some m) = m.class

-- an element, by whether its array is one that `this` owns
abbrev pub element_fault : Mode → (owned : Bool) → ℕ
element_fault OnThis true = 0
element_fault mode owned = 5

-- The rule that an instruction breaks, in a method that a section runs so; 0 for none. owned says
-- whether it reads an element of an array that `this` owns. M1: it writes a field, a static or an
-- element. M2: it allocates. M3: it enters a monitor that is not the section's. M4: it prints,
-- waits or notifies. M5: it reads a place that is neither frozen nor a guarded one of the section's
-- own object or class.
abbrev pub section_fault : Program → List FieldUse → Mode → Op → Target → List Tag → (owned : Bool)
    → ℕ
section_fault p uses mode (ops.Putfield i) target stack owned = 1
section_fault p uses mode (ops.Putstatic i) target stack owned = 1
section_fault p uses mode ops.Iastore target stack owned = 1
section_fault p uses mode (ops.New i) target stack owned = 2
section_fault p uses mode ops.Newarray target stack owned = 2
section_fault p uses mode ops.Monitorenter target stack owned =
    enter_fault (is_own_object mode (slice_index_or stack 0 Untagged))
section_fault p uses mode (ops.Invokevirtual i) (targets.Method u) stack owned =
    call_fault (is_locking (slice_get p.methods u))
    (is_own_object mode (receiver_tag p (ops.Invokevirtual i) (targets.Method u) stack))
section_fault p uses mode (ops.Invokespecial i) (targets.Method u) stack owned =
    call_fault (is_locking (slice_get p.methods u))
    (is_own_object mode (receiver_tag p (ops.Invokespecial i) (targets.Method u) stack))
section_fault p uses mode (ops.Invokestatic i) (targets.Method u) stack owned =
    call_fault (is_class_locking (slice_get p.methods u))
    (is_own_class mode (class_of_method (slice_get p.methods u)))
section_fault p uses mode (ops.Invokevirtual i) targets.Println stack owned = 4
section_fault p uses mode (ops.Invokevirtual i) targets.Wait stack owned = 4
section_fault p uses mode (ops.Invokevirtual i) targets.Notify stack owned = 4
section_fault p uses mode (ops.Invokevirtual i) targets.NotifyAll stack owned = 4
section_fault p uses mode (ops.Getstatic i) (targets.Field fi) stack owned =
    use_fault (slice_index_or uses fi Open)
    (is_own_class mode (class_of_field (slice_get p.fields fi)))
section_fault p uses mode ops.Iaload target stack owned = element_fault mode owned
section_fault p uses mode (ops.Getfield i) (targets.Field fi) stack owned =
    use_fault (slice_index_or uses fi Open) (is_own_object mode (slice_index_or stack 0 Untagged))
section_fault p uses mode op target stack owned = 0

-- the instruction i of a method breaks a rule
pub record BreaksAt (p : Program) (tags : Tagged) (uses : Uses) (a : Callee) (i n : ℕ)
    : Type 0 where
  pub m : MethodInfo
  pub insn : Insn
  pub target : Target
  pub f : TagShape
  pub at : IsAt p tags a.method i m insn target f
  pub fault_is : section_fault p uses.fields a.mode insn.op target f.stack
      (reads_owned uses a.method i) ≡ n
  pub some : 0 < n

-- ---- the rules of a section

-- M8: a section is neither on `this` nor on its class
abbrev pub IsOnOwn : Program → Tagged → ℕ → Spot → Type 0
IsOnOwn p tags mi Method = Unit {0}
IsOnOwn p tags mi (Block pc) =
    (enter : ℕ) × (f : TagShape) × (BeginsAt p tags mi pc enter f)
    × (slice_index_or f.stack 0 Untagged ≡ This)

-- M1 to M5: an own instruction breaks it
pub record OwnBreaks (p : Program) (tags : Tagged) (uses : Uses) (s : Section) (n : ℕ)
    : Type 0 where
  pub i : ℕ
  pub own : IsOwn p tags s.method s.spot i
  pub breaks : BreaksAt p tags uses (callee s.method (section_mode p s)) i n

-- M6: a method that it calls breaks one of these
pub record CalleeBreaks (p : Program) (tags : Tagged) (uses : Uses) (s : Section) : Type 0 where
  pub called : Callee
  pub is_called : IsCalledBy p tags s called
  pub i : ℕ
  pub n : ℕ
  pub breaks : BreaksAt p tags uses called i n

-- M7: a method that it calls calls itself
pub record CalleeRecurs (p : Program) (tags : Tagged) (s : Section) : Type 0 where
  pub called : Callee
  pub is_called : IsCalledBy p tags s called
  pub recurs : CallsItself p tags called.method

-- the rule n forbids that the section runs without its lock
pub data Applies (p : Program) (tags : Tagged) (uses : Uses) (s : Section) (n : ℕ) : Type 0 where
  elsewhere : n ≡ 8 → (IsOnOwn p tags s.method s.spot → ⊥) → Applies p tags uses s n
  itself : OwnBreaks p tags uses s n → Applies p tags uses s n
  called : n ≡ 6 → CalleeBreaks p tags uses s → Applies p tags uses s n
  recurring : n ≡ 7 → CalleeRecurs p tags s → Applies p tags uses s n

-- ---- marks

-- the rules are tested in the order M8, M1 to M7
abbrev pub turn : ℕ → ℕ
turn n = if n == 8 then 0 else n

-- a section's mark: the first rule that applies, or 0 where none does
abbrev pub HasMark : Program → Tagged → Uses → Section → ℕ → Type 0
HasMark p tags uses s zero = (k : ℕ) → Applies p tags uses s k → ⊥
HasMark p tags uses s (suc n) =
    Applies p tags uses s (suc n) × ((k : ℕ) → turn k < turn (suc n) → Applies p tags uses s k → ⊥)

pub record IsMarkOf (p : Program) (tags : Tagged) (uses : Uses) (s : Section) (mark : SectionMark)
    : Type 0 where
  pub method : mark.method ≡ s.method
  pub spot : mark.spot ≡ s.spot
  pub mark_is : HasMark p tags uses s mark.mark

-- the marks of all sections of a program, in their order
pub record AreMarks (p : Program) (tags : Tagged) (marks : List SectionMark) : Type 0 where
  pub uses : Uses
  pub are_uses : AreUses p tags uses
  pub each : AllZip (IsMarkOf p tags uses) (sections p) marks
