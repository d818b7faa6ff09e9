-- Laws of sections that run without their lock, and of the fields that they read, over every
-- program and its tags. The running machine rests on these and not on how marks are found.
use Rattle.std.specs.Prelude.{◌≡◌, ◌≢◌, ◌⊎◌, ℕ, suc, true, false, List, [], ◌∷◌, length, Option}
use Rattle.std.specs.Prelude.{Some, slice_get, slice_index, slice_index_or}
use Rattle.std.specs.List.{list_any}
use Rattle.jvm_types.specs.CodeTable.{is_init}
use Rattle.jvm_types.specs.Members.{is_class_init_name}
use Rattle.jvm_types.specs.ProgramInvariant.{IsProgram}
use Rattle.jvm_types.specs.declared.code.Insn.{Insn}
use Rattle.jvm_types.specs.declared.code.Op.{Op}
use Rattle.jvm_types.specs.declared.code.Op.TheVariants as ops
use Rattle.jvm_types.specs.declared.program.Target.{Target}
use Rattle.jvm_types.specs.declared.program.Target.TheVariants as targets
use Rattle.jvm_types.specs.declared.program.MethodInfo.{MethodInfo}
use Rattle.jvm_types.specs.declared.program.Program.{Program}
use Rattle.checked_program.specs.LockTags.{TagShape, is_this}
use Rattle.checked_program.specs.TaggedCode.{Tagged, IsAt, Goes}
use Rattle.checked_program.specs.Tagging.{HasTagging}
use Rattle.checked_program.specs.Colours.{ColourShape, is_coloured, IsColouring}
use Rattle.checked_program.specs.OwnedArrays.{TakesArrayWell, IsOwnedArrayField, IsOwnedAt, AreUses}
use Rattle.checked_program.specs.FrozenPlaces.{IsFrozenField, IsFrozenStatic, IsGuardedField}
use Rattle.checked_program.specs.FrozenPlaces.{IsGuardedStatic, locks_this, locks_class}
use Rattle.checked_program.specs.Sections.{Section, section_mode, BeginsAt, IsOwn}
use Rattle.checked_program.specs.Marks.{callee, Calls, args_of, is_locking, is_class_locking}
use Rattle.checked_program.specs.Marks.{class_of_method, HasMark}
use Rattle.checked_program.specs.declared.tag.Tag.{Tag}
use Rattle.checked_program.specs.declared.tag.Tag.TheVariants.{Untagged, This}
use Rattle.checked_program.specs.declared.section.Spot.{Spot}
use Rattle.checked_program.specs.declared.section.Spot.TheVariants.{Method, Block}
use Rattle.checked_program.specs.declared.section.Mode.{Mode}
use Rattle.checked_program.specs.declared.section.Mode.TheVariants.{OnThis, OnClass}
use Rattle.checked_program.specs.declared.section.Uses.{Uses}

-- ---- the frames of a section

-- a frame as marks see it: its method, the number of its instruction, and its receiver
pub record Part : Type 0 where
  pub method : ℕ
  pub at : ℕ
  pub receiver : ℕ

-- the frame of the section's own method, at one of the section's own instructions
pub record IsSectionPart (p : Program) (tags : Tagged) (s : Section) (o : ℕ) (a : Part)
    (mode : Mode) : Type 0 where
  pub method : a.method ≡ s.method
  pub receiver : a.receiver ≡ o
  pub own : IsOwn p tags s.method s.spot a.at
  pub mode_is : mode ≡ section_mode p s

-- The frames of a section whose own frame has the receiver o, from the top one down to that; mode
-- says how the top one's method is called. Each frame above the last is of a method that the one
-- below calls; where it is called on this, on the same object.
abbrev pub AreParts : Program → Tagged → Section → ℕ → List Part → Mode → Type 0
AreParts p tags s o [] mode = ⊥
AreParts p tags s o (a ∷ []) mode = IsSectionPart p tags s o a mode
AreParts p tags s o (a ∷ b ∷ parts) mode =
    (was : Mode) × (AreParts p tags s o (b ∷ parts) was)
    × (Calls p tags (callee b.method was) b.at (callee a.method mode))
    × (mode ≡ OnThis → a.receiver ≡ o)

-- ---- the own law: an edge from an own instruction leads to one, or is the exit of the block

-- the number of held tags at the start of a block
abbrev pub HasEntryDepth : Program → Tagged → ℕ → Spot → ℕ → Type 0
HasEntryDepth p tags mi Method depth = ⊥
HasEntryDepth p tags mi (Block pc) depth =
    (enter : ℕ) × (f : TagShape) × (BeginsAt p tags mi pc enter f) × (depth ≡ length f.held)

-- the `monitorexit` that takes the block's own entry from the held list
pub record IsExit (p : Program) (tags : Tagged) (mi : ℕ) (spot : Spot) (insn : Insn) (f : TagShape)
    : Type 0 where
  pub exits : insn.op ≡ ops.Monitorexit
  pub depth : ℕ
  pub of_entry : HasEntryDepth p tags mi spot depth
  pub last : length f.held ≡ suc depth

abbrev pub OwnLaw : Type 0
OwnLaw =
    (p : Program) (tags : Tagged) (mi i j : ℕ) (spot : Spot) (m : MethodInfo) (insn other : Insn)
    (target next : Target) (f g h : TagShape) → IsOwn p tags mi spot i
    → IsAt p tags mi i m insn target f → IsAt p tags mi j m other next g
    → Goes p m insn target f other h → h.held ≡ g.held
    → IsOwn p tags mi spot j ⊎ IsExit p tags mi spot insn f

-- so the frames of a section stay such as its top one moves, but at the exit
abbrev pub MoveLaw : Type 0
MoveLaw =
    (p : Program) (tags : Tagged) (s : Section) (o j : ℕ) (a : Part) (parts : List Part)
    (mode : Mode) (m : MethodInfo) (insn other : Insn) (target next : Target) (f g h : TagShape)
    → AreParts p tags s o (a ∷ parts) mode → IsAt p tags a.method a.at m insn target f
    → IsAt p tags a.method j m other next g → Goes p m insn target f other h → h.held ≡ g.held
    → AreParts p tags s o (record a { at = j } ∷ parts) mode
    ⊎ ((parts ≡ []) × IsExit p tags s.method s.spot insn f)

-- ---- the apart law: no method is twice among the frames of a marked section

abbrev pub HasNone : ℕ → List Part → Type 0
HasNone mi [] = Unit {0}
HasNone mi (a ∷ parts) = (a.method ≢ mi) × HasNone mi parts

abbrev pub HaveOwnMethods : List Part → Type 0
HaveOwnMethods [] = Unit {0}
HaveOwnMethods (a ∷ parts) = HasNone a.method parts × HaveOwnMethods parts

abbrev pub ApartLaw : Type 0
ApartLaw =
    (p : Program) (tags : Tagged) (uses : Uses) (s : Section) (o : ℕ) (parts : List Part)
    (mode : Mode) → HasMark p tags uses s 0 → AreParts p tags s o parts mode
    → HaveOwnMethods parts

-- ---- the read law

-- every place with the tag of `this` has the receiver
abbrev pub HasThis : ℕ → List Tag → List ℕ → Type 0
HasThis receiver tags values =
    (k : ℕ) → slice_index_or tags k Untagged ≡ This → slice_index values k ≡ receiver

-- the field of a class is guarded by its monitor
pub record IsOwnStatic (p : Program) (tags : Tagged) (mode : Mode) (fi : ℕ) : Type 0 where
  pub guarded : IsGuardedStatic p tags fi
  pub own : mode ≡ OnClass guarded.field.class

-- What the instruction i of a method may do in a marked section, in a frame that is run so; o is
-- the receiver of the section's own frame, and so the section's object where it is on `this`. It
-- writes no place, allocates nothing, prints nothing, neither waits nor notifies; it enters no
-- monitor but the section's own, and reads no place but a frozen one, or a guarded one of the
-- section's own object or class.
abbrev pub ReadsOnly : Program → Tagged → Mode → (o mi i : ℕ) → Op → Target → List ℕ → Type 0
ReadsOnly p tags mode o mi i (ops.Putfield n) target stack = ⊥
ReadsOnly p tags mode o mi i (ops.Putstatic n) target stack = ⊥
ReadsOnly p tags mode o mi i ops.Iastore target stack = ⊥
ReadsOnly p tags mode o mi i (ops.New n) target stack = ⊥
ReadsOnly p tags mode o mi i ops.Newarray target stack = ⊥
ReadsOnly p tags mode o mi i (ops.Invokevirtual n) targets.Println stack = ⊥
ReadsOnly p tags mode o mi i (ops.Invokevirtual n) targets.Wait stack = ⊥
ReadsOnly p tags mode o mi i (ops.Invokevirtual n) targets.Notify stack = ⊥
ReadsOnly p tags mode o mi i (ops.Invokevirtual n) targets.NotifyAll stack = ⊥
ReadsOnly p tags mode o mi i (ops.Getstatic n) (targets.Field fi) stack =
    IsFrozenStatic p fi ⊎ IsOwnStatic p tags mode fi
ReadsOnly p tags mode o mi i ops.Iaload target stack = (mode ≡ OnThis) × IsOwnedAt p tags mi i 1
ReadsOnly p tags mode o mi i ops.Monitorenter target stack =
    (mode ≡ OnThis) × (slice_index stack 0 ≡ o)
ReadsOnly p tags mode o mi i (ops.Invokevirtual n) (targets.Method u) stack =
    is_locking (slice_get p.methods u) ≡ true
    → (mode ≡ OnThis) × (slice_index stack (args_of (slice_get p.methods u)) ≡ o)
ReadsOnly p tags mode o mi i (ops.Invokespecial n) (targets.Method u) stack =
    is_locking (slice_get p.methods u) ≡ true
    → (mode ≡ OnThis) × (slice_index stack (args_of (slice_get p.methods u)) ≡ o)
ReadsOnly p tags mode o mi i (ops.Invokestatic n) (targets.Method u) stack =
    is_class_locking (slice_get p.methods u) ≡ true
    → mode ≡ OnClass (class_of_method (slice_get p.methods u))
ReadsOnly p tags mode o mi i (ops.Getfield n) (targets.Field fi) stack =
    IsFrozenField p tags fi
    ⊎ (IsGuardedField p tags fi × (mode ≡ OnThis) × (slice_index stack 0 ≡ o))
ReadsOnly p tags mode o mi i op target stack = Unit {0}

-- each method has a tagging
abbrev pub AreTagged : Program → Tagged → Type 0
AreTagged p tags =
    (mi : ℕ) (m : MethodInfo) → slice_get p.methods mi ≡ Some m
    → (frames : List (Option TagShape)) × (slice_get tags mi ≡ Some frames)
    × HasTagging p m frames

abbrev pub ReadLaw : Type 0
ReadLaw =
    (p : Program) (tags : Tagged) (uses : Uses) (s : Section) (o : ℕ) (a : Part) (parts : List Part)
    (mode : Mode) (m : MethodInfo) (insn : Insn) (target : Target) (f : TagShape)
    (stack : List ℕ) → IsProgram p → AreUses p tags uses → HasMark p tags uses s 0
    → AreParts p tags s o (a ∷ parts) mode → IsAt p tags a.method a.at m insn target f
    → HasThis a.receiver f.stack stack
    → ReadsOnly p tags mode o a.method a.at insn.op target stack

-- ---- the exit law: a marked section leaves no monitor but its own, and none where it is called
-- off this

abbrev pub ExitLaw : Type 0
ExitLaw =
    (p : Program) (tags : Tagged) (uses : Uses) (s : Section) (o : ℕ) (a : Part) (parts : List Part)
    (mode : Mode) (m : MethodInfo) (insn : Insn) (target : Target) (f : TagShape)
    → AreUses p tags uses → AreTagged p tags → HasMark p tags uses s 0
    → AreParts p tags s o (a ∷ parts) mode → IsAt p tags a.method a.at m insn target f
    → insn.op ≡ ops.Monitorexit → (mode ≡ OnThis) × (slice_index_or f.stack 0 Untagged ≡ This)

-- ---- the write law: a guarded field is written on the receiver, in an `<init>` or where its
-- monitor is entered

abbrev pub IsGuardedBy : MethodInfo → TagShape → Type 0
IsGuardedBy m f = (is_init m ≡ true) ⊎ (list_any is_this f.held ≡ true) ⊎ (locks_this m ≡ true)

abbrev pub WriteLaw : Type 0
WriteLaw =
    (p : Program) (tags : Tagged) (fi mi i index receiver : ℕ) (m : MethodInfo) (insn : Insn)
    (target : Target) (f : TagShape) (stack : List ℕ) → IsGuardedField p tags fi
    → IsAt p tags mi i m insn target f → insn.op ≡ ops.Putfield index → target ≡ targets.Field fi
    → HasThis receiver f.stack stack → (slice_index stack 1 ≡ receiver) × IsGuardedBy m f

-- a guarded static field is written in the `<clinit>` of its class, or where the monitor of that is
-- entered
abbrev pub StaticWriteLaw : Type 0
StaticWriteLaw =
    (p : Program) (tags : Tagged) (fi mi i index : ℕ) (m : MethodInfo) (insn : Insn)
    (target : Target) (f : TagShape) (k : IsGuardedStatic p tags fi)
    → IsAt p tags mi i m insn target f → insn.op ≡ ops.Putstatic index → target ≡ targets.Field fi
    → (m.class ≡ k.field.class) × ((is_class_init_name m.name ≡ true) ⊎ (locks_class m ≡ true))

-- an element of an array that `this` owns is written in an `<init>`, or where the monitor of `this`
-- is entered
abbrev pub ElementWriteLaw : Type 0
ElementWriteLaw =
    (p : Program) (tags : Tagged) (mi i : ℕ) (m : MethodInfo) (insn : Insn) (target : Target)
    (f : TagShape) → IsProgram p → AreTagged p tags → IsAt p tags mi i m insn target f
    → insn.op ≡ ops.Iastore → IsOwnedAt p tags mi i 2 → IsGuardedBy m f

-- ---- the final laws: a final field of a frozen class is written on the receiver of an `<init>`

abbrev pub FinalLaw : Type 0
FinalLaw =
    (p : Program) (tags : Tagged) (fi mi i index receiver : ℕ) (m : MethodInfo) (insn : Insn)
    (target : Target) (f : TagShape) (stack : List ℕ) → IsProgram p → IsFrozenField p tags fi
    → IsAt p tags mi i m insn target f → insn.op ≡ ops.Putfield index → target ≡ targets.Field fi
    → HasThis receiver f.stack stack → (is_init m ≡ true) × (slice_index stack 1 ≡ receiver)

-- a final static field is written in the `<clinit>` of its class
abbrev pub FinalStaticLaw : Type 0
FinalStaticLaw =
    (p : Program) (tags : Tagged) (fi mi i index : ℕ) (m : MethodInfo) (insn : Insn)
    (target : Target) (f : TagShape) (k : IsFrozenStatic p fi) → IsProgram p
    → IsAt p tags mi i m insn target f → insn.op ≡ ops.Putstatic index → target ≡ targets.Field fi
    → (m.class ≡ k.field.class) × (is_class_init_name m.name ≡ true)

-- ---- the array laws: a value that was read from an owned array field stays on the stack of the
-- method that read it

-- a method has one colouring for a field at most, on the instructions that are reached
abbrev pub OneColouring : Type 0
OneColouring =
    (p : Program) (tags : Tagged) (mi fi i : ℕ) (m : MethodInfo) (insn : Insn) (target : Target)
    (f : TagShape) (colours others : ℕ → ColourShape) → IsProgram p → AreTagged p tags
    → IsColouring p tags mi fi colours → IsColouring p tags mi fi others
    → IsAt p tags mi i m insn target f → colours i ≡ others i

-- no place and no local, no other method and no caller gets it; it is not thrown, locked or
-- compared
pub record KeepsArray (p : Program) (m : MethodInfo) (insn : Insn) (target : Target)
    (colours : ColourShape) : Type 0 where
  pub locals : (k : ℕ) → is_coloured colours.locals k ≡ false
  pub taken : TakesArrayWell p m insn target colours

abbrev pub ArrayLaw : Type 0
ArrayLaw =
    (p : Program) (tags : Tagged) (fi mi i : ℕ) (m : MethodInfo) (insn : Insn) (target : Target)
    (f : TagShape) (colours : ℕ → ColourShape) → IsProgram p → AreTagged p tags
    → IsOwnedArrayField p tags fi → IsColouring p tags mi fi colours
    → IsAt p tags mi i m insn target f → KeepsArray p m insn target (colours i)

-- whether a place of a stack is coloured for some such field is decided
abbrev pub OwnedIsDecided : Type 0
OwnedIsDecided =
    (p : Program) (tags : Tagged) (uses : Uses) (mi i k : ℕ) (m : MethodInfo) (insn : Insn)
    (target : Target) (f : TagShape) → IsProgram p → AreTagged p tags → AreUses p tags uses
    → IsAt p tags mi i m insn target f → IsOwnedAt p tags mi i k ⊎ (IsOwnedAt p tags mi i k → ⊥)
