-- Laws of the frames of a section that runs without its lock, as the machine moves them. `MoveLaw`
-- has the moves within a method; here are a section's start, invocations and returns (JVMS 2.6).
use Rattle.std.specs.Prelude.{◌≡◌, ◌↔◌, ℕ, true, List, ◌∷◌, Some, slice_get, slice_index}
use Rattle.jvm_types.specs.Numbers.{has_number}
use Rattle.jvm_types.specs.Verifying.{edges}
use Rattle.jvm_types.specs.declared.code.Insn.{Insn}
use Rattle.jvm_types.specs.declared.code.Op.{Op}
use Rattle.jvm_types.specs.declared.code.Op.TheVariants as ops
use Rattle.jvm_types.specs.declared.program.Target.{Target}
use Rattle.jvm_types.specs.declared.program.MethodInfo.{MethodInfo}
use Rattle.jvm_types.specs.declared.program.Program.{Program}
use Rattle.checked_program.specs.LockTags.{TagShape}
use Rattle.checked_program.specs.Tagging.{tags_after}
use Rattle.checked_program.specs.TaggedCode.{Tagged, IsAt, Goes, row_of}
use Rattle.checked_program.specs.Sections.{Section, section_mode, IsOwn}
use Rattle.checked_program.specs.Marks.{called_method, args_of, receiver_tag, called_mode, HasMark}
use Rattle.checked_program.specs.SectionLaws.{Part, AreParts, AreTagged, HasThis}
use Rattle.checked_program.specs.declared.tag.Tag.{Tag}
use Rattle.checked_program.specs.declared.section.Uses.{Uses}
use Rattle.checked_program.specs.declared.section.Mode.{Mode}
use Rattle.checked_program.specs.declared.section.Mode.TheVariants.{OnThis, OnClass}
use Rattle.checked_program.specs.declared.section.Spot.TheVariants.{Block}

-- ---- an edge between two instructions brings the held list of its target, as the laws of moves
-- ask for

abbrev pub HeldLaw : Type 0
HeldLaw =
    (p : Program) (tags : Tagged) (mi i j : ℕ) (m : MethodInfo) (insn other : Insn)
    (target next : Target) (f g h : TagShape) → AreTagged p tags
    → IsAt p tags mi i m insn target f → IsAt p tags mi j m other next g
    → Goes p m insn target f other h → h.held ≡ g.held

-- ---- the start of a block: where its `monitorenter` goes on is its first own instruction

abbrev pub BeginLaw : Type 0
BeginLaw =
    (p : Program) (tags : Tagged) (mi i j : ℕ) (m : MethodInfo) (insn other : Insn)
    (target next : Target) (f g : TagShape) (top : Tag) (below : List Tag)
    → IsAt p tags mi i m insn target f → IsAt p tags mi j m other next g
    → insn.op ≡ ops.Monitorenter → f.stack ≡ top ∷ below → has_number (edges insn) other.pc ≡ true
    → (tags_after insn (row_of p m insn target) f).held ≡ g.held
    → IsOwn p tags mi (Block insn.pc) j

-- a marked block is on the receiver: that is what its `monitorenter` takes
abbrev pub BlockLaw : Type 0
BlockLaw =
    (p : Program) (tags : Tagged) (uses : Uses) (s : Section) (i receiver : ℕ) (m : MethodInfo)
    (insn : Insn) (target : Target) (f : TagShape) (stack : List ℕ) → AreTagged p tags
    → HasMark p tags uses s 0 → s.spot ≡ Block insn.pc → IsAt p tags s.method i m insn target f
    → insn.op ≡ ops.Monitorenter → HasThis receiver f.stack stack → slice_index stack 0 ≡ receiver

-- ---- invocation: the called frame stands above the calling one

-- the receiver of the called frame is the value below its arguments; nothing is asked of a static
-- method's
abbrev pub IsReceiver : Program → Op → ℕ → List ℕ → ℕ → Type 0
IsReceiver p (ops.Invokestatic i) u stack receiver = Unit {0}
IsReceiver p op u stack receiver = receiver ≡ slice_index stack (args_of (slice_get p.methods u))

-- how an instruction of a method that is called so calls another
abbrev pub mode_of_call : Program → Mode → Op → Target → List Tag → Mode
mode_of_call p mode op target stack = called_mode mode (receiver_tag p op target stack)

abbrev pub InvokeLaw : Type 0
InvokeLaw =
    (p : Program) (tags : Tagged) (s : Section) (o : ℕ) (a b : Part) (parts : List Part)
    (mode : Mode) (m : MethodInfo) (insn : Insn) (target : Target) (f : TagShape)
    (stack : List ℕ) → AreParts p tags s o (b ∷ parts) mode
    → IsAt p tags b.method b.at m insn target f → HasThis b.receiver f.stack stack
    → called_method insn.op target ≡ Some a.method
    → IsReceiver p insn.op a.method stack a.receiver
    → AreParts p tags s o (a ∷ b ∷ parts) (mode_of_call p mode insn.op target f.stack)

-- ---- how a frame is run: on this only in a section on `this`, and on a class only in a section on
-- that

abbrev pub ModeLaw : Type 0
ModeLaw =
    (p : Program) (tags : Tagged) (s : Section) (o : ℕ) (parts : List Part) (mode : Mode)
    → AreParts p tags s o parts mode
    → (mode ≡ OnThis → section_mode p s ≡ OnThis)
    × ((class : ℕ) → (mode ≡ OnClass class) ↔ (section_mode p s ≡ OnClass class))

-- ---- return: the frames below stay such, and the calling one goes on at an edge of its call, also
-- to a handler

abbrev pub ReturnLaw : Type 0
ReturnLaw =
    (p : Program) (tags : Tagged) (s : Section) (o : ℕ) (a b : Part) (parts : List Part)
    (mode : Mode) → AreParts p tags s o (a ∷ b ∷ parts) mode
    → (was : Mode) × AreParts p tags s o (b ∷ parts) was

abbrev pub ResumeLaw : Type 0
ResumeLaw =
    (p : Program) (tags : Tagged) (s : Section) (o j : ℕ) (a b : Part) (parts : List Part)
    (mode : Mode) (m : MethodInfo) (insn other : Insn) (target next : Target) (f g h : TagShape)
    → AreParts p tags s o (a ∷ b ∷ parts) mode → IsAt p tags b.method b.at m insn target f
    → IsAt p tags b.method j m other next g → Goes p m insn target f other h → h.held ≡ g.held
    → (was : Mode) × AreParts p tags s o (record b { at = j } ∷ parts) was
