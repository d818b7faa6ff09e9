-- What a machine that runs a checked program may rely on, at each instruction of each method.
use Rattle.std.specs.Prelude.{◌≡◌, ℕ, ◌+◌, ◌≤◌, Bool, true, false, ◌&&◌, ◌||◌, List, length, map}
use Rattle.std.specs.Prelude.{reverse, take, Option, Some, slice_get}
use Rattle.std.specs.List.{find}
use Rattle.jvm_types.specs.ClassTree.{is_subclass}
use Rattle.jvm_types.specs.CodeTable.{type_of, is_init, row}
use Rattle.jvm_types.specs.declared.op_row.Want.{Want}
use Rattle.jvm_types.specs.declared.op_row.Want.TheVariants.{AnObject, ToStart}
use Rattle.jvm_types.specs.Members.{is_static}
use Rattle.jvm_types.specs.ProgramInvariant.{IsTargetOf, site_in}
use Rattle.jvm_types.specs.Types.{TypeFrame, is_below, all_pairs}
use Rattle.jvm_types.specs.Verifying.{HasTyping, IsAssignment, IsLaidOut, IsSound, covers, covering}
use Rattle.jvm_types.specs.Verifying.{frame_at}
use Rattle.jvm_types.specs.declared.code.Insn.{Insn}
use Rattle.jvm_types.specs.declared.program.MethodInfo.{MethodInfo}
use Rattle.jvm_types.specs.declared.program.Program.{Program}
use Rattle.jvm_types.specs.declared.program.Row.{Row}
use Rattle.jvm_types.specs.declared.program.Target.{Target}
use Rattle.jvm_types.specs.declared.typing.Typing.{Typing}
use Rattle.jvm_types.specs.declared.typing.VType.{VType}
use Rattle.laws_programs.specs.TargetLaws.{HasRow}
use Rattle.laws_programs.specs.EntryLaws.{receiver_count}
use Rattle.laws_programs.specs.NewLaws.{AreBehind}
use Rattle.laws_programs.specs.RuleLaws.{RulesHold, IsGood}
use Rattle.checked_program.specs.CheckedProgram.{CheckedProgram, IsChecked}
use Rattle.checked_program.specs.Marks.{called_method}
use Rattle.checked_program.specs.Reach.{IsReach}
use Rattle.checked_program.specs.Tagging.{catches_all, until_all}

-- ---- methods

-- the frames of a method of a checked program are those of its typing, which is sound at each
-- instruction
pub record AreFramesOf (p : Program) (m : MethodInfo) (typing : Typing) : Type 0 where
  pub laid : IsLaidOut m
  pub typed : HasTyping p m typing.frames
  pub sound : IsAssignment p m typing.frames

-- each method has its typing, at its number
abbrev pub CheckedIsSound : Type 0
CheckedIsSound =
    (c : CheckedProgram) (number : ℕ) (m : MethodInfo) → IsChecked c
    → slice_get c.program.methods number ≡ Some m
    → (typing : Typing) × (slice_get c.typings number ≡ Some typing)
    × AreFramesOf c.program m typing

-- so its receiver and arguments fit in its locals
abbrev pub CalledFit : Type 0
CalledFit =
    (c : CheckedProgram) (number : ℕ) (m : MethodInfo) → IsChecked c
    → slice_get c.program.methods number ≡ Some m
    → receiver_count m + length m.args ≤ m.max_locals

-- ---- instructions

-- an instruction of a method, with its target and its frame
pub record IsPlace (c : CheckedProgram) (m : MethodInfo) (frames : List (Option TypeFrame)) (i : ℕ)
    (insn : Insn) (target : Target) (f : TypeFrame) : Type 0 where
  pub method : ℕ
  pub typing : Typing
  pub in_program : slice_get c.program.methods method ≡ Some m
  pub its_typing : slice_get c.typings method ≡ Some typing
  pub its_frames : frames ≡ typing.frames
  pub in_code : slice_get m.code i ≡ Some insn
  pub its_target : slice_get m.targets i ≡ Some target
  pub has : slice_get frames i ≡ Some (Some f)

-- there is one where there is a frame
abbrev pub FramesHavePlaces : Type 0
FramesHavePlaces =
    (c : CheckedProgram) (method pc : ℕ) (m : MethodInfo) (typing : Typing) (f : TypeFrame)
    → IsChecked c → slice_get c.program.methods method ≡ Some m
    → slice_get c.typings method ≡ Some typing → frame_at m.code typing.frames pc ≡ Some f
    → (i : ℕ) × (insn : Insn) × (target : Target) × (insn.pc ≡ pc)
    × IsPlace c m typing.frames i insn target f

-- what holds there: the target fits and has its row, no rule is broken and each edge fits, and the
-- frame is within its bounds
pub record HoldsAtInstruction (p : Program) (m : MethodInfo) (frames : List (Option TypeFrame))
    (insn : Insn) (target : Target) (f : TypeFrame) : Type 0 where
  pub names : IsTargetOf p (site_in m) insn.op target
  pub has_row : HasRow p (site_in m) insn.pc target insn.op (row p m insn.pc target insn.op)
  pub rules : RulesHold m insn (row p m insn.pc target insn.op) f
  pub sound : IsSound m insn (row p m insn.pc target insn.op) frames f
  pub locals : length f.locals ≡ m.max_locals
  pub stack : length f.stack ≤ m.max_stack
  pub ready : is_init m ≡ false → f.ready ≡ true
  pub behind : AreBehind insn.pc f

abbrev pub CheckedPlacesHold : Type 0
CheckedPlacesHold =
    (c : CheckedProgram) (m : MethodInfo) (frames : List (Option TypeFrame)) (i : ℕ) (insn : Insn)
    (target : Target) (f : TypeFrame) → IsChecked c → IsPlace c m frames i insn target f
    → HoldsAtInstruction c.program m frames insn target f

-- ---- calls

-- what a call asks of its receiver
abbrev pub receiver_want : Bool → ℕ → Want
receiver_want true class = ToStart class
receiver_want false class = AnObject class

-- the values on top are what the called method takes, its last argument first
pub record CallSuits (m called : MethodInfo) (stack : List VType) : Type 0 where
  pub arguments : all_pairs is_below (take (length called.args) stack)
      (map type_of (reverse called.args)) ≡ true
  pub receiver : is_static called.flags ≡ false
      → (type : VType) × (slice_get stack (length called.args) ≡ Some type)
      × IsGood m (receiver_want (is_init called) called.class) type

abbrev pub CallsSuit : Type 0
CallsSuit =
    (c : CheckedProgram) (m called : MethodInfo) (frames : List (Option TypeFrame)) (i number : ℕ)
    (insn : Insn) (target : Target) (f : TypeFrame) → IsChecked c
    → IsPlace c m frames i insn target f → called_method insn.op target ≡ Some number
    → slice_get c.program.methods number ≡ Some called → CallSuits m called f.stack

-- ---- exceptions

-- the first row that catches a class at a pc is one of those up to the first that catches all
abbrev pub CatchersAreAmong : Type 0
CatchersAreAmong =
    (m : MethodInfo) (pc class : ℕ) (handler : Row)
    → find (λ r. covers pc r && (catches_all r || is_subclass class r.catch_class)) m.rows
    ≡ Some handler → (k : ℕ) × (slice_get (until_all (covering m pc)) k ≡ Some handler)

-- ---- reach

-- what a method reaches is one number
abbrev pub ReachIsOne : Type 0
ReachIsOne = (p : Program) (mi n k : ℕ) → IsReach p mi n → IsReach p mi k → n ≡ k
