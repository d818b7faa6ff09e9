-- Where there may be values that a `new` made and no `<init>` was called on: behind their `new`.
use Rattle.std.specs.Prelude.{◌≡◌, ◌<◌, ℕ, true, List, Option, Some, None, slice_get}
use Rattle.std.specs.List.{AllByRecursion}
use Rattle.jvm_types.specs.CodeTable.{row}
use Rattle.jvm_types.specs.Types.{TypeFrame, frame_below}
use Rattle.jvm_types.specs.Verifying.{broken_before, frame_after, frame_at_handler, covering, edges}
use Rattle.jvm_types.specs.Verifying.{HasTyping, IsLaidOut}
use Rattle.jvm_types.specs.declared.code.Insn.{Insn}
use Rattle.jvm_types.specs.declared.typing.VType.{VType}
use Rattle.jvm_types.specs.declared.typing.VType.TheVariants.{New}
use Rattle.jvm_types.specs.declared.program.Target.{Target}
use Rattle.jvm_types.specs.declared.program.Row.{Row}
use Rattle.jvm_types.specs.declared.program.MethodInfo.{MethodInfo}
use Rattle.jvm_types.specs.declared.program.Program.{Program}

abbrev pub IsNewBefore : ℕ → VType → Type 0
IsNewBefore pc (New at) = at < pc
IsNewBefore pc t = Unit {0}

-- each such value was made before this pc
pub record AreBehind (pc : ℕ) (f : TypeFrame) : Type 0 where
  pub stack : AllByRecursion (IsNewBefore pc) f.stack
  pub locals : AllByRecursion (IsNewBefore pc) f.locals

-- in a typing each was made before the instruction at which it is
abbrev pub NewIsBehind : Type 0
NewIsBehind =
    (p : Program) (m : MethodInfo) (frames : List (Option TypeFrame)) (i : ℕ) (insn : Insn)
    (f : TypeFrame) → IsLaidOut m → HasTyping p m frames → slice_get m.code i ≡ Some insn
    → slice_get frames i ≡ Some (Some f) → AreBehind insn.pc f

-- it stays so along each edge of an instruction that breaks no rule
abbrev pub NewStaysBehind : Type 0
NewStaysBehind =
    (p : Program) (m : MethodInfo) (insn : Insn) (target : Target) (f : TypeFrame)
    → insn.pc < insn.next → broken_before m insn (row p m insn.pc target insn.op) f ≡ None
    → AreBehind insn.pc f
    → AllByRecursion (λ to. AreBehind to (frame_after m (row p m insn.pc target insn.op) f))
    (edges insn)
    × AllByRecursion (λ (handler : Row). AreBehind handler.handler (frame_at_handler handler f))
    (covering m insn.pc)

-- and where a frame is below another
abbrev pub BehindRises : Type 0
BehindRises = (pc : ℕ) (f g : TypeFrame) → frame_below f g ≡ true → AreBehind pc f → AreBehind pc g
