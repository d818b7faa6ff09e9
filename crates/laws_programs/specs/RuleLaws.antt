-- What holds at an instruction where no rule is broken: of the values that it takes and reads, of
-- the arguments of a call, and of what a method returns.
use Rattle.std.specs.Prelude.{◌≡◌, ℕ, true, false, List, [], ◌∷◌, ◌++◌, length, map, reverse, take}
use Rattle.std.specs.Prelude.{Some, None, slice_get}
use Rattle.jvm_types.specs.CodeTable.{type_of, arguments, row}
use Rattle.jvm_types.specs.declared.op_row.Want.{Want}
use Rattle.jvm_types.specs.declared.op_row.OpRow.{OpRow}
use Rattle.jvm_types.specs.Types.{TypeFrame, is_below, all_pairs}
use Rattle.jvm_types.specs.Verifying.{takes_too_many, gives_too_many, lacks_locals, misuses_object}
use Rattle.jvm_types.specs.Verifying.{mistypes, misuses, suits, broken_before, broken_after}
use Rattle.jvm_types.specs.declared.code.Insn.{Insn}
use Rattle.jvm_types.specs.declared.code.Op.{Op}
use Rattle.jvm_types.specs.declared.code.Op.TheVariants as ops
use Rattle.jvm_types.specs.declared.program.Kind.{Kind}
use Rattle.jvm_types.specs.declared.program.MethodInfo.{MethodInfo}
use Rattle.jvm_types.specs.declared.program.Program.{Program}
use Rattle.jvm_types.specs.declared.program.Target.{Target}
use Rattle.jvm_types.specs.declared.typing.VType.{VType}

-- the rules that are tested before an edge is brought hold
pub record RulesHold (m : MethodInfo) (insn : Insn) (r : OpRow) (f : TypeFrame) : Type 0 where
  pub takes : takes_too_many r f ≡ false
  pub gives : gives_too_many m r f ≡ false
  pub locals : lacks_locals m r f ≡ false
  pub objects : misuses_object m insn r f ≡ false
  pub types : mistypes m r f ≡ false

abbrev pub UnbrokenHold : Type 0
UnbrokenHold =
    (m : MethodInfo) (insn : Insn) (r : OpRow) (f : TypeFrame) → broken_before m insn r f ≡ None
    → RulesHold m insn r f

-- ---- values

-- a value is of the type that is asked for, and not misused
abbrev pub IsGood : MethodInfo → Want → VType → Type 0
IsGood m want t = (suits m want t ≡ true) × (misuses m want t ≡ false)

-- each value that is taken is there and good
abbrev pub TakenAreGood : Type 0
TakenAreGood =
    (m : MethodInfo) (insn : Insn) (r : OpRow) (f : TypeFrame) (k : ℕ) (want : Want)
    → RulesHold m insn r f → slice_get r.takes k ≡ Some want
    → (t : VType) × (slice_get f.stack k ≡ Some t) × IsGood m want t

-- so is the local that is read, where the frame has max_locals locals
abbrev pub ReadIsGood : Type 0
ReadIsGood =
    (m : MethodInfo) (insn : Insn) (r : OpRow) (f : TypeFrame) (local : ℕ) (want : Want)
    → RulesHold m insn r f → length f.locals ≡ m.max_locals → r.reads ≡ Some (local, want)
    → (t : VType) × (slice_get f.locals local ≡ Some t) × IsGood m want t

-- ---- calls and returns

-- the arguments of a call are of the types of the method's parameters, from the top of the stack
-- on, the last argument first
abbrev pub ArgumentsSuit : Type 0
ArgumentsSuit =
    (m called : MethodInfo) (insn : Insn) (r : OpRow) (f : TypeFrame) (receiver : List Want)
    → RulesHold m insn r f → r.takes ≡ arguments called ++ receiver
    → all_pairs is_below (take (length called.args) f.stack) (map type_of (reverse called.args))
    ≡ true

-- and below them on the stack is what the receiver has to be
abbrev pub ReceiverIsGood : Type 0
ReceiverIsGood =
    (m called : MethodInfo) (insn : Insn) (r : OpRow) (f : TypeFrame) (want : Want)
    → RulesHold m insn r f → r.takes ≡ arguments called ++ want ∷ []
    → (t : VType) × (slice_get f.stack (length called.args) ≡ Some t) × IsGood m want t

-- the value on top is of the type that the method returns
pub record ReturnsTop (m : MethodInfo) (stack : List VType) : Type 0 where
  pub kind : Kind
  pub type : VType
  pub described : m.result ≡ Some kind
  pub top : slice_get stack 0 ≡ Some type
  pub fits : is_below type (type_of kind) ≡ true

-- a returned value is of the type of the descriptor, and `return` returns from a method without one
abbrev pub ReturnsWell : MethodInfo → Op → List VType → Type 0
ReturnsWell m ops.Return stack = m.result ≡ None
ReturnsWell m ops.Ireturn stack = ReturnsTop m stack
ReturnsWell m ops.Areturn stack = ReturnsTop m stack
ReturnsWell m op stack = Unit {0}

abbrev pub ReturnsSuit : Type 0
ReturnsSuit =
    (p : Program) (m : MethodInfo) (insn : Insn) (target : Target) (f : TypeFrame)
    → RulesHold m insn (row p m insn.pc target insn.op) f → broken_after m insn ≡ None
    → ReturnsWell m insn.op f.stack
