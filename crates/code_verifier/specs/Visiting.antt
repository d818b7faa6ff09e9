-- What the visits keep of the nodes of a method, and what one of them answers.
use Rattle.std.specs.Prelude.{◌≡◌, ℕ, true, false, nat_le, List, [], ◌∷◌, Option, Some, None}
use Rattle.std.specs.Prelude.{Result, Ok, Err}
use Rattle.std.specs.List.{AllByRecursion}
use Rattle.jvm_types.specs.Types.{TypeFrame, entry_type_frame}
use Rattle.jvm_types.specs.Verifying.{covers, covering, broken_before, frame_after, IsRefused}
use Rattle.jvm_types.specs.declared.code.Insn.{Insn}
use Rattle.jvm_types.specs.declared.op_row.OpRow.{OpRow}
use Rattle.jvm_types.specs.declared.program.MethodInfo.{MethodInfo}
use Rattle.jvm_types.specs.declared.program.Program.{Program}
use Rattle.jvm_types.specs.declared.program.Row.{Row}
use Rattle.jvm_types.specs.declared.refusal.VRule.{VRule}
use Rattle.jvm_types.specs.declared.typing.VType.TheVariants.{Ref}
use Rattle.checked_program.specs.Visits.{Act, PlanNode, acted}
use Rattle.code_visits.specs.Level.{AreLevel}
use Rattle.code_visits.specs.declared.stop.Stop.{Stop}
use Rattle.code_visits.specs.declared.stop.Stop.TheVariants as stops
use Rattle.code_visits.specs.TypePlan.{type_local_count, type_meeting, caught_acts}
use Rattle.code_visits.proofs.TypeRests.{AreTypesSound}
use Rattle.code_verifier.specs.declared.error.VerifyError.{VerifyError}
use Rattle.code_verifier.specs.declared.error.VerifyError.TheVariants.{Memory, Refused}

-- ---- frames and nodes

-- as many as the frame at pc 0
abbrev pub HasLocals : MethodInfo → TypeFrame → Type 0
HasLocals m f = type_local_count f ≡ type_local_count (entry_type_frame m)

-- one node for each instruction, and each frame has these locals
abbrev pub HaveLocals : MethodInfo → List (PlanNode TypeFrame) → Type 0
HaveLocals m nodes = AreLevel type_local_count (type_local_count (entry_type_frame m)) m.code nodes

-- with one object of the class on its stack
abbrev pub with_object_stack : ℕ → TypeFrame → TypeFrame
with_object_stack class f = record { stack = Ref class ∷ []; locals = f.locals; ready = f.ready }

-- frames of the same locals, in which `this` is initialised alike
abbrev pub HasSameLocals : TypeFrame → TypeFrame → Type 0
HasSameLocals f g = (f.locals ≡ g.locals) × (f.ready ≡ g.ready)

-- ---- one visit

-- some acts of a visit
abbrev pub type_acts_done : MethodInfo → List (Act TypeFrame VRule) → List (PlanNode TypeFrame)
    → Result (List (PlanNode TypeFrame)) (VRule × ℕ)
type_acts_done m acts nodes = acted type_meeting m.code acts nodes

-- what is kept of a frame for the handlers of the rows that cover a pc: all but the stack, where
-- there are some
abbrev pub KeptTypeFrame : MethodInfo → ℕ → TypeFrame → Option TypeFrame → Type 0
KeptTypeFrame m pc f None = covering m pc ≡ []
KeptTypeFrame m pc f (Some g) = g ≡ record { stack = []; locals = f.locals; ready = f.ready }

-- what each row that covers a pc, and begins before another, does with a frame leaves the nodes as
-- they are
abbrev pub DoRowsRest : MethodInfo → ℕ → TypeFrame → ℕ → List (PlanNode TypeFrame) → List Row
    → Type 0
DoRowsRest m pc f from nodes rows = AllByRecursion
    (λ handler. covers pc handler ≡ true → nat_le from handler.start ≡ false
    → AreTypesSound m nodes (caught_acts m pc f handler)) rows

-- a frame breaks no rule at an instruction, and these are the frame after it and what is kept for
-- handlers
pub record IsPrepared (m : MethodInfo) (insn : Insn) (r : OpRow) (f after : TypeFrame)
    (kept : Option TypeFrame) : Type 0 where
  pub unbroken : broken_before m insn r f ≡ None
  pub after_is : after ≡ frame_after m r f
  pub keeps : KeptTypeFrame m insn.pc f kept

-- these; or the rule that is broken there; or memory ran out
abbrev pub Prepares : MethodInfo → Insn → OpRow → TypeFrame
    → Result (TypeFrame × Option TypeFrame) (Stop VRule) → Type 0
Prepares m insn r f (Ok made) = IsPrepared m insn r f made.0 made.1
Prepares m insn r f (Err stops.Memory) = Unit {0}
Prepares m insn r f (Err (stops.Refused rule pc)) =
    (broken_before m insn r f ≡ Some rule) × (pc ≡ insn.pc)

-- ---- the answer

-- why a method has no typing, by why its visits stopped
abbrev pub verify_error_of : Stop VRule → VerifyError
verify_error_of stops.Memory = Memory
verify_error_of (stops.Refused rule pc) = Refused rule pc

-- memory ran out, or the method is refused so
abbrev pub IsRefusal : Program → MethodInfo → VerifyError → Type 0
IsRefusal p m Memory = Unit {0}
IsRefusal p m (Refused rule pc) = IsRefused p m rule pc
