-- Verification as visits for frames of any kind: what an instruction does with a frame, act by act.
use Rattle.std.specs.Prelude.{ℕ, not, ◌==◌, List, [], ◌∷◌, ◌++◌, length, map, Option, Some, None}
use Rattle.std.specs.Prelude.{slice_get}
use Rattle.jvm_types.specs.CodeTable.{row}
use Rattle.jvm_types.specs.Types.{TypeFrame, same_frame, meet_frames, entry_type_frame}
use Rattle.jvm_types.specs.Verifying.{edges, covering, broken_before, broken_after, frame_after}
use Rattle.jvm_types.specs.Verifying.{frame_at_handler, catch_fault}
use Rattle.jvm_types.specs.Verifying as typing
use Rattle.jvm_types.specs.declared.code.Insn.{Insn}
use Rattle.jvm_types.specs.declared.op_row.OpRow.{OpRow}
use Rattle.jvm_types.specs.declared.program.Row.{Row}
use Rattle.jvm_types.specs.declared.program.Target.{Target}
use Rattle.jvm_types.specs.declared.program.MethodInfo.{MethodInfo}
use Rattle.jvm_types.specs.declared.program.Program.{Program}
use Rattle.jvm_types.specs.declared.refusal.VRule.{VRule}
use Rattle.jvm_types.specs.declared.refusal.VRule.TheVariants.{V5}
use Rattle.checked_program.specs.Visits.{Meeting, Act, Break, Bring, Plan, PlanNode}
use Rattle.laws_programs.proofs.VisitsEnd.{IsKept, work}

-- how many locals a frame has; all frames of a method have as many
abbrev pub type_local_count : TypeFrame → ℕ
type_local_count f = length f.locals

-- V5: frames of another depth may not meet
abbrev pub type_meeting : Meeting TypeFrame
type_meeting =
    record {
      meet = meet_frames;
      same = same_frame;
      clashes = λ f g. not (length f.stack == length g.stack);
    }

-- a rule that is broken, at a pc
abbrev pub break_at : Option (VRule × ℕ) → List (Act TypeFrame VRule)
break_at None = []
break_at (Some fault) = Break fault.0 fault.1 ∷ []

abbrev pub break_by : ℕ → Option VRule → List (Act TypeFrame VRule)
break_by pc None = []
break_by pc (Some rule) = Break rule pc ∷ []

-- a frame goes along edges
abbrev pub goes_typed : List ℕ → TypeFrame → Act TypeFrame VRule
goes_typed tos f = Bring V5 tos f

-- the edges to the handlers of some rows that cover a pc, row by row
abbrev pub caught_acts : MethodInfo → ℕ → TypeFrame → Row → List (Act TypeFrame VRule)
caught_acts m pc f handler =
    break_at (catch_fault m pc handler)
    ++ goes_typed (handler.handler ∷ []) (frame_at_handler handler f) ∷ []

abbrev pub handled_acts : MethodInfo → ℕ → TypeFrame → List Row → List (Act TypeFrame VRule)
handled_acts m pc f [] = []
handled_acts m pc f (handler ∷ handlers) =
    caught_acts m pc f handler ++ handled_acts m pc f handlers

-- the rules after the normal edges, and the edges to handlers
abbrev pub later_acts : MethodInfo → Insn → TypeFrame → List (Act TypeFrame VRule)
later_acts m insn f =
    break_by insn.pc (broken_after m insn) ++ handled_acts m insn.pc f (covering m insn.pc)

abbrev pub gone_acts : MethodInfo → Insn → TypeFrame → TypeFrame → List (Act TypeFrame VRule)
gone_acts m insn f after = goes_typed (edges insn) after ∷ later_acts m insn f

abbrev pub type_acts : MethodInfo → Insn → OpRow → TypeFrame → List (Act TypeFrame VRule)
type_acts m insn r f =
    break_by insn.pc (broken_before m insn r f) ++ gone_acts m insn f (frame_after m r f)

abbrev pub type_acts_at : Program → MethodInfo → Option Insn → Option Target → TypeFrame
    → List (Act TypeFrame VRule)
type_acts_at p m (Some insn) (Some target) f = type_acts m insn (row p m insn.pc target insn.op) f
type_acts_at p m insn target f = []

abbrev pub type_plan : Program → MethodInfo → Plan TypeFrame VRule
type_plan p m =
    record {
      meeting = type_meeting;
      code = m.code;
      first = entry_type_frame m;
      acts = λ i f. type_acts_at p m (slice_get m.code i) (slice_get m.targets i) f;
    }

-- ---- the same in verification's own definitions

abbrev pub typed_node : PlanNode TypeFrame → typing.Node
typed_node node = record { frame = node.frame; waits = node.waits }

abbrev pub typed : List (PlanNode TypeFrame) → List typing.Node
typed nodes = map typed_node nodes

-- what its visits keep of the nodes, and the work that is left
abbrev pub TypesKept : MethodInfo → List (PlanNode TypeFrame) → Type 0
TypesKept m nodes = IsKept m (typed nodes)

abbrev pub types_work : MethodInfo → List (PlanNode TypeFrame) → ℕ
types_work m nodes = work m (typed nodes)
