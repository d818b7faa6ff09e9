-- What one visit of the nodes of a method answers, and the visits in all.
use Rattle.std.specs.Prelude.{◌≡◌, ℕ, Bool, false, if◌then◌else◌, List, [], ◌∷◌, map, Option, Some}
use Rattle.std.specs.Prelude.{None, Result, Ok, Err}
use Rattle.std.specs.List.{AllByRecursion}
use Rattle.jvm_types.specs.Verifying.{covers, covering}
use Rattle.jvm_types.specs.declared.code.Insn.{Insn}
use Rattle.jvm_types.specs.declared.op_row.OpRow.{OpRow}
use Rattle.jvm_types.specs.declared.program.MethodInfo.{MethodInfo}
use Rattle.jvm_types.specs.declared.program.Program.{Program}
use Rattle.jvm_types.specs.declared.program.Row.{Row}
use Rattle.jvm_types.specs.declared.refusal.SRule.{SRule}
use Rattle.jvm_types.specs.declared.refusal.SRule.TheVariants.{S1, S2, S3}
use Rattle.checked_program.specs.LockTags.{TagShape, IsShapeBelow}
use Rattle.checked_program.specs.Tagging.{tag_meeting, tags_after, tags_at_handler, until_all}
use Rattle.checked_program.specs.Tagging.{catchers, enters_untagged, exits_other, leaves_held}
use Rattle.checked_program.specs.Tagging.{IsTagRefused}
use Rattle.checked_program.specs.Visits.{PlanNode, Act, Bring, acted}
use Rattle.laws_sections.proofs.TagOrder.{tag_order}
use Rattle.laws_sections.proofs.VisitedNodes.{LandsOn}
use Rattle.code_visits.specs.Level.{AreLevel}
use Rattle.code_visits.specs.declared.stop.Stop.{Stop}
use Rattle.code_visits.specs.declared.stop.Stop.TheVariants as stops
use Rattle.monitor_tags.specs.declared.error.TagError.{TagError}
use Rattle.monitor_tags.specs.declared.error.TagError.TheVariants.{Memory, Refused}
use Rattle.monitor_tags.specs.declared.visit.Going.{Going}

abbrev pub Nodes : Type 0
Nodes = List (PlanNode TagShape)

-- one node for each instruction
abbrev pub AreLong : MethodInfo → Nodes → Type 0
AreLong m nodes = AreLevel (λ (f : TagShape). 0) 0 m.code nodes

-- ---- what a visit does

abbrev pub Done : Type 0
Done = Result Nodes (SRule × ℕ)

-- some acts of a visit
abbrev pub does : MethodInfo → List (Act TagShape SRule) → Nodes → Done
does m acts nodes = acted tag_meeting m.code acts nodes

-- a frame goes along edges
abbrev pub goes_along : List ℕ → TagShape → Act TagShape SRule
goes_along tos f = Bring S3 tos f

-- a frame goes to the handlers of some rows
abbrev pub to_handlers : TagShape → List Row → List (Act TagShape SRule)
to_handlers f rows = map (λ (handler : Row). goes_along (handler.handler ∷ []) f) rows

-- a frame goes to the handler of a row, where that covers a pc
abbrev pub turn_acts : ℕ → TagShape → Row → List (Act TagShape SRule)
turn_acts pc f handler =
    if covers pc handler then goes_along (handler.handler ∷ []) f ∷ [] else []

-- what is kept of a frame for the handlers that an exception of an instruction may go to, where
-- there are some
abbrev pub KeptTagShape : MethodInfo → Insn → TagShape → Option TagShape → Type 0
KeptTagShape m insn f None = catchers m insn ≡ []
KeptTagShape m insn f (Some g) =
    (g ≡ tags_at_handler f) × (catchers m insn ≡ until_all (covering m insn.pc))

-- the handler of each of some rows has a frame that this one is below: brought there it changes
-- nothing
abbrev pub DoRest : MethodInfo → TagShape → Nodes → List Row → Type 0
DoRest m f nodes rows = AllByRecursion
    (λ (handler : Row).
    LandsOn tag_meeting IsShapeBelow tag_order m.code nodes f handler.handler) rows

-- those of the rows that an exception at a pc goes to
abbrev pub DoCatchersRest : MethodInfo → ℕ → TagShape → Nodes → Type 0
DoCatchersRest m at f nodes = DoRest m f nodes (until_all (covering m at))

-- a frame breaks neither of the first rules at an instruction, and this is what the instruction
-- does with it
pub record IsGoing (m : MethodInfo) (insn : Insn) (r : OpRow) (f : TagShape) (g : Going)
    : Type 0 where
  pub enters : enters_untagged insn.op f.stack ≡ false
  pub exits : exits_other insn.op f.stack f.held ≡ false
  pub after : g.after ≡ tags_after insn r f
  pub keeps : KeptTagShape m insn f g.at_handler
  pub leaves : g.leaves ≡ leaves_held m insn f.held

-- the first of these rules that a frame breaks at an instruction
abbrev pub first_tag_rule : Bool → Bool → Option SRule
first_tag_rule enters exits = if enters then Some S1 else if exits then Some S2 else None

-- this; or the rule that is broken there; or memory ran out
abbrev pub TagsPrepared : MethodInfo → Insn → OpRow → TagShape → Result Going (Stop SRule) → Type 0
TagsPrepared m insn r f (Ok g) = IsGoing m insn r f g
TagsPrepared m insn r f (Err stops.Memory) = Unit {0}
TagsPrepared m insn r f (Err (stops.Refused rule pc)) =
    (first_tag_rule (enters_untagged insn.op f.stack) (exits_other insn.op f.stack f.held)
    ≡ Some rule) × (pc ≡ insn.pc)

-- ---- the answer

-- why a method has no tagging, by why its visits stopped
abbrev pub error_of : Stop SRule → TagError
error_of stops.Memory = Memory
error_of (stops.Refused rule pc) = Refused rule pc

-- memory ran out, or the method is refused so
abbrev pub IsTagRefusal : Program → MethodInfo → TagError → Type 0
IsTagRefusal p m Memory = Unit {0}
IsTagRefusal p m (Refused rule pc) = IsTagRefused p m rule pc
