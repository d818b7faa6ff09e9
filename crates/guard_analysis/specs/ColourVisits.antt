-- Visits that find for all array fields at once which field each value on a stack was read from.
-- The first frame that an edge brings stays; where a later edge brings another colour, both fields
-- that are named are out. Of a field that is not out no edge brings another colour, so that its
-- colouring is what stands.
use Rattle.std.specs.Prelude.{◌&&◌, ℕ, Bool, true, false, not, ◌==◌, if◌then◌else◌, List, [], ◌∷◌}
use Rattle.std.specs.Prelude.{map, Option, Some, None, Result, slice_get, slice_index_or}
use Rattle.jvm_types.specs.CodeTable.{row, stack_after}
use Rattle.jvm_types.specs.Members.{is_private, is_static}
use Rattle.jvm_types.specs.Verifying.{edges}
use Rattle.jvm_types.specs.declared.class_numbers.TheConstants.{INT_ARRAY_CLASS}
use Rattle.jvm_types.specs.declared.code.Insn.{Insn}
use Rattle.jvm_types.specs.declared.code.Op.{Op}
use Rattle.jvm_types.specs.declared.code.Op.TheVariants as ops
use Rattle.jvm_types.specs.declared.op_row.OpRow.{OpRow}
use Rattle.jvm_types.specs.declared.program.FieldInfo.{FieldInfo}
use Rattle.jvm_types.specs.declared.program.Kind.{Kind}
use Rattle.jvm_types.specs.declared.program.Kind.TheVariants as kinds
use Rattle.jvm_types.specs.declared.program.Row.{Row}
use Rattle.jvm_types.specs.declared.program.Target.{Target}
use Rattle.jvm_types.specs.declared.program.Target.TheVariants as targets
use Rattle.jvm_types.specs.declared.program.MethodInfo.{MethodInfo}
use Rattle.jvm_types.specs.declared.program.Program.{Program}
use Rattle.checked_program.specs.Tagging.{catchers}
use Rattle.checked_program.specs.Visits.{Meeting, Act, Bring, Plan, PlanNode, acted}
use Rattle.code_visits.specs.Level.{AreLevel}
use Rattle.guard_analysis.specs.declared.colouring.Colour.{Colour}
use Rattle.guard_analysis.specs.declared.colouring.Colour.TheVariants.{Plain, Of}
use Rattle.guard_analysis.specs.declared.colouring.NoRule.{NoRule}
use Rattle.guard_analysis.specs.declared.colouring.NoRule.TheVariants.{Nothing}

-- ---- fields that may be owned, by their flags and their type

abbrev pub is_int_array : Kind → Bool
is_int_array (kinds.Ref class) = class == INT_ARRAY_CLASS
is_int_array kind = false

abbrev pub may_be_owned : Option FieldInfo → Bool
may_be_owned None = false
may_be_owned (Some field) =
    is_int_array field.kind && is_private field.flags && not (is_static field.flags)

abbrev pub is_array_field : Program → (fi : ℕ) → Bool
is_array_field p fi = may_be_owned (slice_get p.fields fi)

-- ---- the colours after an instruction; no local has one

abbrev pub colour_made : Program → Op → Target → Colour
colour_made p (ops.Getfield i) (targets.Field fi) = if is_array_field p fi then Of fi else Plain
colour_made p op target = Plain

abbrev pub field_colours_after : Program → Insn → Target → OpRow → List Colour → List Colour
field_colours_after p insn target r stack =
    stack_after Plain (λ type. colour_made p insn.op target) r stack []

-- ---- the visits

abbrev pub colours_first : MethodInfo → List Colour
colours_first m = []

abbrev pub same_colour : Colour → Colour → Bool
same_colour Plain Plain = true
same_colour (Of fi) (Of other) = fi == other
same_colour c d = false

abbrev pub same_colours : List Colour → List Colour → Bool
same_colours [] [] = true
same_colours (c ∷ cs) (d ∷ ds) = same_colour c d && same_colours cs ds
same_colours cs ds = false

abbrev pub colour_meeting : Meeting (List Colour)
colour_meeting = record { meet = λ f g. f; same = same_colours; clashes = λ f g. false }

-- a frame goes along edges, and to the handlers of some rows
abbrev pub goes_coloured : List ℕ → List Colour → Act (List Colour) NoRule
goes_coloured tos stack = Bring Nothing tos stack

abbrev pub colours_at_handlers : List Colour → List Row → List (Act (List Colour) NoRule)
colours_at_handlers stack rows =
    map (λ (handler : Row). goes_coloured (handler.handler ∷ []) stack) rows

abbrev pub colour_acts : Program → MethodInfo → Insn → Target → OpRow → List Colour
    → List (Act (List Colour) NoRule)
colour_acts p m insn target r stack =
    goes_coloured (edges insn) (field_colours_after p insn target r stack)
    ∷ colours_at_handlers (Plain ∷ []) (catchers m insn)

abbrev pub colour_acts_at : Program → MethodInfo → Option Insn → Option Target → List Colour
    → List (Act (List Colour) NoRule)
colour_acts_at p m (Some insn) (Some target) stack =
    colour_acts p m insn target (row p m insn.pc target insn.op) stack
colour_acts_at p m insn target stack = []

abbrev pub colour_plan : Program → MethodInfo → Plan (List Colour) NoRule
colour_plan p m =
    record {
      meeting = colour_meeting;
      code = m.code;
      first = colours_first m;
      acts = λ i stack. colour_acts_at p m (slice_get m.code i) (slice_get m.targets i) stack;
    }

-- one node for each instruction
abbrev pub AreColourNodes : MethodInfo → List (PlanNode (List Colour)) → Type 0
AreColourNodes m nodes = AreLevel (λ (f : List Colour). 0) 0 m.code nodes

-- some acts of a visit
abbrev pub colours_done : MethodInfo → List (Act (List Colour) NoRule)
    → List (PlanNode (List Colour)) → Result (List (PlanNode (List Colour))) (NoRule × ℕ)
colours_done m acts nodes = acted colour_meeting m.code acts nodes

-- ---- of one field

abbrev pub is_colour_of : (fi : ℕ) → Colour → Bool
is_colour_of fi Plain = false
is_colour_of fi (Of other) = other == fi

abbrev pub colour_at : List Colour → (k : ℕ) → Colour
colour_at colours k = slice_index_or colours k Plain

-- its colours among those of all
abbrev pub of_field : (fi : ℕ) → List Colour → List Bool
of_field fi colours = map (is_colour_of fi) colours
