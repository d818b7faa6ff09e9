-- The value on top of the stack behind an instruction that does no more than to go on, and behind a
-- return with a result, by the type that verification gave to it.
use Rattle.std.specs.Prelude.{ℕ, Bool, true, false, List, [], ◌∷◌, Option, Some, None, is_some}
use Rattle.std.specs.Prelude.{slice_get}
use Rattle.std.specs.Fmt.{decimal, signed_decimal}
use Rattle.jvm_types.specs.Types.{TypeFrame}
use Rattle.jvm_types.specs.declared.program.MethodInfo.{MethodInfo}
use Rattle.jvm_types.specs.declared.program.Program.{Program}
use Rattle.jvm_types.specs.declared.typing.Typing.{Typing}
use Rattle.jvm_types.specs.declared.typing.VType.{VType}
use Rattle.jvm_types.specs.declared.typing.VType.TheVariants as types
use Rattle.checked_program.specs.CodeIndex.{number_in}
use Rattle.checked_program.specs.MarkedProgram.{MarkedProgram}
use Rattle.machine_types.specs.Ints.{int_of}
use Rattle.machine_types.specs.declared.effect.Effect.{Effect}
use Rattle.machine_types.specs.declared.effect.Effect.TheVariants.{Goes, Returns}
use Rattle.machine_types.specs.declared.phase.Phase.{Phase}
use Rattle.machine_types.specs.declared.phase.Phase.TheVariants.{Run}
use Rattle.event_texts.specs.ValueTexts.{reference_text}
use Rattle.event_texts.specs.declared.sights.After.{After}
use Rattle.event_texts.specs.declared.sights.Before.{Before}
use Rattle.event_texts.specs.declared.sights.Spot.{Spot}
use Rattle.tellings.specs.declared.facts.Fact.{Fact}
use Rattle.tellings.specs.declared.facts.Fact.TheVariants.{Text}
use Rattle.tellings.specs.declared.keys.Key.TheVariants as keys

-- ---- its type, where the frame stands

abbrev pub first_type : Option (Option TypeFrame) → Option VType
first_type (Some (Some f)) = slice_get f.stack 0
first_type frame = None

abbrev pub type_in : Option Typing → Option ℕ → Option VType
type_in (Some typing) (Some i) = first_type (slice_get typing.frames i)
type_in typing number = None

abbrev pub type_on_top : MarkedProgram → Spot → Option VType
type_on_top c at =
    type_in (slice_get c.typings at.method)
    (number_in (slice_get c.program.methods at.method) at.pc)

-- ---- as text

abbrev pub typed_text : Option VType → (n : ℕ) → List ℕ
typed_text None n = decimal n
typed_text (Some types.Top) n = decimal n
typed_text (Some types.Int) n = signed_decimal (int_of n)
typed_text (Some type) n = reference_text n

-- ---- the fact

-- a return of a method that has a result, or an instruction that does no more than to go on
abbrev pub has_result : Option MethodInfo → Bool
has_result None = false
has_result (Some m) = is_some m.result

abbrev pub leaves_value : Program → Option Effect → Option Spot → Bool
leaves_value p (Some (Goes to made)) at = true
leaves_value p (Some Returns) (Some at) = has_result (slice_get p.methods at.method)
leaves_value p effect at = false

abbrev pub value_on_top : MarkedProgram → Option Spot → Option ℕ → List Fact
value_on_top c (Some at) (Some n) = Text keys.Top (typed_text (type_on_top c at) n) ∷ []
value_on_top c at value = []

-- where the thread goes on to its next instruction
abbrev pub told_if : (may : Bool) → Phase → List Fact → List Fact
told_if true Run facts = facts
told_if may phase facts = []

abbrev pub top_facts : MarkedProgram → Before → After → List Fact
top_facts c b a =
    told_if (leaves_value c.program b.effect b.spot) a.phase (value_on_top c a.spot a.top)
