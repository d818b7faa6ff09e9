-- What a place is of, which the rule says.
use Rattle.std.specs.Prelude.{ℕ, ◌==◌, Bool, true, false, if◌then◌else◌}
use Rattle.jvm_types.specs.declared.refusal.Rule.{Rule}
use Rattle.jvm_types.specs.declared.refusal.Rule.TheVariants as rules
use Rattle.jvm_types.specs.declared.refusal.KRule.{KRule}
use Rattle.jvm_types.specs.declared.refusal.KRule.TheVariants.{K4, K5}
use Rattle.jvm_types.specs.declared.refusal.LRule.{LRule}
use Rattle.jvm_types.specs.declared.refusal.LRule.TheVariants.{L1, L5, L9}
use Rattle.jvm_types.specs.declared.refusal.Place.{Place}
use Rattle.jvm_types.specs.declared.refusal.TheConstants.{NO_METHOD}
use Rattle.refusal_places.specs.declared.spots.Spot.{Spot}
use Rattle.refusal_places.specs.declared.spots.Spot.TheVariants.{Offset, Whole, Field, Method, Row}
use Rattle.refusal_places.specs.declared.spots.Spot.TheVariants.{Instruction, Use}

-- a rule on code: a handler row, the code as a whole, or an instruction
abbrev pub code_spot : KRule → Place → Spot
code_spot K4 place = Row place.method place.at
code_spot K5 place = Method place.method
code_spot rule place = Instruction place.method place.at

-- A rule of linking, at a place in no method: a field by its number, or the class. The name of the
-- class is at 0, and no field 0 has the name of an earlier one.
abbrev pub class_spot : LRule → ℕ → Spot
class_spot L1 at = Field at
class_spot L5 at = if at == 0 then Whole else Field at
class_spot rule at = Whole

-- And at a place in a method: the method, or an instruction. What is not there may be used by a
-- handler row that begins at the place as well, and at 0 by the method's descriptor.
abbrev pub method_spot : LRule → (method at : ℕ) → Spot
method_spot L5 method at = Method method
method_spot L9 method at = Method method
method_spot L1 method at = Use method at
method_spot rule method at = Instruction method at

abbrev pub link_spot : LRule → (in_class : Bool) → (method at : ℕ) → Spot
link_spot rule true method at = class_spot rule at
link_spot rule false method at = method_spot rule method at

abbrev pub spot : Rule → Place → Spot
spot (rules.K rule) place = code_spot rule place
spot (rules.L rule) place = link_spot rule (place.method == NO_METHOD) place.method place.at
spot (rules.V rule) place = Instruction place.method place.at
spot (rules.S rule) place = Instruction place.method place.at
spot rule place = Offset place.at
