-- The phases that an instruction goes through, or an exception.
use Rattle.machine_types.specs.declared.phase.Phase.{Phase}
use Rattle.machine_types.specs.declared.phase.Phase.TheVariants.{Element, Made, Throw}

abbrev pub IsElement : Phase → Type 0
IsElement (Element word stored) = Unit {0}
IsElement phase = ⊥

abbrev pub IsMadePhase : Phase → Type 0
IsMadePhase (Made a word) = Unit {0}
IsMadePhase phase = ⊥

abbrev pub IsThrow : Phase → Type 0
IsThrow (Throw x class) = Unit {0}
IsThrow phase = ⊥
