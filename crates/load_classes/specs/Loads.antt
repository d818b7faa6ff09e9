-- What is promised of the class of a load.
use Rattle.std.specs.Prelude.{ℕ, ◌≤◌, ◌<◌, ◌^◌}
use Rattle.jvm_types.specs.ClassGrammar.{IsClass}
use Rattle.load_classes.specs.LoadClass.{load_class}
use Rattle.load_classes.specs.declared.limits.TheConstants.{MOST_METHODS}

-- bytes spell the class of each size: it keeps the rules of the class grammar
abbrev pub LoadsAreClasses : Type 0
LoadsAreClasses = (size seed : ℕ) → size ≤ MOST_METHODS → IsClass (load_class size seed)
