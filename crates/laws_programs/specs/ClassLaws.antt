-- What a machine that knows classes by their numbers may rely on.
use Rattle.std.specs.Prelude.{◌≡◌, ℕ, ◌≤◌, true, false}
use Rattle.jvm_types.specs.Numbers.{has_number}
use Rattle.jvm_types.specs.ClassTree.{built_in_supers, is_subclass}
use Rattle.jvm_types.specs.ClassNames.{file_class, is_throwable}
use Rattle.jvm_types.specs.declared.class_numbers.TheConstants.{THROWABLE_CLASS}

-- only the class itself is below one that is just above none, as `int[]`, PrintStream and a
-- throwable without subclasses
abbrev pub LeavesStandAlone : Type 0
LeavesStandAlone =
    (class leaf : ℕ) → has_number built_in_supers leaf ≡ false → is_subclass class leaf ≡ true
    → class ≡ leaf

-- only the class itself is below a class of a file
abbrev pub FileClassesStandAlone : Type 0
FileClassesStandAlone =
    (class other : ℕ) → file_class 0 ≤ other → is_subclass class other ≡ true → class ≡ other

-- the classes below Throwable are the twelve throwables
abbrev pub ThrowablesAreBelow : Type 0
ThrowablesAreBelow = (class : ℕ) → is_subclass class THROWABLE_CLASS ≡ is_throwable class
