-- The classes by their numbers, and which is below which. Every class of a program is just below
-- Object (this machine has no inheritance between them). The tree of throwables is that of the
-- platform's API; twelve of them stand here, without IndexOutOfBoundsException and
-- VirtualMachineError between them.
use Rattle.std.specs.Prelude.{ℕ, slice_index_or, Bool, if◌then◌else◌, List, [], ◌∷◌}
use Rattle.jvm_types.specs.Numbers.{has_number}
use Rattle.jvm_types.specs.declared.class_numbers.TheConstants.{OBJECT_CLASS}

-- the class just above each built-in one, by its number: Exception 5 and Error 6 are below
-- Throwable, RuntimeException 7 and InterruptedException 8 below Exception, 9 to 13 below
-- RuntimeException, and 14 and 15 below Error. Object stands above itself, and no class has the
-- number 0.
abbrev pub built_in_supers : List ℕ
built_in_supers = 1 ∷ 1 ∷ 1 ∷ 1 ∷ 1 ∷ 4 ∷ 4 ∷ 5 ∷ 5 ∷ 7 ∷ 7 ∷ 7 ∷ 7 ∷ 7 ∷ 6 ∷ 6 ∷ []

-- the class just above
abbrev pub super_class : ℕ → ℕ
super_class class = slice_index_or built_in_supers class OBJECT_CLASS

-- a class and those above it: no class is more than four steps from Object, and so each list ends
-- there
abbrev pub ancestors : ℕ → List ℕ
ancestors class = line class (super_class class)
  where
    line : ℕ → ℕ → List ℕ
    line c d =
        c ∷ d ∷ super_class d ∷ super_class (super_class d)
        ∷ super_class (super_class (super_class d)) ∷ []

-- a class is below itself and below each of its ancestors
unfoldable pub is_subclass : ℕ → ℕ → Bool
is_subclass class other = has_number (ancestors class) other

-- the first of some classes that another is below
abbrev pub first_above : ℕ → List ℕ → ℕ
first_above other [] = OBJECT_CLASS
first_above other (c ∷ cs) = if is_subclass other c then c else first_above other cs

-- the nearest common ancestor of two classes
unfoldable pub common_ancestor : ℕ → ℕ → ℕ
common_ancestor class other = first_above other (ancestors class)
