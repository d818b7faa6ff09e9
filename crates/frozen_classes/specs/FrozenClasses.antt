-- Which classes of the files are frozen, by the numbers of the files.
use Rattle.std.specs.Prelude.{◌≡◌, ◌<◌, ℕ, Bool, true, false, List, length, Option, Some, None}
use Rattle.std.specs.Prelude.{slice_get}
use Rattle.jvm_types.specs.ClassNames.{file_class}
use Rattle.jvm_types.specs.CodeTable.{is_init}
use Rattle.jvm_types.specs.declared.program.MethodInfo.{MethodInfo}
use Rattle.jvm_types.specs.declared.program.Program.{Program}
use Rattle.checked_program.specs.TaggedCode.{Tagged}
use Rattle.checked_program.specs.FrozenPlaces.{IsFrozenClass, KeepsInside}

-- what a flag says of a class
abbrev pub TellsFrozen : Program → Tagged → ℕ → Bool → Type 0
TellsFrozen p tags c true = IsFrozenClass p tags c
TellsFrozen p tags c false = IsFrozenClass p tags c → ⊥

-- a flag for the class of each file
pub record AreFrozenClasses (p : Program) (tags : Tagged) (flags : List Bool) : Type 0 where
  pub long : length flags ≡ length p.names
  pub each : (k : ℕ) (b : Bool) → slice_get flags k ≡ Some b → TellsFrozen p tags (file_class k) b

-- ---- what lets the objects of a class out

-- the method of a number is an `<init>` of a class, and lets its object out
pub record LetsOut (p : Program) (tags : Tagged) (c mi : ℕ) : Type 0 where
  pub m : MethodInfo
  pub there : slice_get p.methods mi ≡ Some m
  pub class : m.class ≡ c
  pub init : is_init m ≡ true
  pub lets_out : KeepsInside p tags mi m → ⊥

-- if it is one, it keeps its object inside
abbrev pub KeepsIfInit : Program → Tagged → ℕ → ℕ → Type 0
KeepsIfInit p tags c mi =
    (m : MethodInfo) → slice_get p.methods mi ≡ Some m → m.class ≡ c → is_init m ≡ true
    → KeepsInside p tags mi m

abbrev pub TellsOut : Program → Tagged → ℕ → ℕ → Bool → Type 0
TellsOut p tags c mi true = LetsOut p tags c mi
TellsOut p tags c mi false = KeepsIfInit p tags c mi

-- the first one that does; None: the class is frozen
abbrev pub IsFirstOut : Program → Tagged → ℕ → Option ℕ → Type 0
IsFirstOut p tags c None = IsFrozenClass p tags c
IsFirstOut p tags c (Some mi) = LetsOut p tags c mi × ((u : ℕ) → u < mi → KeepsIfInit p tags c u)
