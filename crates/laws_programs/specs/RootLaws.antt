-- The methods that a part of a run begins with: each `<clinit>`, and `init`, `run` and `done` of
-- the entry class.
use Rattle.std.specs.Prelude.{◌≡◌, ℕ, ◌<◌, true, false, List, [], ◌∷◌, None, Some, slice_get}
use Rattle.jvm_types.specs.ClassNames.{file_class}
use Rattle.jvm_types.specs.Members.{is_static, is_synchronized, is_class_init_name}
use Rattle.jvm_types.specs.LinkFaults.{is_run, is_entry}
use Rattle.jvm_types.specs.ProgramInvariant.{IsProgram, is_same_method}
use Rattle.jvm_types.specs.declared.program.Kind.{Kind}
use Rattle.jvm_types.specs.declared.program.Kind.TheVariants.{Int}
use Rattle.jvm_types.specs.declared.program.MethodInfo.{MethodInfo}
use Rattle.jvm_types.specs.declared.program.Program.{Program}

-- static, without a monitor, with arguments of these types, and it returns nothing
pub record IsRoot (m : MethodInfo) (takes : List Kind) : Type 0 where
  pub static : is_static m.flags ≡ true
  pub unsynchronized : is_synchronized m.flags ≡ false
  pub args : m.args ≡ takes
  pub result : m.result ≡ None

-- a `<clinit>` takes nothing
abbrev pub ClassInitsAreRoots : Type 0
ClassInitsAreRoots =
    (p : Program) (number : ℕ) (m : MethodInfo) → IsProgram p → slice_get p.methods number ≡ Some m
    → is_class_init_name m.name ≡ true → IsRoot m []

-- nor do `init` and `done` of the entry class
abbrev pub EntriesAreRoots : Type 0
EntriesAreRoots =
    (p : Program) (number : ℕ) (m : MethodInfo) → IsProgram p → slice_get p.methods number ≡ Some m
    → m.class ≡ file_class 0 → is_entry m.name m.descriptor ≡ true
    → is_run m.name m.descriptor ≡ false → IsRoot m []

-- `run` takes the number of the thread
abbrev pub RunIsRoot : Type 0
RunIsRoot =
    (p : Program) (number : ℕ) (m : MethodInfo) → IsProgram p → slice_get p.methods number ≡ Some m
    → m.class ≡ file_class 0 → is_run m.name m.descriptor ≡ true → IsRoot m (Int ∷ [])

-- and it is there where there are workers
abbrev pub RunIsThere : Type 0
RunIsThere =
    (p : Program) → IsProgram p → 0 < p.workers
    → (number : ℕ) × (m : MethodInfo) × (slice_get p.methods number ≡ Some m)
    × (m.class ≡ file_class 0) × (is_run m.name m.descriptor ≡ true)

-- two methods of one class, name and descriptor are one
abbrev pub OneMethod : Type 0
OneMethod =
    (p : Program) (i j : ℕ) (m other : MethodInfo) → IsProgram p → slice_get p.methods i ≡ Some m
    → slice_get p.methods j ≡ Some other → is_same_method m other ≡ true → i ≡ j
