-- A table of numbers by names.
use Rattle.std.specs.Prelude.{◌≡◌, ℕ, List, Option, map}
use Rattle.std.specs.Ordering.{nat_cmp}
use Rattle.std.specs.Cmp.Lexicographic.{slice_cmp}
use Rattle.std.specs.BTreeMap.{BTreeMap, get_by}
use Rattle.jvm_types.specs.ClassNames.{class_number}
use denote.Ref.{Bor}

-- the number of a name
abbrev pub find : BTreeMap (Bor (List ℕ)) ℕ → List ℕ → Option ℕ
find table name = get_by (λ k. slice_cmp nat_cmp name k.now) table

-- names behind references
abbrev pub names_in : List (Bor (List ℕ)) → List (List ℕ)
names_in names = map {B = List ℕ} (λ (n : Bor (List ℕ)). n.now) names

-- each class of the files with these names, and each built-in one, has its number
abbrev pub IsNameTable : List (List ℕ) → BTreeMap (Bor (List ℕ)) ℕ → Type 0
IsNameTable names table = (name : List ℕ) → find table name ≡ class_number names name
