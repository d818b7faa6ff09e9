-- A class that is built, constant by constant.
use Rattle.std.specs.Prelude.{◌≡◌, ◌≢◌, ◌<◌, ◌≤◌, ◌⊎◌, ℕ, ◌+◌, List, [], ◌∷◌, ◌++◌, length, Some}
use Rattle.std.specs.Prelude.{slice_get, Result, Ok, Err}
use Rattle.jvm_types.specs.declared.class_file.Constant.{Constant}
use Rattle.jvm_types.specs.declared.class_file.Constant.TheVariants.{Gap, Long, Double}
use Rattle.jvm_types.specs.declared.class_file.ClassFile.{ClassFile}
use Rattle.jvm_types.specs.declared.limits.TheConstants.{MOST_COUNTED}
use Rattle.class_writer.specs.declared.error.BuildError.{BuildError}
use Rattle.class_writer.specs.declared.error.BuildError.TheVariants.{Memory, Full}

-- nothing but the gap at index 0, of the version of SE 6
abbrev pub empty_class : ClassFile
empty_class =
    record {
      minor = 0;
      major = 50;
      constants = Gap ∷ [];
      flags = 0;
      this_class = 0;
      super_class = 0;
      interfaces = [];
      fields = [];
      methods = [];
      attrs = [];
    }

-- what a constant adds to the pool: itself, and the gap of its second index (JVMS 4.4.5)
abbrev pub pool_entries_of : Constant → List Constant
pool_entries_of (Long n) = Long n ∷ Gap ∷ []
pool_entries_of (Double n) = Double n ∷ Gap ∷ []
pool_entries_of c = c ∷ []

-- the constant stands at no index below this one
abbrev pub IsAbsentBelow : ℕ → List Constant → Constant → Type 0
IsAbsentBelow i pool c = (k : ℕ) → k < i → slice_get pool k ≢ Some c

-- the first index of the constant
pub record IsFirstIndex (pool : List Constant) (c : Constant) (i : ℕ) : Type 0 where
  pub here : slice_get pool i ≡ Some c
  pub first : IsAbsentBelow i pool c

-- the constant stands at no index, and with it the pool has this many entries
abbrev pub IsNew : List Constant → Constant → Type 0
IsNew pool c = IsAbsentBelow (length pool) pool c

abbrev pub length_with : List Constant → Constant → ℕ
length_with pool c = length pool + length (pool_entries_of c)

-- the constant was not there, and is appended; its last index is at most 65534, as the pool's
-- entries are counted in two bytes
pub record IsAppended (old new : ClassFile) (c : Constant) (i : ℕ) : Type 0 where
  pub absent : IsNew old.constants c
  pub room : length_with old.constants c ≤ MOST_COUNTED
  pub index : i ≡ length old.constants
  pub appended : new ≡ record old { constants = old.constants ++ pool_entries_of c }

-- the answer to a constant, for a class as it was and as it is
abbrev pub Builds : ClassFile → ClassFile → Constant → Result ℕ BuildError → Type 0
Builds old new c (Ok i) = (IsFirstIndex old.constants c i × (new ≡ old)) ⊎ IsAppended old new c i
Builds old new c (Err Memory) = new ≡ old
Builds old new c (Err Full) =
    IsNew old.constants c × (MOST_COUNTED < length_with old.constants c) × (new ≡ old)
