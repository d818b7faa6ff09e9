-- Where the arrays of owned fields were stored: each in one field of one object, and for good,
-- since what is read from such a field is stored nowhere.
use Rattle.std.specs.Prelude.{◌≡◌, ◌⊎◌, ◌<◌, ℕ, ◌==◌, List, length, Contains, Option, Some, None}
use Rattle.std.specs.Prelude.{slice_get, if◌then◌else◌}
use Rattle.jvm_types.specs.declared.program.FieldInfo.{FieldInfo}
use Rattle.checked_program.specs.MarkedProgram.{MarkedProgram}
use Rattle.machine_types.specs.PlainMemory.{Object}
use Rattle.machine_types.specs.Words.{value_word}

-- of an array, by its reference, the word of the owned field that it was stored in; None: it was
-- stored in none
abbrev pub Stores : Type 0
Stores = ℕ → Option ℕ

abbrev pub nowhere : Stores
nowhere v = None

-- an array is stored in the field of a word
abbrev pub with_stored : Stores → (array word : ℕ) → Stores
with_stored stores array word v = if v == array then Some word else stores v

-- ---- what a value is to a place

-- null, or an array that was stored there
abbrev pub IsStoredAt : Stores → (word v : ℕ) → Type 0
IsStoredAt stores word v = (v ≡ 0) ⊎ (stores v ≡ Some word)

-- no array of an owned field
abbrev pub IsStoredNowhere : Stores → (v : ℕ) → Type 0
IsStoredNowhere stores v = stores v ≡ None

-- the word of a field of an object
pub record IsFieldWord (c : MarkedProgram) (fi reference word : ℕ) : Type 0 where
  pub field : FieldInfo
  pub is : slice_get c.program.fields fi ≡ Some field
  pub place : word ≡ value_word reference field.index

-- ---- the elements of the arrays that an object was given by an owned field

pub record IsElementOf (c : MarkedProgram) (stores : Stores) (objects : List Object) (fi : ℕ)
    (o : Object) (word : ℕ) : Type 0 where
  pub field_word : ℕ
  pub is_field : IsFieldWord c fi o.reference field_word
  pub of_class : o.class ≡ is_field.field.class
  pub array : Object
  pub there : Contains objects array
  pub stored : stores array.reference ≡ Some field_word
  pub index : ℕ
  pub inside : index < length array.values
  pub place : word ≡ value_word array.reference index
