-- The texts of the pools of some files, by numbers.
use Rattle.std.specs.Prelude.{◌≡◌, ℕ, nat_lt, Bool, false, List, [], Option, Some, None, slice_get}
use Rattle.std.specs.Prelude.{codes}
use Rattle.std.specs.Option.{unwrap_or}
use Rattle.jvm_types.specs.ClassNames.{text_at, class_names, file_class}
use Rattle.jvm_types.specs.declared.class_file.Constant.{Constant}
use Rattle.jvm_types.specs.declared.class_file.ClassFile.{ClassFile}
use Rattle.link_scope.specs.Scoping.{file_text}
use Rattle.link_scope.specs.TextNumbers.{number_of, IsNumbered, AreApart}

-- what stands in a row, or in a row of rows, where nothing stands for 0
abbrev pub in_row : List ℕ → ℕ → ℕ
in_row row i = unwrap_or (slice_get row i) 0

abbrev pub in_rows : List (List ℕ) → ℕ → ℕ → ℕ
in_rows rows file i = in_row (unwrap_or (slice_get rows file) []) i

-- a row has the number of the text at each index of a pool
abbrev pub IsRow : List (List ℕ × ℕ) → List Constant → List ℕ → Type 0
IsRow numbers pool row = (i : ℕ) → IsNumbered numbers (text_at pool i) (in_row row i)

-- each file has its row
abbrev pub AreRows : List (List ℕ × ℕ) → List ClassFile → List (List ℕ) → Type 0
AreRows numbers files rows =
    (file i : ℕ) → IsNumbered numbers (file_text files file i) (in_rows rows file i)

-- some files, with the number of each text of their pools
pub record NumberedFiles : Type 0 where
  pub files : List ClassFile
  pub numbers : List (List ℕ × ℕ)

-- The texts were read among the classes of the files, each file has its row, no two texts have one
-- number, and the number of `<init>` is known.
pub record AreTextsRead (files : List ClassFile) (classes : List (List ℕ))
    (numbers : List (List ℕ × ℕ)) (table : List (List ℕ)) (init_number : Option ℕ) : Type 0 where
  pub names : classes ≡ class_names files
  pub rows : AreRows numbers files table
  pub apart : AreApart numbers
  pub init : init_number ≡ number_of numbers (codes "<init>")

-- a class that was found is a built-in one or that of a file before this one
abbrev pub is_before : Option ℕ → ℕ → Bool
is_before None file = false
is_before (Some class) file = nat_lt class (file_class file)
