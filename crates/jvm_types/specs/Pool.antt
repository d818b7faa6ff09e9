-- What an index of the constant pool names (JVMS 4.4). Index 0 and the gaps name nothing.
use Rattle.std.specs.Prelude.{◌≡◌, ℕ, List, Some, slice_get}
use Rattle.jvm_types.specs.declared.class_file.Constant.{Constant}
use Rattle.jvm_types.specs.declared.class_file.Constant.TheVariants.{Utf8, Class, NameAndType}

-- a text
abbrev pub IsTextAt : List Constant → ℕ → List ℕ → Type 0
IsTextAt pool i text = slice_get pool i ≡ Some (Utf8 text)

-- the index names a text; a class; a name and type
abbrev pub NamesUtf8 : List Constant → ℕ → Type 0
NamesUtf8 pool i = (text : List ℕ) × IsTextAt pool i text

abbrev pub NamesClass : List Constant → ℕ → Type 0
NamesClass pool i = (name : ℕ) × (slice_get pool i ≡ Some (Class name))

abbrev pub NamesNameAndType : List Constant → ℕ → Type 0
NamesNameAndType pool i =
    (name : ℕ) × (descriptor : ℕ) × (slice_get pool i ≡ Some (NameAndType name descriptor))
