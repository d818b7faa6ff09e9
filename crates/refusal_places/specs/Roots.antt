-- The method that the machine would begin with, and that is not as it begins with it (L4): the
-- first one, file by file.
use Rattle.std.specs.Prelude.{ℕ, ◌+◌, Bool, List, [], ◌∷◌, Option, Some, None}
use Rattle.std.specs.List.{position_from}
use Rattle.jvm_types.specs.ClassNames.{file_class, text_at}
use Rattle.jvm_types.specs.LinkFaults.{is_wrong_root}
use Rattle.jvm_types.specs.declared.class_file.ClassFile.{ClassFile}
use Rattle.jvm_types.specs.declared.class_file.Constant.{Constant}
use Rattle.jvm_types.specs.declared.class_file.Member.{Member}
use Rattle.refusal_places.specs.declared.roots.Root.{Root}

abbrev pub is_wrong_in : (file : ℕ) → List Constant → Member → Bool
is_wrong_in file pool m =
    is_wrong_root (file_class file) (text_at pool m.name) (text_at pool m.descriptor) m.flags

-- the first of a class, by its number
abbrev pub wrong_method : (file : ℕ) → Option ClassFile → Option ℕ
wrong_method file None = None
wrong_method file (Some c) = position_from (is_wrong_in file c.constants) 0 c.methods

abbrev pub root_or : (file : ℕ) → Option ℕ → Option Root → Option Root
root_or file None others = others
root_or file (Some method) others = Some (record { file = file; method = method })

-- of the classes from a file on
abbrev pub wrong_root_from : (file : ℕ) → List (Option ClassFile) → Option Root
wrong_root_from file [] = None
wrong_root_from file (class ∷ classes) =
    root_or file (wrong_method file class) (wrong_root_from (file + 1) classes)
