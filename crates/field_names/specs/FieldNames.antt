-- The names of the fields of some classes, in the order in which a linked program has the fields:
-- that of the files, and in each that of its fields.
use Rattle.std.specs.Prelude.{◌≡◌, ℕ, List, map}
use Rattle.std.specs.List.{AllZip, flat_map}
use Rattle.jvm_types.specs.ClassNames.{text_at}
use Rattle.jvm_types.specs.LinkFaults.{IsLinked}
use Rattle.jvm_types.specs.Members.{Declared, class_of_declared, declared_fields, name_of}
use Rattle.jvm_types.specs.declared.class_file.ClassFile.{ClassFile}
use Rattle.jvm_types.specs.declared.code.Insn.{Insn}
use Rattle.jvm_types.specs.declared.program.FieldInfo.{FieldInfo}
use Rattle.jvm_types.specs.declared.program.Program.{Program}

abbrev pub field_names_in : ClassFile → List (List ℕ)
field_names_in c = map (λ m. text_at c.constants m.name) c.fields

abbrev pub all_field_names : List ClassFile → List (List ℕ)
all_field_names classes = flat_map field_names_in classes

-- ---- the fields of a program

-- a field of the program is that of a file
pub record IsDeclaredBy (d : Declared) (f : FieldInfo) : Type 0 where
  pub class : f.class ≡ class_of_declared d
  pub flags : f.flags ≡ d.member.flags

-- the fields of the program are those of the classes in their order, and so are the names
pub record NameFields (classes : List ClassFile) (p : Program) : Type 0 where
  pub fields : AllZip IsDeclaredBy (declared_fields classes) p.fields
  pub names : all_field_names classes ≡ map name_of (declared_fields classes)

-- of all files that are linked to a program
abbrev pub NamesAreInOrder : Type 0
NamesAreInOrder =
    (classes : List ClassFile) (code : List (List Insn)) (heap workers : ℕ) (p : Program)
    → IsLinked classes code heap workers p → NameFields classes p
