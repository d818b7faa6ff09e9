-- Where the classes and fields of a program stand among the words of the machine, and what their
-- static fields start with. The standard leaves the layout open (JVMS 2.7); this is the machine's
-- own.
use Rattle.std.specs.Prelude.{ℕ, ℤ, ◌+◌, ◌%◌, pos, List, [], ◌∷◌, ◌++◌, Option, Some, None}
use Rattle.std.specs.Prelude.{slice_get, if◌then◌else◌}
use Rattle.std.specs.Option.{unwrap_or, option_and_then}
use Rattle.std.specs.List.{sum_by, count_by}
use Rattle.std.specs.Int.{w32, cast_unsigned}
use Rattle.jvm_types.specs.ClassNames.{text_at, file_class}
use Rattle.jvm_types.specs.Descriptors.{field_kind}
use Rattle.jvm_types.specs.Members.{is_static}
use Rattle.jvm_types.specs.declared.class_file.Constant.{Constant}
use Rattle.jvm_types.specs.declared.class_file.Constant.TheVariants.{Integer}
use Rattle.jvm_types.specs.declared.class_file.MemberAttr.{MemberAttr}
use Rattle.jvm_types.specs.declared.class_file.MemberAttr.TheVariants.{ConstantValue}
use Rattle.jvm_types.specs.declared.class_file.Member.{Member as ClassMember}
use Rattle.jvm_types.specs.declared.class_file.ClassFile.{ClassFile}
use Rattle.jvm_types.specs.declared.program.Kind.{Kind}
use Rattle.jvm_types.specs.declared.program.Kind.TheVariants as kinds
use Rattle.jvm_types.specs.declared.program.FieldInfo.{FieldInfo}
use Rattle.jvm_types.specs.declared.fixed_words.TheConstants.{FIRST_CLASS_WORD, OBJECT_HEAD_WORDS}

-- ---- words

abbrev pub static_count : List ClassMember → ℕ
static_count fields = count_by (λ m. is_static m.flags) fields

-- a class has a lock word and a header of its own, and its static fields
abbrev pub class_word_count : ClassFile → ℕ
class_word_count c = OBJECT_HEAD_WORDS + static_count c.fields

-- the words that a program has from the start on; objects and arrays follow
abbrev pub fixed_words : List ClassFile → ℕ
fixed_words files = FIRST_CLASS_WORD + sum_by class_word_count files

-- ---- start values (JVMS 4.7.2, 5.5)

-- the constant of the first ConstantValue attribute
abbrev pub first_constant : List MemberAttr → Option ℕ
first_constant [] = None
first_constant (ConstantValue name constant ∷ attrs) = Some constant
first_constant (attr ∷ attrs) = first_constant attrs

-- what a field of a type keeps of an int: one of type Z its low bit
abbrev pub kept_int : Kind → ℤ → ℤ
kept_int kinds.Int n = n
kept_int kinds.Bool n = pos (cast_unsigned w32 n % 2)
kept_int (kinds.Ref class) n = pos 0

-- an Integer constant counts for a field of type I or Z, and is passed over for every other, as is
-- every other constant
abbrev pub start_of_constant : Kind → Option Constant → ℤ
start_of_constant kind (Some (Integer n)) = kept_int kind n
start_of_constant kind entry = pos 0

abbrev pub static_start : List Constant → Kind → ClassMember → ℤ
static_start pool kind m =
    start_of_constant kind (option_and_then (λ i. slice_get pool i) (first_constant m.attrs))

-- ---- fields

-- the type of a field; a program in which a field has none is refused
abbrev pub kind_of : List (List ℕ) → List Constant → ClassMember → Kind
kind_of names pool m = unwrap_or (field_kind names (text_at pool m.descriptor)) kinds.Int

abbrev pub field_info : List (List ℕ) → (file : ℕ) → List Constant → (index : ℕ) → ClassMember
    → FieldInfo
field_info names file pool index m =
    let kind : Kind = kind_of names pool m in
    record {
      class = file_class file;
      flags = m.flags;
      kind = kind;
      index = index;
      start = if is_static m.flags then static_start pool kind m else pos 0;
    }

-- the fields of one class in order: instance fields have the next places of its objects, static
-- ones the next words
abbrev pub fields_of : List (List ℕ) → (file : ℕ) → List Constant → (place word : ℕ)
    → List ClassMember → List FieldInfo
fields_of names file pool place word [] = []
fields_of names file pool place word (m ∷ ms) =
    field_info names file pool (if is_static m.flags then word else place) m
    ∷ fields_of names file pool (if is_static m.flags then place else place + 1)
    (if is_static m.flags then word + 1 else word) ms

-- those of the classes from a file on, whose words begin at a word
abbrev pub fields_from : List (List ℕ) → (file word : ℕ) → List ClassFile → List FieldInfo
fields_from names file word [] = []
fields_from names file word (c ∷ cs) =
    fields_of names file c.constants 0 (word + OBJECT_HEAD_WORDS) c.fields
    ++ fields_from names (file + 1) (word + class_word_count c) cs

abbrev pub laid_out_fields : List (List ℕ) → List ClassFile → List FieldInfo
laid_out_fields names files = fields_from names 0 FIRST_CLASS_WORD files
