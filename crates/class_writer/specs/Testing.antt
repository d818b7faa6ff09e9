-- The rules of the class grammar as tests, of a class whose numbers and lengths fit their fields.
use Rattle.std.specs.Prelude.{◌&&◌, ℕ, Bool, true, false, not, List, [], ◌∷◌, slice_get, codes}
use Rattle.std.specs.Prelude.{nat_lt, nat_le}
use Rattle.std.specs.List.{list_all}
use Rattle.jvm_types.specs.ClassGrammar.{is_wide, is_gap}
use Rattle.jvm_types.specs.ReadingClass.{has_body}
use Rattle.jvm_types.specs.ReadingPool.{names, is_text}
use Rattle.jvm_types.specs.declared.index_kind.IndexKind.TheVariants as kinds
use Rattle.jvm_types.specs.declared.class_file.Constant.{Constant}
use Rattle.jvm_types.specs.declared.class_file.Constant.TheVariants.{Utf8, Class, Text, Field}
use Rattle.jvm_types.specs.declared.class_file.Constant.TheVariants.{Method, InterfaceMethod}
use Rattle.jvm_types.specs.declared.class_file.Constant.TheVariants.{NameAndType}
use Rattle.jvm_types.specs.declared.class_file.Attr.{Attr}
use Rattle.jvm_types.specs.declared.class_file.Handler.{Handler}
use Rattle.jvm_types.specs.declared.class_file.Code.{Code}
use Rattle.jvm_types.specs.declared.class_file.MemberAttr.{MemberAttr}
use Rattle.jvm_types.specs.declared.class_file.MemberAttr.TheVariants as member_attrs
use Rattle.jvm_types.specs.declared.class_file.Member.{Member}
use Rattle.jvm_types.specs.declared.class_file.ClassFile.{ClassFile}
use Rattle.jvm_types.specs.declared.class_file.TheConstants.{TEXT_BYTES_END}

-- ---- the constant pool

-- whether a gap stands exactly where one is due
abbrev pub has_due_gaps : Bool → List Constant → Bool
has_due_gaps due [] = not due
has_due_gaps true (c ∷ cs) = is_gap c && has_due_gaps (is_wide c) cs
has_due_gaps false (c ∷ cs) = not (is_gap c) && has_due_gaps (is_wide c) cs

-- whether a text may have this byte
abbrev pub is_utf8_byte : ℕ → Bool
is_utf8_byte b = nat_lt 0 b && nat_lt b TEXT_BYTES_END

-- whether an entry has such bytes, or indices that name what they have to
abbrev pub is_constant : List Constant → Constant → Bool
is_constant pool (Utf8 text) = list_all is_utf8_byte text
is_constant pool (Class name) = names kinds.Utf8 pool name
is_constant pool (Text string) = names kinds.Utf8 pool string
is_constant pool (Field class member) =
    names kinds.Class pool class && names kinds.NameAndType pool member
is_constant pool (Method class member) =
    names kinds.Class pool class && names kinds.NameAndType pool member
is_constant pool (InterfaceMethod class member) =
    names kinds.Class pool class && names kinds.NameAndType pool member
is_constant pool (NameAndType name descriptor) =
    names kinds.Utf8 pool name && names kinds.Utf8 pool descriptor
is_constant pool c = true

abbrev pub is_pool : List Constant → Bool
is_pool pool = has_due_gaps true pool && list_all (is_constant pool) pool

-- ---- attributes

abbrev pub is_attr : List Constant → Attr → Bool
is_attr pool a = names kinds.Utf8 pool a.name

abbrev pub is_handler : List Constant → Handler → Bool
is_handler pool h = names kinds.CatchType pool h.catch_type

abbrev pub is_text_at : List ℕ → List Constant → ℕ → Bool
is_text_at text pool i = is_text text (slice_get pool i)

abbrev pub is_pool_code : List Constant → Code → Bool
is_pool_code pool c =
    is_text_at (codes "Code") pool c.name && list_all (is_handler pool) c.rows
    && list_all (is_attr pool) c.attrs

abbrev pub is_field_attr : List Constant → MemberAttr → Bool
is_field_attr pool (member_attrs.Code c) = false
is_field_attr pool (member_attrs.ConstantValue name value) =
    is_text_at (codes "ConstantValue") pool name && names kinds.Value pool value
is_field_attr pool (member_attrs.Other a) =
    is_attr pool a && not (is_text_at (codes "ConstantValue") pool a.name)

abbrev pub is_method_attr : List Constant → MemberAttr → Bool
is_method_attr pool (member_attrs.Code c) = is_pool_code pool c
is_method_attr pool (member_attrs.ConstantValue name value) = false
is_method_attr pool (member_attrs.Other a) =
    is_attr pool a && not (is_text_at (codes "Code") pool a.name)

-- ---- fields and methods

abbrev pub has_names : List Constant → Member → Bool
has_names pool m = names kinds.Utf8 pool m.name && names kinds.Utf8 pool m.descriptor

abbrev pub is_field : List Constant → Member → Bool
is_field pool m = has_names pool m && list_all (is_field_attr pool) m.attrs

abbrev pub is_code_attr : MemberAttr → Bool
is_code_attr (member_attrs.Code c) = true
is_code_attr (member_attrs.ConstantValue name value) = false
is_code_attr (member_attrs.Other a) = false

abbrev pub is_method : List Constant → Member → Bool
is_method pool m = has_names pool m && list_all (is_method_attr pool) m.attrs && has_body m

-- ---- the class

abbrev pub has_version : ClassFile → Bool
has_version c = nat_le 45 c.major && nat_le c.major 50

abbrev pub has_classes : ClassFile → Bool
has_classes c =
    names kinds.Class c.constants c.this_class && names kinds.Class c.constants c.super_class
    && list_all (names kinds.Class c.constants) c.interfaces

abbrev pub has_members : ClassFile → Bool
has_members c =
    list_all (is_field c.constants) c.fields && list_all (is_method c.constants) c.methods
    && list_all (is_attr c.constants) c.attrs

abbrev pub keeps_rules : ClassFile → Bool
keeps_rules c = has_version c && is_pool c.constants && has_classes c && has_members c
