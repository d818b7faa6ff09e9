-- The bytes of a class, field by field in the order of the class-file chapter (JVMS 4).
use Rattle.std.specs.Prelude.{ℕ, List, [], ◌++◌, length}
use Rattle.std.specs.List.{flat_map}
use Rattle.jvm_types.specs.Numbers.{u1, u2, u4, u8, s4}
use Rattle.jvm_types.specs.declared.class_file.Constant.{Constant}
use Rattle.jvm_types.specs.declared.class_file.Constant.TheVariants.{Gap, Utf8, Integer, Float}
use Rattle.jvm_types.specs.declared.class_file.Constant.TheVariants.{Long, Double, Class, Text}
use Rattle.jvm_types.specs.declared.class_file.Constant.TheVariants.{Field, Method, InterfaceMethod}
use Rattle.jvm_types.specs.declared.class_file.Constant.TheVariants.{NameAndType}
use Rattle.jvm_types.specs.declared.class_file.Attr.{Attr}
use Rattle.jvm_types.specs.declared.class_file.Handler.{Handler}
use Rattle.jvm_types.specs.declared.class_file.Code.{Code}
use Rattle.jvm_types.specs.declared.class_file.MemberAttr.{MemberAttr}
use Rattle.jvm_types.specs.declared.class_file.MemberAttr.TheVariants as member_attrs
use Rattle.jvm_types.specs.declared.class_file.Member.{Member}
use Rattle.jvm_types.specs.declared.class_file.ClassFile.{ClassFile}
use Rattle.jvm_types.specs.declared.class_file.TheConstants.{MAGIC}

-- a list, behind its length in two bytes
abbrev pub counted : {A : Type 0} → (A → List ℕ) → List A → List ℕ
counted spell xs = u2 (length xs) ++ flat_map spell xs

-- an entry of the constant pool: a tag and what follows it (JVMS 4.4). A gap has no bytes.
abbrev pub constant : Constant → List ℕ
constant Gap = []
constant (Utf8 text) = u1 1 ++ u2 (length text) ++ text
constant (Integer n) = u1 3 ++ s4 n
constant (Float n) = u1 4 ++ u4 n
constant (Long n) = u1 5 ++ u8 n
constant (Double n) = u1 6 ++ u8 n
constant (Class name) = u1 7 ++ u2 name
constant (Text string) = u1 8 ++ u2 string
constant (Field class member) = u1 9 ++ u2 class ++ u2 member
constant (Method class member) = u1 10 ++ u2 class ++ u2 member
constant (InterfaceMethod class member) = u1 11 ++ u2 class ++ u2 member
constant (NameAndType name descriptor) = u1 12 ++ u2 name ++ u2 descriptor

-- an attribute that is kept unread (JVMS 4.7)
abbrev pub attr : Attr → List ℕ
attr a = u2 a.name ++ u4 (length a.body) ++ a.body

-- a row of an exception table (JVMS 4.7.3)
abbrev pub handler : Handler → List ℕ
handler h = u2 h.start ++ u2 h.end ++ u2 h.handler ++ u2 h.catch_type

-- what stands behind the length of a Code attribute (JVMS 4.7.3)
abbrev pub code_body : Code → List ℕ
code_body c =
    u2 c.max_stack ++ u2 c.max_locals ++ u4 (length c.bytes) ++ c.bytes ++ counted handler c.rows
    ++ counted attr c.attrs

-- an attribute of a field or a method (JVMS 4.7.2, 4.7.3)
abbrev pub member_attr : MemberAttr → List ℕ
member_attr (member_attrs.Code c) = u2 c.name ++ u4 (length (code_body c)) ++ code_body c
member_attr (member_attrs.ConstantValue name value) = u2 name ++ u4 2 ++ u2 value
member_attr (member_attrs.Other a) = attr a

-- a field or a method (JVMS 4.5, 4.6)
abbrev pub member : Member → List ℕ
member m = u2 m.flags ++ u2 m.name ++ u2 m.descriptor ++ counted member_attr m.attrs

-- a class file (JVMS 4.1): 0xCAFEBABE, then its parts in order
abbrev pub class_file : ClassFile → List ℕ
class_file c = u4 MAGIC ++ u2 c.minor ++ u2 c.major ++ counted constant c.constants
    ++ u2 c.flags ++ u2 c.this_class ++ u2 c.super_class ++ counted u2 c.interfaces
    ++ counted member c.fields ++ counted member c.methods ++ counted attr c.attrs
