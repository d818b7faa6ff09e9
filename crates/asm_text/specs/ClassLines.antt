-- The listing of a class file: its structures (JVMS 4) in their order, as lines.
use Rattle.std.specs.Prelude.{◌≡◌, ℕ, List, [], ◌∷◌, ◌++◌, map, drop, codes}
use Rattle.std.specs.List.{flat_map}
use Rattle.jvm_types.specs.ClassGrammar.{IsClass}
use Rattle.jvm_types.specs.declared.class_file.Constant.{Constant}
use Rattle.jvm_types.specs.declared.class_file.Constant.TheVariants.{Gap, Utf8, Integer, Float}
use Rattle.jvm_types.specs.declared.class_file.Constant.TheVariants.{Long, Double, Class, Text}
use Rattle.jvm_types.specs.declared.class_file.Constant.TheVariants.{Field, Method, InterfaceMethod}
use Rattle.jvm_types.specs.declared.class_file.Constant.TheVariants.{NameAndType}
use Rattle.jvm_types.specs.declared.class_file.Attr.{Attr}
use Rattle.jvm_types.specs.declared.class_file.Handler.{Handler}
use Rattle.jvm_types.specs.declared.class_file.Code.{Code as CodeAttr}
use Rattle.jvm_types.specs.declared.class_file.MemberAttr.{MemberAttr}
use Rattle.jvm_types.specs.declared.class_file.MemberAttr.TheVariants.{Code, ConstantValue, Other}
use Rattle.jvm_types.specs.declared.class_file.Member.{Member}
use Rattle.jvm_types.specs.declared.class_file.ClassFile.{ClassFile}
use Rattle.asm_text.specs.Lines.{Number, Signed, Hex, Line, text_of}
use Rattle.asm_text.specs.CodeLines.{code_lines}

-- an entry of the constant pool (JVMS 4.4): its parts, or the bits of a number
abbrev pub constant_line : Constant → Line
constant_line Gap = record { name = codes "gap"; values = [] }
constant_line (Utf8 text) = record { name = codes "utf8"; values = Hex text ∷ [] }
constant_line (Integer n) = record { name = codes "integer"; values = Signed n ∷ [] }
constant_line (Float n) = record { name = codes "float"; values = Number n ∷ [] }
constant_line (Long n) = record { name = codes "long"; values = Number n ∷ [] }
constant_line (Double n) = record { name = codes "double"; values = Number n ∷ [] }
constant_line (Class name) = record { name = codes "class"; values = Number name ∷ [] }
constant_line (Text string) = record { name = codes "string"; values = Number string ∷ [] }
constant_line (Field class member) =
    record { name = codes "field"; values = Number class ∷ Number member ∷ [] }
constant_line (Method class member) =
    record { name = codes "method"; values = Number class ∷ Number member ∷ [] }
constant_line (InterfaceMethod class member) =
    record { name = codes "imethod"; values = Number class ∷ Number member ∷ [] }
constant_line (NameAndType name descriptor) =
    record { name = codes "nametype"; values = Number name ∷ Number descriptor ∷ [] }

abbrev pub interface_line : ℕ → Line
interface_line i = record { name = codes "interface"; values = Number i ∷ [] }

-- an attribute that is kept unread (JVMS 4.7)
abbrev pub attr_line : Attr → Line
attr_line a = record { name = codes "attr"; values = Number a.name ∷ Hex a.body ∷ [] }

-- a row of an exception table (JVMS 4.7.3)
abbrev pub row_line : Handler → Line
row_line h =
    record {
      name = codes "row";
      values = Number h.start ∷ Number h.end ∷ Number h.handler ∷ Number h.catch_type ∷ [];
    }

abbrev pub end_line : Line
end_line = record { name = codes "end"; values = [] }

-- a ConstantValue (JVMS 4.7.2)
abbrev pub constant_value_line : (name constant : ℕ) → Line
constant_value_line name constant =
    record { name = codes "value"; values = Number name ∷ Number constant ∷ [] }

-- a Code attribute (JVMS 4.7.3)
abbrev pub code_line : CodeAttr → Line
code_line c =
    record {
      name = codes "code";
      values = Number c.name ∷ Number c.max_stack ∷ Number c.max_locals ∷ [];
    }

abbrev pub code_attr_lines : CodeAttr → List Line
code_attr_lines c =
    code_line c
    ∷ (code_lines c.bytes ++ map row_line c.rows ++ map attr_line c.attrs ++ end_line ∷ [])

abbrev pub member_attr_lines : MemberAttr → List Line
member_attr_lines (Code c) = code_attr_lines c
member_attr_lines (ConstantValue name constant) = constant_value_line name constant ∷ []
member_attr_lines (Other a) = attr_line a ∷ []

-- a field or a method (JVMS 4.5, 4.6), by the name of its line
abbrev pub member_line : List ℕ → Member → Line
member_line name m =
    record { name = name; values = Number m.flags ∷ Number m.name ∷ Number m.descriptor ∷ [] }

abbrev pub member_lines : List ℕ → Member → List Line
member_lines name m = member_line name m ∷ (flat_map member_attr_lines m.attrs ++ end_line ∷ [])

abbrev pub head_line : (minor major flags class super : ℕ) → Line
head_line minor major flags class super =
    record {
      name = codes "file";
      values = Number minor ∷ Number major ∷ Number flags ∷ Number class ∷ Number super ∷ [];
    }

abbrev pub file_line : ClassFile → Line
file_line c = head_line c.minor c.major c.flags c.this_class c.super_class

-- a class file (JVMS 4.1); of the constants those from index 1 on
abbrev pub class_lines : ClassFile → List Line
class_lines c =
    file_line c
    ∷ (map constant_line (drop 1 c.constants) ++ map interface_line c.interfaces
    ++ flat_map (member_lines (codes "fmember")) c.fields
    ++ flat_map (member_lines (codes "mmember")) c.methods ++ map attr_line c.attrs)

-- the text is the listing of the class, which some bytes spell
pub record Lists (text : List ℕ) (c : ClassFile) : Type 0 where
  pub listed : text ≡ text_of (class_lines c)
  pub is : IsClass c
