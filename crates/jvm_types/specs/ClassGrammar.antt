-- The class grammar: which bytes spell a class (JVMS 4).
-- A spelling is the bytes of a class field by field, of a class that keeps the rules of this file.
-- The rules are by the structures of the chapter. Where they differ from the chapter, the line says
-- so after "here".
use Rattle.std.specs.Prelude.{◌≡◌, ◌⊎◌, ℕ, ◌<◌, ◌≤◌, ◌^◌, Bool, true, false, List, [], ◌∷◌, length}
use Rattle.std.specs.Prelude.{Some, slice_get, codes}
use Rattle.std.specs.List.{AllByRecursion}
use Rattle.std.specs.Int.{w32}
use Rattle.std.specs.Int.RustNames.{FitsSigned}
use Rattle.jvm_types.specs.Numbers.{has_flag}
use Rattle.jvm_types.specs.Spelling.{code_body, class_file}
use Rattle.jvm_types.specs.Pool.{IsTextAt, NamesUtf8, NamesClass, NamesNameAndType}
use Rattle.jvm_types.specs.declared.index_kind.IndexKind.{IndexKind}
use Rattle.jvm_types.specs.declared.index_kind.IndexKind.TheVariants as kinds
use Rattle.jvm_types.specs.declared.class_file.Constant.{Constant}
use Rattle.jvm_types.specs.declared.class_file.Constant.TheVariants.{Gap, Utf8, Integer, Float}
use Rattle.jvm_types.specs.declared.class_file.Constant.TheVariants.{Long, Double, Class, Text}
use Rattle.jvm_types.specs.declared.class_file.Constant.TheVariants.{Field, Method, InterfaceMethod}
use Rattle.jvm_types.specs.declared.class_file.Constant.TheVariants.{NameAndType}
use Rattle.jvm_types.specs.declared.class_file.Attr.{Attr}
use Rattle.jvm_types.specs.declared.class_file.Handler.{Handler}
use Rattle.jvm_types.specs.declared.class_file.Code.{Code}
use Rattle.jvm_types.specs.declared.class_file.MemberAttr.{MemberAttr}
use Rattle.jvm_types.specs.declared.class_file.MemberAttr.TheVariants as member_attrs
use Rattle.jvm_types.specs.declared.class_file.Member.{Member}
use Rattle.jvm_types.specs.declared.class_file.ClassFile.{ClassFile}
use Rattle.jvm_types.specs.declared.limits.TheConstants.{MOST_FILE_BYTES, FIRST_VERSION}
use Rattle.jvm_types.specs.declared.limits.TheConstants.{LAST_VERSION}
use Rattle.jvm_types.specs.declared.class_file.TheConstants.{TEXT_BYTES_END}
use Rattle.jvm_types.specs.declared.flags.TheConstants.{NATIVE, ABSTRACT}

abbrev pub IsByte : ℕ → Type 0
IsByte b = b < 256

-- a list behind its length in two bytes, each item of which keeps a rule
pub record IsCounted {A : Type 0} (Fits : A → Type 0) (xs : List A) : Type 0 where
  pub count : length xs < 2 ^ 16
  pub each : AllByRecursion Fits xs

-- ---- indices of the constant pool

-- a constant that a field can start with (JVMS 4.7.2)
abbrev pub IsValue : Constant → Type 0
IsValue (Integer n) = Unit {0}
IsValue (Float n) = Unit {0}
IsValue (Long n) = Unit {0}
IsValue (Double n) = Unit {0}
IsValue (Text string) = Unit {0}
IsValue c = ⊥

-- the index names an entry of this kind, which 0 and the gaps never are; a catch type may also be 0
abbrev pub Names : IndexKind → List Constant → ℕ → Type 0
Names kinds.Utf8 pool i = NamesUtf8 pool i
Names kinds.Class pool i = NamesClass pool i
Names kinds.NameAndType pool i = NamesNameAndType pool i
Names kinds.Value pool i = (c : Constant) × (slice_get pool i ≡ Some c) × IsValue c
Names kinds.CatchType pool i = (i ≡ 0) ⊎ NamesClass pool i

-- an index in its two bytes
pub record IsIndex (kind : IndexKind) (pool : List Constant) (i : ℕ) : Type 0 where
  pub number : i < 2 ^ 16
  pub names : Names kind pool i

-- ---- the constant pool (JVMS 4.4)

-- a Long and a Double take two indices (JVMS 4.4.5)
abbrev pub is_wide : Constant → Bool
is_wide (Long n) = true
is_wide (Double n) = true
is_wide c = false

abbrev pub is_gap : Constant → Bool
is_gap Gap = true
is_gap c = false

-- a gap stands exactly where one is due, and one is due exactly behind a Long or a Double
abbrev pub GapsFit : Bool → List Constant → Type 0
GapsFit due [] = due ≡ false
GapsFit due (c ∷ cs) = (is_gap c ≡ due) × GapsFit (is_wide c) cs

-- a byte of a text (JVMS 4.4.7); here the bytes are looked at one by one, and not as characters
abbrev pub IsUtf8Byte : ℕ → Type 0
IsUtf8Byte b = (0 < b) × (b < TEXT_BYTES_END)

-- the numbers of an entry are in their fields
abbrev pub FieldsFit : Constant → Type 0
FieldsFit Gap = Unit {0}
FieldsFit (Utf8 text) = (length text < 2 ^ 16) × AllByRecursion IsUtf8Byte text
FieldsFit (Integer n) = FitsSigned w32 n
FieldsFit (Float n) = n < 2 ^ 32
FieldsFit (Long n) = n < 2 ^ 64
FieldsFit (Double n) = n < 2 ^ 64
FieldsFit (Class name) = name < 2 ^ 16
FieldsFit (Text string) = string < 2 ^ 16
FieldsFit (Field class member) = (class < 2 ^ 16) × (member < 2 ^ 16)
FieldsFit (Method class member) = (class < 2 ^ 16) × (member < 2 ^ 16)
FieldsFit (InterfaceMethod class member) = (class < 2 ^ 16) × (member < 2 ^ 16)
FieldsFit (NameAndType name descriptor) = (name < 2 ^ 16) × (descriptor < 2 ^ 16)

-- the indices of an entry name what they have to (JVMS 4.4.1, 4.4.2, 4.4.3, 4.4.6);
-- here the texts of names and descriptors are not looked at, nor whether a class is an interface
abbrev pub IndicesFit : List Constant → Constant → Type 0
IndicesFit pool (Class name) = Names kinds.Utf8 pool name
IndicesFit pool (Text string) = Names kinds.Utf8 pool string
IndicesFit pool (Field class member) =
    Names kinds.Class pool class × Names kinds.NameAndType pool member
IndicesFit pool (Method class member) =
    Names kinds.Class pool class × Names kinds.NameAndType pool member
IndicesFit pool (InterfaceMethod class member) =
    Names kinds.Class pool class × Names kinds.NameAndType pool member
IndicesFit pool (NameAndType name descriptor) =
    Names kinds.Utf8 pool name × Names kinds.Utf8 pool descriptor
IndicesFit pool c = Unit {0}

-- an entry for each index; a gap is due at 0, and no Long or Double has the last index
pub record IsPool (pool : List Constant) : Type 0 where
  pub count : length pool < 2 ^ 16
  pub gaps : GapsFit true pool
  pub fields : AllByRecursion FieldsFit pool
  pub indices : AllByRecursion (IndicesFit pool) pool

-- ---- attributes (JVMS 4.7)

-- an attribute that is kept unread; here those are all but Code of a method and ConstantValue of a
-- field
pub record IsAttr (pool : List Constant) (a : Attr) : Type 0 where
  pub name : IsIndex kinds.Utf8 pool a.name
  pub count : length a.body < 2 ^ 32
  pub bytes : AllByRecursion IsByte a.body

-- an attribute of this name
pub record IsNamed (pool : List Constant) (name : ℕ) (text : List ℕ) : Type 0 where
  pub number : name < 2 ^ 16
  pub named : IsTextAt pool name text

-- a row of an exception table (JVMS 4.7.3); here its range is looked at where the code is decoded
pub record IsHandler (pool : List Constant) (h : Handler) : Type 0 where
  pub start : h.start < 2 ^ 16
  pub «end» : h.end < 2 ^ 16
  pub handler : h.handler < 2 ^ 16
  pub catch_type : IsIndex kinds.CatchType pool h.catch_type

-- a Code attribute (JVMS 4.7.3); here a code of no byte or of more than 65535 is refused where it
-- is decoded
pub record IsCodeAttr (pool : List Constant) (c : Code) : Type 0 where
  pub name : IsNamed pool c.name (codes "Code")
  pub size : length (code_body c) < 2 ^ 32
  pub max_stack : c.max_stack < 2 ^ 16
  pub max_locals : c.max_locals < 2 ^ 16
  pub count : length c.bytes < 2 ^ 32
  pub bytes : AllByRecursion IsByte c.bytes
  pub rows : IsCounted (IsHandler pool) c.rows
  pub attrs : IsCounted (IsAttr pool) c.attrs

-- an attribute of a field: a ConstantValue exactly where it is named so (JVMS 4.7.2); here there
-- may be several, also of a field that is not static, and of another type than the field's
abbrev pub IsFieldAttr : List Constant → MemberAttr → Type 0
IsFieldAttr pool (member_attrs.Code c) = ⊥
IsFieldAttr pool (member_attrs.ConstantValue name value) =
    IsNamed pool name (codes "ConstantValue") × IsIndex kinds.Value pool value
IsFieldAttr pool (member_attrs.Other a) =
    IsAttr pool a × (IsTextAt pool a.name (codes "ConstantValue") → ⊥)

-- an attribute of a method: a Code exactly where it is named so
abbrev pub IsMethodAttr : List Constant → MemberAttr → Type 0
IsMethodAttr pool (member_attrs.Code c) = IsCodeAttr pool c
IsMethodAttr pool (member_attrs.ConstantValue name value) = ⊥
IsMethodAttr pool (member_attrs.Other a) = IsAttr pool a × (IsTextAt pool a.name (codes "Code") → ⊥)

-- ---- fields and methods (JVMS 4.5, 4.6)

-- here the flags may be any (but see HasBody); the texts of names and descriptors are looked at
-- where the classes are linked, nor is it asked here whether two members have one name and
-- descriptor
pub record IsMember (Fits : MemberAttr → Type 0) (pool : List Constant) (m : Member) : Type 0 where
  pub flags : m.flags < 2 ^ 16
  pub name : IsIndex kinds.Utf8 pool m.name
  pub descriptor : IsIndex kinds.Utf8 pool m.descriptor
  pub attrs : IsCounted Fits m.attrs

abbrev pub IsField : List Constant → Member → Type 0
IsField pool m = IsMember (IsFieldAttr pool) pool m

-- the Code attributes among these
abbrev pub codes_of : List MemberAttr → List Code
codes_of [] = []
codes_of (member_attrs.Code c ∷ attrs) = c ∷ codes_of attrs
codes_of (member_attrs.ConstantValue name value ∷ attrs) = codes_of attrs
codes_of (member_attrs.Other a ∷ attrs) = codes_of attrs

-- one Code, and neither NATIVE nor ABSTRACT (JVMS 4.7.3); here no method is without a body
pub record HasBody (m : Member) : Type 0 where
  pub one : length (codes_of m.attrs) ≡ 1
  pub not_native : has_flag NATIVE m.flags ≡ false
  pub not_abstract : has_flag ABSTRACT m.flags ≡ false

pub record IsMethod (pool : List Constant) (m : Member) : Type 0 where
  pub member : IsMember (IsMethodAttr pool) pool m
  pub body : HasBody m

-- ---- classes (JVMS 4.1)

-- here the versions are those of SE 6 and before with any minor, each class has a superclass,
-- the flags may be any, and the bytes of a file are limited
pub record IsClass (c : ClassFile) : Type 0 where
  pub short : length (class_file c) ≤ MOST_FILE_BYTES
  pub minor : c.minor < 2 ^ 16
  pub from_45 : FIRST_VERSION ≤ c.major
  pub to_50 : c.major ≤ LAST_VERSION
  pub pool : IsPool c.constants
  pub flags : c.flags < 2 ^ 16
  pub this_class : IsIndex kinds.Class c.constants c.this_class
  pub super_class : IsIndex kinds.Class c.constants c.super_class
  pub interfaces : IsCounted (IsIndex kinds.Class c.constants) c.interfaces
  pub fields : IsCounted (IsField c.constants) c.fields
  pub methods : IsCounted (IsMethod c.constants) c.methods
  pub attrs : IsCounted (IsAttr c.constants) c.attrs

-- the bytes are a spelling of the class
pub record Spells (bytes : List ℕ) (c : ClassFile) : Type 0 where
  pub spelled : bytes ≡ class_file c
  pub is : IsClass c
