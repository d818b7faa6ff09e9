-- The lengths that the bytes of a class state fit their fields (JVMS 4.1): those of lists and texts
-- two bytes, those of the bodies of attributes and of codes four. A class that keeps the grammar
-- has such lengths.
use Rattle.std.specs.Prelude.{◌<◌, ◌^◌, length}
use Rattle.jvm_types.specs.Spelling.{code_body}
use Rattle.jvm_types.specs.ClassGrammar.{IsCounted}
use Rattle.jvm_types.specs.declared.class_file.Constant.{Constant}
use Rattle.jvm_types.specs.declared.class_file.Constant.TheVariants.{Utf8}
use Rattle.jvm_types.specs.declared.class_file.Attr.{Attr}
use Rattle.jvm_types.specs.declared.class_file.Code.{Code}
use Rattle.jvm_types.specs.declared.class_file.MemberAttr.{MemberAttr}
use Rattle.jvm_types.specs.declared.class_file.MemberAttr.TheVariants as member_attrs
use Rattle.jvm_types.specs.declared.class_file.Member.{Member}
use Rattle.jvm_types.specs.declared.class_file.ClassFile.{ClassFile}

-- the text of an entry of the pool
abbrev pub TextFits : Constant → Type 0
TextFits (Utf8 text) = length text < 2 ^ 16
TextFits c = Unit {0}

-- the body of an attribute that is kept unread
abbrev pub BodyFits : Attr → Type 0
BodyFits a = length a.body < 2 ^ 32

-- a code, and the whole body of its attribute
pub record CodeFits (c : Code) : Type 0 where
  pub body : length (code_body c) < 2 ^ 32
  pub bytes : length c.bytes < 2 ^ 32
  pub rows : length c.rows < 2 ^ 16
  pub attrs : IsCounted BodyFits c.attrs

abbrev pub MemberAttrFits : MemberAttr → Type 0
MemberAttrFits (member_attrs.Code c) = CodeFits c
MemberAttrFits (member_attrs.ConstantValue name value) = Unit {0}
MemberAttrFits (member_attrs.Other a) = BodyFits a

abbrev pub MemberFits : Member → Type 0
MemberFits m = IsCounted MemberAttrFits m.attrs

pub record ClassCountsFit (c : ClassFile) : Type 0 where
  pub constants : IsCounted TextFits c.constants
  pub interfaces : length c.interfaces < 2 ^ 16
  pub fields : IsCounted MemberFits c.fields
  pub methods : IsCounted MemberFits c.methods
  pub attrs : IsCounted BodyFits c.attrs
