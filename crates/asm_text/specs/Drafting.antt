-- The class that lines say, line by line.
use Rattle.std.specs.Prelude.{ℕ, List, [], ◌∷◌, ◌++◌, Option, Some, None}
use Rattle.jvm_types.specs.declared.class_file.Constant.{Constant}
use Rattle.jvm_types.specs.declared.class_file.Constant.TheVariants.{Gap}
use Rattle.jvm_types.specs.declared.class_file.Handler.{Handler}
use Rattle.jvm_types.specs.declared.class_file.Attr.{Attr}
use Rattle.jvm_types.specs.declared.class_file.Code.{Code}
use Rattle.jvm_types.specs.declared.class_file.MemberAttr.{MemberAttr}
use Rattle.jvm_types.specs.declared.class_file.MemberAttr.TheVariants as member_attrs
use Rattle.jvm_types.specs.declared.class_file.Member.{Member}
use Rattle.jvm_types.specs.declared.class_file.ClassFile.{ClassFile}
use Rattle.asm_text.specs.Encoding.{encoded}
use Rattle.asm_text.specs.Places.{place_after}
use Rattle.asm_text.specs.declared.items.MemberKind.{MemberKind}
use Rattle.asm_text.specs.declared.items.MemberKind.TheVariants as kinds
use Rattle.asm_text.specs.declared.items.Item.{Item}
use Rattle.asm_text.specs.declared.items.Item.TheVariants.{FileHead, Entry, Interface, MemberHead}
use Rattle.asm_text.specs.declared.items.Item.TheVariants.{Attribute, InitialValue, CodeHead}
use Rattle.asm_text.specs.declared.items.Item.TheVariants.{CodeBytes, Instruction, Row, End}
use Rattle.asm_text.specs.declared.places.ListingPlace.{ListingPlace}
use Rattle.asm_text.specs.declared.places.ListingPlace.TheVariants as places
use Rattle.asm_text.specs.declared.drafts.Draft.{Draft}

abbrev pub member_of : (flags name descriptor : ℕ) → Member
member_of flags name descriptor =
    record { flags = flags; name = name; descriptor = descriptor; attrs = [] }

abbrev pub started_code : (name stack locals : ℕ) → Code
started_code name stack locals =
    record
    { max_stack = stack; max_locals = locals; bytes = []; rows = []; attrs = []; name = name }

abbrev pub no_member : Member
no_member = member_of 0 0 0

abbrev pub empty_code : Code
empty_code = started_code 0 0 0

abbrev pub no_class : ClassFile
no_class = record {
  minor = 0;
  major = 0;
  constants = Gap ∷ [];
  flags = 0;
  this_class = 0;
  super_class = 0;
  interfaces = [];
  fields = [];
  methods = [];
  attrs = [];
}

-- a class so far, and the member and the code that are open
abbrev pub draft : ClassFile → Member → Code → Draft
draft c m k = record { class = c; member = m; code = k }

abbrev pub new_draft : Draft
new_draft = draft no_class no_member empty_code

-- ---- one more part

abbrev pub with_constant : ClassFile → Constant → ClassFile
with_constant c x = record c { constants = c.constants ++ x ∷ [] }

abbrev pub with_interface : ClassFile → ℕ → ClassFile
with_interface c x = record c { interfaces = c.interfaces ++ x ∷ [] }

abbrev pub with_attr : ClassFile → Attr → ClassFile
with_attr c x = record c { attrs = c.attrs ++ x ∷ [] }

abbrev pub with_member : MemberKind → ClassFile → Member → ClassFile
with_member kinds.Field c x = record c { fields = c.fields ++ x ∷ [] }
with_member kinds.Method c x = record c { methods = c.methods ++ x ∷ [] }

abbrev pub with_member_attr : Member → MemberAttr → Member
with_member_attr m x = record m { attrs = m.attrs ++ x ∷ [] }

abbrev pub with_bytes : Code → List ℕ → Code
with_bytes k bytes = record k { bytes = bytes }

abbrev pub with_row : Code → Handler → Code
with_row k x = record k { rows = k.rows ++ x ∷ [] }

abbrev pub with_code_attr : Code → Attr → Code
with_code_attr k x = record k { attrs = k.attrs ++ x ∷ [] }

-- ---- lines

abbrev pub attr_added : ListingPlace → Draft → Attr → Draft
attr_added (places.Code kind part) d x = draft d.class d.member (with_code_attr d.code x)
attr_added (places.Member kind) d x =
    draft d.class (with_member_attr d.member (member_attrs.Other x)) d.code
attr_added place d x = draft (with_attr d.class x) d.member d.code

-- the open code or the open member ends
abbrev pub draft_ended : ListingPlace → Draft → Draft
draft_ended (places.Code kind part) d =
    draft d.class (with_member_attr d.member (member_attrs.Code d.code)) empty_code
draft_ended (places.Member kind) d = draft (with_member kind d.class d.member) no_member d.code
draft_ended place d = d

-- a line at its place
abbrev pub line_added : ListingPlace → Draft → Item → Draft
line_added place d (FileHead minor major flags class super) =
    draft (record d.class
    { minor = minor; major = major; flags = flags; this_class = class; super_class = super })
    d.member d.code
line_added place d (Entry x) = draft (with_constant d.class x) d.member d.code
line_added place d (Interface class) = draft (with_interface d.class class) d.member d.code
line_added place d (MemberHead kind flags name descriptor) =
    draft d.class (member_of flags name descriptor) d.code
line_added place d (Attribute x) = attr_added place d x
line_added place d (InitialValue name constant) =
    draft d.class (with_member_attr d.member (member_attrs.ConstantValue name constant)) d.code
line_added place d (CodeHead name stack locals) =
    draft d.class d.member (started_code name stack locals)
line_added place d (CodeBytes bytes) =
    draft d.class d.member (with_bytes d.code (d.code.bytes ++ bytes))
line_added place d (Instruction opcode operands) =
    draft d.class d.member (with_bytes d.code (encoded d.code.bytes opcode operands))
line_added place d (Row x) = draft d.class d.member (with_row d.code x)
line_added place d End = draft_ended place d

abbrev pub place_or : ListingPlace → Option ListingPlace → ListingPlace
place_or place None = place
place_or place (Some next) = next

-- lines that follow one another
abbrev pub drafted : ListingPlace → Draft → List Item → Draft
drafted place d [] = d
drafted place d (item ∷ items) =
    drafted (place_or place (place_after place item)) (line_added place d item) items
