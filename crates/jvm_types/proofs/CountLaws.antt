-- The lengths of a class that keeps the grammar fit their fields.
use Rattle.std.{proofs.Common.{List, [], ◌∷◌}, specs.List.AllByRecursion}
use Rattle.jvm_types.specs.{ClassGrammar.{IsCounted, FieldsFit, IsCodeAttr, IsFieldAttr, IsMethodAttr, IsField, IsMethod}, ClassLaws.ClassesFit}
use Rattle.jvm_types.specs.{Counts.{TextFits, CodeFits, MemberAttrFits, MemberFits}, declared.class_file.{Code.Code, Constant.Constant}}
use Rattle.jvm_types.specs.declared.class_file.{Constant.TheVariants.{Gap, Utf8, Integer, Float, Long, Double, Class, Text, Field, Method, InterfaceMethod, NameAndType}, Member.Member}
use Rattle.jvm_types.specs.declared.class_file.MemberAttr.{MemberAttr}
use Rattle.jvm_types.specs.declared.class_file.MemberAttr.TheVariants as member_attrs

each : {A : Type 0} {P Q : A → Type 0} → ((x : A) → P x → Q x) → (xs : List A) → AllByRecursion P xs → AllByRecursion Q xs
each f [] all = tt
each f (x ∷ xs) all = (f x all.0, each f xs all.1)

counted : {A : Type 0} {P Q : A → Type 0} → ((x : A) → P x → Q x) → (xs : List A) → IsCounted P xs → IsCounted Q xs
counted f xs is = record { count = is.count; each = each f xs is.each }

text_fits : (c : Constant) → FieldsFit c → TextFits c
text_fits (Utf8 bytes) fits = fits.0
text_fits Gap fits = tt
text_fits (Integer n) fits = tt
text_fits (Float n) fits = tt
text_fits (Long n) fits = tt
text_fits (Double n) fits = tt
text_fits (Class name) fits = tt
text_fits (Text string) fits = tt
text_fits (Field class member) fits = tt
text_fits (Method class member) fits = tt
text_fits (InterfaceMethod class member) fits = tt
text_fits (NameAndType name descriptor) fits = tt

code_fits : (pool : List Constant) (c : Code) → IsCodeAttr pool c → CodeFits c
code_fits pool c is = record { body = is.size; bytes = is.count; rows = is.rows.count; attrs = counted (λ a attr. attr.count) c.attrs is.attrs }

field_attr_fits : (pool : List Constant) (a : MemberAttr) → IsFieldAttr pool a → MemberAttrFits a
field_attr_fits pool (member_attrs.Code c) is = absurd is
field_attr_fits pool (member_attrs.ConstantValue name value) is = tt
field_attr_fits pool (member_attrs.Other a) is = is.0.count

method_attr_fits : (pool : List Constant) (a : MemberAttr) → IsMethodAttr pool a → MemberAttrFits a
method_attr_fits pool (member_attrs.Code c) is = code_fits pool c is
method_attr_fits pool (member_attrs.ConstantValue name value) is = absurd is
method_attr_fits pool (member_attrs.Other a) is = is.0.count

field_fits : (pool : List Constant) (m : Member) → IsField pool m → MemberFits m
field_fits pool m is = counted (field_attr_fits pool) m.attrs is.attrs

method_fits : (pool : List Constant) (m : Member) → IsMethod pool m → MemberFits m
method_fits pool m is = counted (method_attr_fits pool) m.attrs is.member.attrs

pub classes_fit : ClassesFit
classes_fit c is = record {
  constants = record { count = is.pool.count; each = each text_fits c.constants is.pool.fields };
  interfaces = is.interfaces.count;
  fields = counted (field_fits c.constants) c.fields is.fields;
  methods = counted (method_fits c.constants) c.methods is.methods;
  attrs = counted (λ a attr. attr.count) c.attrs is.attrs;
}
