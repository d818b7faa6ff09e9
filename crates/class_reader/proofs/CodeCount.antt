-- How many attributes are a Code.
use Rattle.std.proofs.{Common.{◌≡◌, ◌+◌, cond, List, ◌∷◌, length, refl, arith, count_by}, lemmas.List.Recursion.is_count_by}
use Rattle.jvm_types.specs.{ClassGrammar.codes_of, declared.class_file.MemberAttr.MemberAttr}
use Rattle.class_reader.specs.Giving.{is_code}
use Rattle.jvm_types.specs.declared.class_file.MemberAttr.TheVariants as member_attrs

one_more : (attr : MemberAttr) (attrs : List MemberAttr) → length (codes_of (attr ∷ attrs)) ≡ cond (is_code attr) (1 + length (codes_of attrs)) (length (codes_of attrs))
one_more (member_attrs.Code c) attrs = omega arith
one_more (member_attrs.ConstantValue name value) attrs = refl
one_more (member_attrs.Other a) attrs = refl

pub codes_counted : (attrs : List MemberAttr) → length (codes_of attrs) ≡ count_by is_code attrs
codes_counted attrs = is_count_by (λ xs. length (codes_of xs)) is_code refl one_more attrs
