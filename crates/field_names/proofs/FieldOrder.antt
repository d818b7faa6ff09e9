-- The fields of a linked program, and the names of fields, are those of the files in their order.
use Rattle.std.{proofs.{Common.{◌≡◌, ℕ, ◌+◌, List, [], ◌∷◌, ◌++◌, cond, map, refl, sym, subst, ◌∙◌}, lemmas.List.map-append}, specs.List.AllZip}
use Rattle.jvm_types.specs.{ClassNames.text_at, Layout.{class_word_count, fields_from, fields_of}, Members.{Declared, declared_by, declared_from, is_static, name_of}}
use Rattle.jvm_types.specs.declared.{class_file.{ClassFile.ClassFile, Constant.Constant, Member.{Member as ClassMember}}, program.{FieldInfo.FieldInfo, Program.Program}}
use Rattle.jvm_types.proofs.ScopeLaws.{zip_append}
use Rattle.field_names.specs.FieldNames.{all_field_names, IsDeclaredBy, NameFields, NamesAreInOrder}

of_class : (names : List (List ℕ)) (file : ℕ) (pool : List Constant) (number place word : ℕ) (ms : List ClassMember) → AllZip IsDeclaredBy (declared_from file pool number ms) (fields_of names file pool place word ms)
of_class names file pool number place word [] = tt
of_class names file pool number place word (m ∷ ms) = (record { class = refl; flags = refl }, of_class names file pool (number + 1) (cond (is_static m.flags) place (place + 1)) (cond (is_static m.flags) (word + 1) word) ms)

of_classes : (names : List (List ℕ)) (file word : ℕ) (cs : List ClassFile) → AllZip IsDeclaredBy (declared_by (λ c. c.fields) file cs) (fields_from names file word cs)
of_classes names file word [] = tt
of_classes names file word (c ∷ cs) = zip_append IsDeclaredBy (declared_from file c.constants 0 c.fields) (declared_by (λ c. c.fields) (file + 1) cs) _ _
    (of_class names file c.constants 0 0 (word + 2) c.fields) (of_classes names (file + 1) (word + class_word_count c) cs)

named_in : (file number : ℕ) (pool : List Constant) (ms : List ClassMember) → map (λ m. text_at pool m.name) ms ≡ map name_of (declared_from file pool number ms)
named_in file number pool [] = refl
named_in file number pool (m ∷ ms) = λ i. text_at pool m.name ∷ named_in file (number + 1) pool ms i

named : (file : ℕ) (cs : List ClassFile) → all_field_names cs ≡ map name_of (declared_by (λ c. c.fields) file cs)
named file [] = refl
named file (c ∷ cs) = (λ i. named_in file 0 c.constants c.fields i ++ named (file + 1) cs i) ∙ sym (map-append name_of (declared_from file c.constants 0 c.fields) (declared_by (λ c. c.fields) (file + 1) cs))

pub in_order : NamesAreInOrder
in_order classes code heap workers p linked = subst (λ (q : Program). NameFields classes q) (sym linked.is)
    (record { fields = of_classes _ 0 _ classes; names = named 0 classes })
