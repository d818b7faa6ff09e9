-- A text lists at most one class, and the one that its lines make.
use Rattle.std.proofs.Common.{◌≡◌, ℕ, Bool, true, false, List, [], ◌∷◌, ◌++◌, map, drop, Option, Some, None, refl, sym, ap, subst, ◌∙◌, append_assoc, codes, slice_index_or, if◌then◌else◌}
use Rattle.std.{specs.{Fmt.{decimal, signed_decimal}, List.{AllByRecursion, flat_map}}, proofs.lemmas.List.append-nil}
use Rattle.jvm_types.specs.{ReadCode.insns_of, declared.{class_file.{ClassFile.ClassFile, Code.Code, Member.Member, MemberAttr.MemberAttr}, code.{Case.Case, Insn.Insn, Op.Op}}}
use Rattle.jvm_types.specs.declared.code.Op.TheVariants.{Tableswitch, Lookupswitch}
use Rattle.asm_text.specs.ClassLines.{constant_line, interface_line, attr_line, row_line, end_line, code_line, member_line, file_line, code_attr_lines, member_attr_lines, member_lines, class_lines, Lists}
use Rattle.asm_text.specs.{CodeLines.{high_of, case_values, operands, names_local, insn_line, are_insns, code_lines, bytes_line}, Drafting.{drafted, new_draft}}
use Rattle.asm_text.specs.{Items.{item_line, items_text, ItemFits, member_keyword}, Lines.{Number, Signed, Line, line_text, text_of, values_text}}
use Rattle.asm_text.specs.{Places.{place_behind, behind_next, place_after, is_end}, Reading.rough_item, declared.{drafts.Draft.Draft, items.Item.Item}}
use Rattle.asm_text.specs.declared.{items.{Item.TheVariants.{Entry, Interface, Attribute, Row}, MemberKind.MemberKind}, places.ListingPlace.ListingPlace}
use Rattle.asm_text.proofs.{ClassBuildLaws.{code_attr_items, member_attr_items, member_items, class_items, class_leads}, CodeBuildLaws.{insn_item, code_items, code_items_by}, EncodeLaws.number_of}
use Rattle.asm_text.proofs.{FitLaws.class_fits, LineLaws.{line_body, read_back, body_has_no_newline}, WordLaws.same_line}
use Rattle.assembler.{specs.{Assembling.{HasFirstLines, IsFormed, ListsAtMostOneClass, ListingsAreFormed}, Drafted.IsWholeDraft}, proofs.TextLaws.items_append}
use Rattle.jvm_types.specs.declared.class_file.MemberAttr.TheVariants as member_attrs
use Rattle.asm_text.specs.declared.items.MemberKind.TheVariants as kinds
use Rattle.asm_text.specs.declared.places.ListingPlace.TheVariants as places

-- ---- the text of a class is that of its lines one by one

text_append : (xs ys : List Line) → text_of (xs ++ ys) ≡ text_of xs ++ text_of ys
text_append [] ys = refl
text_append (x ∷ xs) ys = ap (λ t. line_text x ++ t) (text_append xs ys) ∙ sym (append_assoc (line_text x) (text_of xs) (text_of ys))

map_text : {A : Type 0} (line : A → Line) (item : A → Item) → ((x : A) → line_text (line x) ≡ line_text (item_line (item x))) → (xs : List A) → text_of (map line xs) ≡ items_text (map item xs)
map_text line item h [] = refl
map_text line item h (x ∷ xs) = ap (λ t. t ++ text_of (map line xs)) (h x) ∙ ap (λ t. line_text (item_line (item x)) ++ t) (map_text line item h xs)

flat_text : {A : Type 0} (lines : A → List Line) (items : A → List Item) → ((x : A) → text_of (lines x) ≡ items_text (items x)) → (xs : List A) → text_of (flat_map lines xs) ≡ items_text (flat_map items xs)
flat_text lines items h [] = refl
flat_text lines items h (x ∷ xs) =
    text_append (lines x) (flat_map lines xs) ∙ ap (λ t. t ++ text_of (flat_map lines xs)) (h x) ∙ ap (λ t. items_text (items x) ++ t) (flat_text lines items h xs) ∙ sym (items_append (items x) (flat_map items xs))

targets_text : (targets : List ℕ) → values_text (map Number targets) ≡ values_text (map Signed (map number_of (map Number targets)))
targets_text [] = refl
targets_text (to ∷ targets) = ap (λ t. (codes " " ++ decimal to) ++ t) (targets_text targets)

cases_text : (cases : List Case) → values_text (flat_map case_values cases) ≡ values_text (map Signed (map number_of (flat_map case_values cases)))
cases_text [] = refl
cases_text (c ∷ cases) = ap (λ t. (codes " " ++ signed_decimal c.key) ++ ((codes " " ++ decimal c.target) ++ t)) (cases_text cases)

operands_text : (op : Op) → values_text (operands op) ≡ values_text (map Signed (map number_of (operands op)))
operands_text (Tableswitch otherwise low targets) = ap (λ t. (codes " " ++ decimal otherwise) ++ ((codes " " ++ signed_decimal low) ++ ((codes " " ++ signed_decimal (high_of low targets)) ++ t))) (targets_text targets)
operands_text (Lookupswitch otherwise cases) = ap (λ t. (codes " " ++ decimal otherwise) ++ t) (cases_text cases)
operands_text op = refl

values_same : (t : Bool) (op : Op) → values_text (if t then [] else operands op) ≡ values_text (map Signed (map number_of (if t then [] else operands op)))
values_same true op = refl
values_same false op = operands_text op

insn_text : (bytes : List ℕ) (insn : Insn) → line_text (insn_line bytes insn) ≡ line_text (item_line (insn_item bytes insn))
insn_text bytes insn = ap (λ (t : List ℕ). (item_line (insn_item bytes insn)).name ++ t ++ codes "\n") (values_same (names_local (slice_index_or bytes insn.pc 0)) insn.op)

code_text : (bytes : List ℕ) → text_of (code_lines bytes) ≡ items_text (code_items bytes)
unfolding code_lines
code_text bytes = by_test (are_insns bytes)
  where
    by_test : (t : Bool) → text_of (if t then map (insn_line bytes) (insns_of 0 0 bytes) else bytes_line bytes ∷ []) ≡ items_text (code_items_by t bytes)
    by_test true = map_text (insn_line bytes) (insn_item bytes) (insn_text bytes) (insns_of 0 0 bytes)
    by_test false = refl

parts_text : (xs ys : List Line) (us vs : List Item) → text_of xs ≡ items_text us → text_of ys ≡ items_text vs → text_of (xs ++ ys) ≡ items_text (us ++ vs)
parts_text xs ys us vs e f = text_append xs ys ∙ ap (λ t. t ++ text_of ys) e ∙ ap (λ t. items_text us ++ t) f ∙ sym (items_append us vs)

four : {A : Type 0} (a b c d : List A) → ((a ++ b) ++ c) ++ d ≡ a ++ (b ++ (c ++ d))
four a b c d = append_assoc (a ++ b) c d ∙ append_assoc a b (c ++ d)

five : {A : Type 0} (a b c d e : List A) → (((a ++ b) ++ c) ++ d) ++ e ≡ a ++ (b ++ (c ++ (d ++ e)))
five a b c d e = append_assoc ((a ++ b) ++ c) d e ∙ four a b c (d ++ e)

code_attr_text : (k : Code) → text_of (code_attr_lines k) ≡ items_text (code_attr_items k)
code_attr_text k = ap (λ (t : List ℕ). line_text (code_line k) ++ t) (
    ap text_of (four (code_lines k.bytes) (map row_line k.rows) (map attr_line k.attrs) (end_line ∷ []))
    ∙ parts_text _ _ _ _ (code_text k.bytes) (parts_text _ _ _ _ (map_text row_line Row (λ x. refl) k.rows) (parts_text _ _ _ _ (map_text attr_line Attribute (λ x. refl) k.attrs) refl)))

member_attr_text : (a : MemberAttr) → text_of (member_attr_lines a) ≡ items_text (member_attr_items a)
member_attr_text (member_attrs.Code k) = code_attr_text k
member_attr_text (member_attrs.ConstantValue name constant) = refl
member_attr_text (member_attrs.Other a) = refl

member_text : (kind : MemberKind) (m : Member) → text_of (member_lines (member_keyword kind) m) ≡ items_text (member_items kind m)
member_text kind m = ap (λ (t : List ℕ). line_text (member_line (member_keyword kind) m) ++ t) (parts_text _ _ _ _ (flat_text member_attr_lines member_attr_items member_attr_text m.attrs) refl)

pub class_text : (c : ClassFile) → text_of (class_lines c) ≡ items_text (class_items c)
class_text c = ap (λ (t : List ℕ). line_text (file_line c) ++ t) (
    ap text_of (five (map constant_line (drop 1 c.constants)) (map interface_line c.interfaces) (flat_map (member_lines (codes "fmember")) c.fields) (flat_map (member_lines (codes "mmember")) c.methods) (map attr_line c.attrs))
    ∙ parts_text _ _ _ _ (map_text constant_line Entry (λ x. refl) (drop 1 c.constants)) (parts_text _ _ _ _ (map_text interface_line Interface (λ x. refl) c.interfaces)
    (parts_text _ _ _ _ (flat_text (member_lines (codes "fmember")) (member_items kinds.Field) (member_text kinds.Field) c.fields)
    (parts_text _ _ _ _ (flat_text (member_lines (codes "mmember")) (member_items kinds.Method) (member_text kinds.Method) c.methods) (map_text attr_line Attribute (λ x. refl) c.attrs)))))

-- ---- lines that begin a text

-- lines that begin a text of lines are its first ones
pub record Continues (front whole : List Item) (rest : List ℕ) : Type 0 where
  pub more : List Item
  pub parts : whole ≡ front ++ more
  pub text : rest ≡ items_text more

one_line : (item : Item) (more : List ℕ) → line_text (item_line item) ++ more ≡ line_body item ++ 10 ∷ more
one_line item more = append_assoc (line_body item) (10 ∷ []) more

same_items : (x y : Item) → ItemFits x → ItemFits y → line_body x ≡ line_body y → x ≡ y
same_items x y f g e = sym (read_back x f) ∙ ap rough_item e ∙ read_back y g

no_text : (item : Item) (more : List ℕ) → line_text (item_line item) ++ more ≡ [] → ⊥
no_text item more e = some (line_body item) more (sym (one_line item more) ∙ e)
  where
    some : (line more : List ℕ) → line ++ 10 ∷ more ≡ [] → ⊥
    some [] more e = cc
    some (b ∷ line) more e = cc

continues : (xs ys : List Item) (rest : List ℕ) → AllByRecursion ItemFits xs → AllByRecursion ItemFits ys → items_text xs ++ rest ≡ items_text ys → Continues xs ys rest
continues [] ys rest f g e = record { more = ys; parts = refl; text = e }
continues (x ∷ xs) [] rest f g e = absurd (no_text x (items_text xs ++ rest) (sym (append_assoc (line_text (item_line x)) (items_text xs) rest) ∙ e))
continues (x ∷ xs) (y ∷ ys) rest f g e =
    let same = same_line (line_body x) (line_body y) (items_text xs ++ rest) (items_text ys) (body_has_no_newline x f.0) (body_has_no_newline y g.0)
    (sym (one_line x (items_text xs ++ rest)) ∙ sym (append_assoc (line_text (item_line x)) (items_text xs) rest) ∙ e ∙ one_line y (items_text ys)) in
    let more = continues xs ys rest f.1 g.1 same.1 in
    record { more = more.more; parts = λ i. sym (same_items x y f.0 g.0 same.0) i ∷ more.parts i; text = more.text }

-- ---- the class that a text lists

listed_text : (text : List ℕ) (c : ClassFile) → Lists text c → text ≡ items_text (class_items c)
listed_text text c h = h.listed ∙ class_text c

begun : (text : List ℕ) (c : ClassFile) (items : List Item) (place : ListingPlace) (rest : List ℕ) → Lists text c → HasFirstLines text items place rest → Continues items (class_items c) rest
begun text c items place rest h b = continues items (class_items c) rest b.fit (class_fits c h.is) (sym b.parts ∙ listed_text text c h)

nothing : (more : List Item) → [] ≡ items_text more → more ≡ []
nothing [] e = refl
nothing (x ∷ more) e = absurd (no_text x (items_text more) (sym e))

-- the draft of a text is of the class that it lists
pub draft_is : (text : List ℕ) (d : Draft) (c : ClassFile) → IsWholeDraft text d → Lists text c → d.class ≡ c
draft_is text d c w h =
    let b = begun text c w.items w.place [] h w.begins in
    let same : class_items c ≡ w.items = b.parts ∙ ap (λ t. w.items ++ t) (nothing b.more b.text) ∙ append-nil w.items in
    ap (λ (x : Draft). x.class) (w.makes ∙ ap (λ (items : List Item). drafted places.Start new_draft items) (sym same) ∙ (class_leads c h.is).leads.makes)

pub formed : (text : List ℕ) (d : Draft) → IsWholeDraft text d → IsFormed text
formed text d w = record { items = w.items; place = w.place; begins = w.begins; ended = w.ended }

-- ---- laws

behind_front : (p : ListingPlace) (xs ys : List Item) (q : ListingPlace) → place_behind p xs ≡ Some q → place_behind p (xs ++ ys) ≡ place_behind q ys
behind_front p [] ys q h = ap (λ (x : ListingPlace). place_behind x ys) (some_is h)
  where
    some_is : {a b : ListingPlace} → Some a ≡ Some b → a ≡ b
    some_is e = cc
behind_front p (x ∷ xs) ys q h = by_next (λ next h. behind_front next xs ys q h) (place_after p x) h
  where
    by_next : ((next : ListingPlace) → place_behind next xs ≡ Some q → place_behind next (xs ++ ys) ≡ place_behind q ys) → (o : Option ListingPlace) → behind_next o (λ next. place_behind next xs) ≡ Some q
        → behind_next o (λ next. place_behind next (xs ++ ys)) ≡ place_behind q ys
    by_next more None h = absurd (cc)
    by_next more (Some next) h = more next h

-- each line of a listing has a form at its place
pub listings_formed : ListingsAreFormed
listings_formed text c number h u =
    let b = begun text c u.items u.place u.rest h u.begins in
    let m = class_leads c h.is in
    at b.more b.text (sym (behind_front places.Start u.items b.more u.place u.begins.follow) ∙ ap (λ (items : List Item). place_behind places.Start items) (sym b.parts) ∙ m.leads.follow) (fits_behind u.items b.more (subst (λ (items : List Item). AllByRecursion ItemFits items) b.parts (class_fits c h.is)))
  where
    fits_behind : (xs ys : List Item) → AllByRecursion ItemFits (xs ++ ys) → AllByRecursion ItemFits ys
    fits_behind [] ys f = f
    fits_behind (x ∷ xs) ys f = fits_behind xs ys f.1

    end_is : (place next : ListingPlace) → Some place ≡ Some next → is_end next ≡ true → is_end place ≡ false → ⊥
    end_is place next e t f = let k : is_end next ≡ false = subst (λ (x : ListingPlace). is_end x ≡ false) (some_is e) f in cc
      where
        some_is : {a b : ListingPlace} → Some a ≡ Some b → a ≡ b
        some_is e = cc

    blocked : (o : Option ListingPlace) (more : ListingPlace → Option ListingPlace) (next : ListingPlace) → o ≡ None → behind_next o more ≡ Some next → ⊥
    blocked None more next e k = cc
    blocked (Some x) more next e k = cc

    at : (more : List Item) → u.rest ≡ items_text more → place_behind u.place more ≡ Some (places.Class (class_leads c h.is).next) → AllByRecursion ItemFits more → ⊥
    at [] t k f = end_is u.place (places.Class (class_leads c h.is).next) k refl (u.unformed.early t)
    at (x ∷ more) t k f = blocked (place_after u.place x) (λ next. place_behind next more) _ (u.unformed.front x (items_text more) f.0 t) k

-- no text lists two classes
pub one_class : ListsAtMostOneClass
one_class text c d h k =
    let b = continues (class_items c) (class_items d) [] (class_fits c h.is) (class_fits d k.is) (append-nil (items_text (class_items c)) ∙ sym (listed_text text c h) ∙ listed_text text d k) in
    let same : class_items d ≡ class_items c = b.parts ∙ ap (λ t. class_items c ++ t) (nothing b.more b.text) ∙ append-nil (class_items c) in
    ap (λ (x : Draft). x.class) (sym (class_leads c h.is).leads.makes ∙ ap (λ (items : List Item). drafted places.Start new_draft items) (sym same) ∙ (class_leads d k.is).leads.makes)
