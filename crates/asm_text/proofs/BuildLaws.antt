-- The lines of a class make that class.
use Rattle.std.proofs.Common.{◌≡◌, ℕ, ◌≤◌, Bool, false, List, [], ◌∷◌, ◌++◌, map, Option, Some, None, refl, sym, ap, subst, ◌∙◌, arith, append_assoc, nat_lt, if◌then◌else◌}
use Rattle.std.proofs.lemmas.{Bool.Decides.nat_tests, List.append-nil}
use Rattle.jvm_types.specs.declared.class_file.{Attr.Attr, ClassFile.ClassFile, Code.Code, Constant.Constant, Handler.Handler, Member.Member}
use Rattle.asm_text.specs.{Drafting.{line_added, drafted, draft, no_member, empty_code, place_or}, Places.{place_after, place_behind, behind_next, class_rank, code_rank}, declared.drafts.Draft.Draft}
use Rattle.asm_text.specs.declared.{items.{Item.{Item, TheVariants.{Entry, Interface, Attribute, Row}}, MemberKind.MemberKind}, places.{ClassPart.ClassPart, CodePart.CodePart, ListingPlace.ListingPlace}}
use Rattle.asm_text.specs.declared.places.ClassPart.TheVariants as parts
use Rattle.asm_text.specs.declared.places.CodePart.TheVariants as code_parts
use Rattle.asm_text.specs.declared.places.ListingPlace.TheVariants as places

-- ---- lines lead from a place and a draft to others

pub record Leads (place : ListingPlace) (d : Draft) (items : List Item) (next : ListingPlace) (e : Draft) : Type 0 where
  pub follow : place_behind place items ≡ Some next
  pub makes : drafted place d items ≡ e

pub stays : (place : ListingPlace) (d : Draft) → Leads place d [] place d
stays place d = record { follow = refl; makes = refl }

pub first_line : (place next : ListingPlace) (d : Draft) (item : Item) (items : List Item) (last : ListingPlace) (e : Draft) → place_after place item ≡ Some next → Leads next (line_added place d item) items last e → Leads place d (item ∷ items) last e
first_line place next d item items last e h l = record {
  follow = ap (λ (o : Option ListingPlace). behind_next o (λ p. place_behind p items)) h ∙ l.follow;
  makes = ap (λ (o : Option ListingPlace). drafted (place_or place o) (line_added place d item) items) h ∙ l.makes;
}

pub both_lead : (place : ListingPlace) (d : Draft) (xs : List Item) (middle : ListingPlace) (e : Draft) (ys : List Item) (last : ListingPlace) (f : Draft) → Leads place d xs middle e → Leads middle e ys last f → Leads place d (xs ++ ys) last f
both_lead place d [] middle e ys last f l k =
    subst (λ (p : ListingPlace). Leads p d ys last f) (some_is l.follow) (subst (λ (x : Draft). Leads middle x ys last f) (sym l.makes) k)
  where
    some_is : {p q : ListingPlace} → Some p ≡ Some q → q ≡ p
    some_is e = cc
both_lead place d (x ∷ xs) middle e ys last f l k = by_next (λ next l. both_lead next (line_added place d x) xs middle e ys last f l k) (place_after place x) refl l.follow l.makes
  where
    by_next : ((next : ListingPlace) → Leads next (line_added place d x) xs middle e → Leads next (line_added place d x) (xs ++ ys) last f) → (o : Option ListingPlace) → place_after place x ≡ o → behind_next o (λ p. place_behind p xs) ≡ Some middle → drafted (place_or place o) (line_added place d x) xs ≡ e → Leads place d (x ∷ (xs ++ ys)) last f
    by_next more None h follow makes = absurd (cc)
    by_next more (Some next) h follow makes = first_line place next d x (xs ++ ys) last f h (more next (record { follow = follow; makes = makes }))

-- the draft is another by an equation
pub leads_as : (place : ListingPlace) (d : Draft) (items : List Item) (next : ListingPlace) (e f : Draft) → e ≡ f → Leads place d items next e → Leads place d items next f
leads_as place d items next e f h l = record { follow = l.follow; makes = l.makes ∙ h }

pub one_behind : {A : Type 0} (xs : List A) (y : A) (ys : List A) → (xs ++ y ∷ []) ++ ys ≡ xs ++ y ∷ ys
one_behind xs y ys = append_assoc xs (y ∷ []) ys

-- ---- parts of a class

-- lines of a part may stand here
abbrev pub UpTo : ℕ → ClassPart → Type 0
UpTo n part = nat_lt n (class_rank part) ≡ false

pub up_more : (m n : ℕ) (part : ClassPart) → m ≤ n → UpTo m part → UpTo n part
up_more m n part h u = later m n (class_rank part) h u
  where
    later : (m n k : ℕ) → m ≤ n → nat_lt m k ≡ false → nat_lt n k ≡ false
    later m n k h u = grind (arith, nat_tests)

-- lines lead to one of these parts of a class
pub record LeadsUpTo (n : ℕ) (part : ClassPart) (d : Draft) (items : List Item) (e : Draft) : Type 0 where
  pub next : ClassPart
  pub up : UpTo n next
  pub leads : Leads (places.Class part) d items (places.Class next) e

pub entered : (t : Bool) (next : ListingPlace) → t ≡ false → (if t then None else Some next) ≡ Some next
entered t next h = rw h refl

pub constants_lead : (part : ClassPart) (c : ClassFile) (xs : List Constant) → UpTo 0 part → LeadsUpTo 0 part (draft c no_member empty_code) (map Entry xs) (draft (record c { constants = c.constants ++ xs }) no_member empty_code)
constants_lead part c [] u = record { next = part; up = u; leads = leads_as _ _ _ _ _ _ (λ i. draft (record c { constants = sym (append-nil c.constants) i }) no_member empty_code) (stays _ _) }
constants_lead part c (x ∷ xs) u =
    let more = constants_lead parts.Constants (record c { constants = c.constants ++ x ∷ [] }) xs refl in
    record {
      next = more.next;
      up = more.up;
      leads = first_line (places.Class part) (places.Class parts.Constants) (draft c no_member empty_code) (Entry x) (map Entry xs) (places.Class more.next) _ (entered _ _ u)
          (leads_as _ _ _ _ _ _ (λ i. draft (record c { constants = one_behind c.constants x xs i }) no_member empty_code) more.leads);
    }

pub interfaces_lead : (part : ClassPart) (c : ClassFile) (xs : List ℕ) → UpTo 1 part → LeadsUpTo 1 part (draft c no_member empty_code) (map Interface xs) (draft (record c { interfaces = c.interfaces ++ xs }) no_member empty_code)
interfaces_lead part c [] u = record { next = part; up = u; leads = leads_as _ _ _ _ _ _ (λ i. draft (record c { interfaces = sym (append-nil c.interfaces) i }) no_member empty_code) (stays _ _) }
interfaces_lead part c (x ∷ xs) u =
    let more = interfaces_lead parts.Interfaces (record c { interfaces = c.interfaces ++ x ∷ [] }) xs refl in
    record {
      next = more.next;
      up = more.up;
      leads = first_line (places.Class part) (places.Class parts.Interfaces) (draft c no_member empty_code) (Interface x) (map Interface xs) (places.Class more.next) _ (entered _ _ u)
          (leads_as _ _ _ _ _ _ (λ i. draft (record c { interfaces = one_behind c.interfaces x xs i }) no_member empty_code) more.leads);
    }

pub attrs_lead : (part : ClassPart) (c : ClassFile) (xs : List Attr) → UpTo 4 part → LeadsUpTo 4 part (draft c no_member empty_code) (map Attribute xs) (draft (record c { attrs = c.attrs ++ xs }) no_member empty_code)
attrs_lead part c [] u = record { next = part; up = u; leads = leads_as _ _ _ _ _ _ (λ i. draft (record c { attrs = sym (append-nil c.attrs) i }) no_member empty_code) (stays _ _) }
attrs_lead part c (x ∷ xs) u =
    let more = attrs_lead parts.Attributes (record c { attrs = c.attrs ++ x ∷ [] }) xs refl in
    record {
      next = more.next;
      up = more.up;
      leads = first_line (places.Class part) (places.Class parts.Attributes) (draft c no_member empty_code) (Attribute x) (map Attribute xs) (places.Class more.next) _ (entered _ _ u)
          (leads_as _ _ _ _ _ _ (λ i. draft (record c { attrs = one_behind c.attrs x xs i }) no_member empty_code) more.leads);
    }

-- ---- parts of a code

abbrev pub CodeUpTo : ℕ → CodePart → Type 0
CodeUpTo n part = nat_lt n (code_rank part) ≡ false

pub record LeadsInCode (kind : MemberKind) (n : ℕ) (part : CodePart) (d : Draft) (items : List Item) (e : Draft) : Type 0 where
  pub next : CodePart
  pub up : CodeUpTo n next
  pub leads : Leads (places.Code kind part) d items (places.Code kind next) e

pub code_up_more : (m n : ℕ) (part : CodePart) → m ≤ n → CodeUpTo m part → CodeUpTo n part
code_up_more m n part h u = later m n (code_rank part) h u
  where
    later : (m n k : ℕ) → m ≤ n → nat_lt m k ≡ false → nat_lt n k ≡ false
    later m n k h u = grind (arith, nat_tests)

pub rows_lead : (kind : MemberKind) (part : CodePart) (c : ClassFile) (m : Member) (k : Code) (xs : List Handler) → CodeUpTo 2 part → LeadsInCode kind 2 part (draft c m k) (map Row xs) (draft c m (record k { rows = k.rows ++ xs }))
rows_lead kind part c m k [] u = record { next = part; up = u; leads = leads_as _ _ _ _ _ _ (λ i. draft c m (record k { rows = sym (append-nil k.rows) i })) (stays _ _) }
rows_lead kind part c m k (x ∷ xs) u =
    let more = rows_lead kind code_parts.Rows c m (record k { rows = k.rows ++ x ∷ [] }) xs refl in
    record {
      next = more.next;
      up = more.up;
      leads = first_line (places.Code kind part) (places.Code kind code_parts.Rows) (draft c m k) (Row x) (map Row xs) (places.Code kind more.next) _ (entered _ _ u)
          (leads_as _ _ _ _ _ _ (λ i. draft c m (record k { rows = one_behind k.rows x xs i })) more.leads);
    }

pub code_attrs_lead : (kind : MemberKind) (part : CodePart) (c : ClassFile) (m : Member) (k : Code) (xs : List Attr) → CodeUpTo 3 part → LeadsInCode kind 3 part (draft c m k) (map Attribute xs) (draft c m (record k { attrs = k.attrs ++ xs }))
code_attrs_lead kind part c m k [] u = record { next = part; up = u; leads = leads_as _ _ _ _ _ _ (λ i. draft c m (record k { attrs = sym (append-nil k.attrs) i })) (stays _ _) }
code_attrs_lead kind part c m k (x ∷ xs) u =
    let more = code_attrs_lead kind code_parts.Attributes c m (record k { attrs = k.attrs ++ x ∷ [] }) xs refl in
    record {
      next = more.next;
      up = more.up;
      leads = first_line (places.Code kind part) (places.Code kind code_parts.Attributes) (draft c m k) (Attribute x) (map Attribute xs) (places.Code kind more.next) _ (entered _ _ u)
          (leads_as _ _ _ _ _ _ (λ i. draft c m (record k { attrs = one_behind k.attrs x xs i })) more.leads);
    }
