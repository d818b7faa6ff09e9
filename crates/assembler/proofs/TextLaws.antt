-- A text is read line by line.
use Rattle.std.proofs.Common.{◌≡◌, ℕ, ◌+◌, ◌≤◌, true, false, List, [], ◌∷◌, ◌++◌, length, Option, Some, None, refl, sym, ap, subst, ◌∙◌, arith, append_assoc, length-append}
use Rattle.std.{specs.List.AllByRecursion, proofs.lemmas.List.append-nil}
use Rattle.jvm_types.proofs.EachAfter.{all_append}
use Rattle.asm_text.specs.{Drafting.{line_added, drafted, new_draft, place_or}, Items.{item_line, items_text, ItemFits}, Lines.line_text, Places.{place_after, place_behind, behind_next, is_end}}
use Rattle.asm_text.{specs.declared.{drafts.Draft.Draft, items.Item.Item, places.ListingPlace.ListingPlace}, proofs.{LineLaws.{line_body, body_has_no_newline}, WordLaws.{HasNoNewline, same_line}}}
use Rattle.assembler.specs.{Assembling.{HasFirstLines, IsFirstUnformed}, Drafted.{IsLine, IsNextPlace, AreDrafted, IsWholeDraft, is_whole}}
use Rattle.asm_text.specs.declared.places.ListingPlace.TheVariants as places

-- ---- one more line

pub items_append : (xs ys : List Item) → items_text (xs ++ ys) ≡ items_text xs ++ items_text ys
items_append [] ys = refl
items_append (x ∷ xs) ys = ap (λ t. line_text (item_line x) ++ t) (items_append xs ys) ∙ sym (append_assoc (line_text (item_line x)) (items_text xs) (items_text ys))

place_more : (p : ListingPlace) (xs : List Item) (x : Item) (q r : ListingPlace) → place_behind p xs ≡ Some q → place_after q x ≡ Some r → place_behind p (xs ++ x ∷ []) ≡ Some r
place_more p [] x q r h k = by_next (place_after p x) (subst (λ (y : ListingPlace). place_after y x ≡ Some r) (same h) k)
  where
    same : {a b : ListingPlace} → Some a ≡ Some b → b ≡ a
    same e = cc

    by_next : (o : Option ListingPlace) → o ≡ Some r → behind_next o (λ next. Some next) ≡ Some r
    by_next None e = absurd (cc)
    by_next (Some next) e = e
place_more p (y ∷ xs) x q r h k = by_next (λ next h. place_more next xs x q r h k) (place_after p y) h
  where
    by_next : ((next : ListingPlace) → place_behind next xs ≡ Some q → place_behind next (xs ++ x ∷ []) ≡ Some r) → (o : Option ListingPlace) → behind_next o (λ next. place_behind next xs) ≡ Some q → behind_next o (λ next. place_behind next (xs ++ x ∷ [])) ≡ Some r
    by_next more None h = absurd (cc)
    by_next more (Some next) h = more next h

drafted_more : (p : ListingPlace) (d : Draft) (xs : List Item) (x : Item) (q : ListingPlace) → place_behind p xs ≡ Some q → drafted p d (xs ++ x ∷ []) ≡ line_added q (drafted p d xs) x
drafted_more p d [] x q h = ap (λ (y : ListingPlace). line_added y d x) (same h)
  where
    same : {a b : ListingPlace} → Some a ≡ Some b → a ≡ b
    same e = cc
drafted_more p d (y ∷ xs) x q h = by_next (λ next h. drafted_more next (line_added p d y) xs x q h) (place_after p y) h
  where
    by_next : ((next : ListingPlace) → place_behind next xs ≡ Some q → drafted next (line_added p d y) (xs ++ x ∷ []) ≡ line_added q (drafted next (line_added p d y) xs) x) → (o : Option ListingPlace) → behind_next o (λ next. place_behind next xs) ≡ Some q → drafted (place_or p o) (line_added p d y) (xs ++ x ∷ []) ≡ line_added q (drafted (place_or p o) (line_added p d y) xs) x
    by_next more None h = absurd (cc)
    by_next more (Some next) h = more next h

pub one_more : (text : List ℕ) (items : List Item) (item : Item) (place next : ListingPlace) (rest more : List ℕ) → HasFirstLines text items place rest → ItemFits item → rest ≡ line_text (item_line item) ++ more → place_after place item ≡ Some next
    → HasFirstLines text (items ++ item ∷ []) next more
one_more text items item place next rest more b f says k = record {
  parts = b.parts ∙ ap (λ t. items_text items ++ t) says ∙ sym (append_assoc (items_text items) (line_text (item_line item)) more)
      ∙ ap (λ t. (items_text items ++ t) ++ more) (sym (append-nil (line_text (item_line item)))) ∙ ap (λ t. t ++ more) (sym (items_append items (item ∷ [])));
  fit = all_append ItemFits items (item ∷ []) b.fit (f, tt);
  follow = place_more places.Start items item place next b.follow k;
}

-- ---- the loop

pub record IsCut (rest line more : List ℕ) : Type 0 where
  pub parts : rest ≡ line ++ 10 ∷ more
  pub none : HasNoNewline line

whole_and_more : (line more : List ℕ) → (line ++ 10 ∷ []) ++ more ≡ line ++ 10 ∷ more
whole_and_more line more = append_assoc line (10 ∷ []) more

longer : (line more : List ℕ) → length more + 1 ≤ length (line ++ 10 ∷ more)
longer line more = omega (arith, length-append line (10 ∷ more))

pub next_drafted : (text : List ℕ) (place next : ListingPlace) (old new : Draft) (number : ℕ) (rest line more : List ℕ) → AreDrafted text place old number rest → IsCut rest line more → IsLine place (line ++ 10 ∷ []) old new next
    → AreDrafted text next new (number + 1) more
next_drafted text place next old new number rest line more a cut l = record {
  items = a.items ++ l.item ∷ [];
  begins = one_more text a.items l.item place next rest more a.begins l.fits (cut.parts ∙ sym (whole_and_more line more) ∙ ap (λ t. t ++ more) l.says) l.follows;
  makes = l.makes ∙ ap (λ (d : Draft). line_added place d l.item) a.makes ∙ sym (drafted_more places.Start new_draft a.items l.item place a.begins.follow);
  counted = omega (arith, a.counted, length-append a.items (l.item ∷ []));
  short = omega (arith, a.short, longer line more, ap length cut.parts);
}

pub none_drafted : (text : List ℕ) (d : Draft) → d ≡ new_draft → AreDrafted text places.Start d 1 text
none_drafted text d e = record { items = []; begins = record { parts = refl; fit = tt; follow = refl }; makes = e; counted = refl; short = omega arith }

-- a line that has no form at its place
pub unformed_line : (text : List ℕ) (place : ListingPlace) (old new : Draft) (number : ℕ) (rest line more : List ℕ) → AreDrafted text place old number rest → IsCut rest line more → IsNextPlace place (line ++ 10 ∷ []) old new None
    → IsFirstUnformed text number
unformed_line text place old new number rest line more a cut none = record {
  items = a.items;
  place = place;
  rest = rest;
  begins = a.begins;
  counted = a.counted;
  unformed = record {
    front = λ item others f says.
        let same = same_line line (line_body item) more others cut.none (body_has_no_newline item f) (sym cut.parts ∙ says ∙ whole_and_more (line_body item) others) in
        none item f (ap (λ t. t ++ 10 ∷ []) same.0);
    early = λ e. absurd (some line more (sym cut.parts ∙ e));
  };
}
  where
    some : (line more : List ℕ) → line ++ 10 ∷ more ≡ [] → ⊥
    some [] more e = cc
    some (b ∷ line) more e = cc

newline_in : (line more : List ℕ) → HasNoNewline (line ++ 10 ∷ more) → ⊥
newline_in [] more h = let k : true ≡ false = h.0 in cc
newline_in (b ∷ line) more h = newline_in line more h.1

-- the text stops where a line has no newline, or where more lines have to come
pub unformed_end : (text : List ℕ) (place : ListingPlace) (draft : Draft) (number : ℕ) (rest : List ℕ) → AreDrafted text place draft number rest → HasNoNewline rest → is_whole rest place ≡ false → IsFirstUnformed text number
unformed_end text place draft number rest a none w = record {
  items = a.items;
  place = place;
  rest = rest;
  begins = a.begins;
  counted = a.counted;
  unformed = record {
    front = λ item others f says. absurd (newline_in (line_body item) others (subst HasNoNewline (says ∙ whole_and_more (line_body item) others) none));
    early = λ e. subst (λ (r : List ℕ). is_whole r place ≡ false) e w;
  };
}

nothing_left : (rest : List ℕ) (place : ListingPlace) → is_whole rest place ≡ true → (rest ≡ []) × (is_end place ≡ true)
nothing_left [] place w = (refl, w)
nothing_left (b ∷ rest) place w = absurd (cc)

pub whole_draft : (text : List ℕ) (place : ListingPlace) (draft : Draft) (number : ℕ) (rest : List ℕ) → AreDrafted text place draft number rest → is_whole rest place ≡ true → IsWholeDraft text draft
whole_draft text place draft number rest a w = let n = nothing_left rest place w in record {
  items = a.items;
  place = place;
  ended = n.1;
  makes = a.makes;
  begins = subst (λ (r : List ℕ). HasFirstLines text a.items place r) n.0 a.begins;
}
