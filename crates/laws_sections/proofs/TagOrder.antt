-- The order of frames of tags: a tag may be lost along an edge, and where two frames meet a place keeps what both bring.
use Rattle.std.proofs.{Common.{◌≡◌, Bool, true, false, not, List, [], ◌∷◌, refl, sym, ap, ◌∙◌, subst, arith, ◌&&◌, if◌then◌else◌}, lemmas.Bool.{and_parts, eq-eqb, and_from, not-false}}
use Rattle.std.proofs.lemmas.Bool.Decides.{nat_tests}
use Rattle.checked_program.specs.{LockTags.{TagShape, same_tag, same_tags, meet_tags, IsTagBelow, AreTagsBelow, IsShapeBelow}, Tagging.tag_meeting, declared.tag.Tag.Tag}
use Rattle.checked_program.specs.declared.tag.Tag.TheVariants.{Untagged, This, At}
use Rattle.laws_sections.proofs.VisitedNodes.{Orders}

-- ---- equal tags

pub one_tag : (t u : Tag) → same_tag t u ≡ true → t ≡ u
one_tag Untagged Untagged e = refl
one_tag This This e = refl
one_tag (At i) (At j) e = let same : i ≡ j = grind (arith, nat_tests, e) in ap At same
one_tag t u e = absurd (cc)

pub own_tag : (t : Tag) → same_tag t t ≡ true
own_tag (At pc) = eq-eqb pc pc refl
own_tag t = refl

pub one_list : (ts us : List Tag) → same_tags ts us ≡ true → ts ≡ us
one_list [] [] e = refl
one_list (t ∷ ts) (u ∷ us) e =
    let parts = and_parts (same_tag t u) (same_tags ts us) e in
    let one : t ≡ u = one_tag t u parts.0 in
    let more : ts ≡ us = one_list ts us parts.1 in
    cc
one_list ts us e = absurd (cc)

pub own_tags : (ts : List Tag) → same_tags ts ts ≡ true
own_tags [] = refl
own_tags (t ∷ ts) = and_from (same_tag t t) (same_tags ts ts) (own_tag t) (own_tags ts)

pub one_frame : (f g : TagShape) → tag_meeting.same f g ≡ true → f ≡ g
one_frame f g e =
    let outer = and_parts (same_tags f.stack g.stack) (same_tags f.locals g.locals && same_tags f.held g.held) e in
    let inner = and_parts (same_tags f.locals g.locals) (same_tags f.held g.held) outer.1 in
    λ i. record { stack = one_list f.stack g.stack outer.0 i; locals = one_list f.locals g.locals inner.0 i; held = one_list f.held g.held inner.1 i }

-- ---- the order

tag_self : (t : Tag) → IsTagBelow t t
tag_self Untagged = tt
tag_self t = refl

tags_self : (ts : List Tag) → AreTagsBelow ts ts
tags_self [] = tt
tags_self (t ∷ ts) = (tag_self t, tags_self ts)

tag_trans : (t u x : Tag) → IsTagBelow t u → IsTagBelow u x → IsTagBelow t x
tag_trans t u Untagged a b = tt
tag_trans t u x a b = subst (IsTagBelow t) b a

tags_trans : (ts us xs : List Tag) → AreTagsBelow ts us → AreTagsBelow us xs → AreTagsBelow ts xs
tags_trans ts us [] a b = tt
tags_trans ts [] (x ∷ xs) a b = absurd b
tags_trans [] (u ∷ us) (x ∷ xs) a b = absurd a
tags_trans (t ∷ ts) (u ∷ us) (x ∷ xs) a b = (tag_trans t u x a.0 b.0, tags_trans ts us xs a.1 b.1)

frame_self : (f : TagShape) → IsShapeBelow f f
frame_self f = record { stack = tags_self f.stack; locals = tags_self f.locals; held = refl }

frame_trans : (f g h : TagShape) → IsShapeBelow f g → IsShapeBelow g h → IsShapeBelow f h
frame_trans f g h a b = record { stack = tags_trans f.stack g.stack h.stack a.stack b.stack; locals = tags_trans f.locals g.locals h.locals a.locals b.locals; held = a.held ∙ b.held }

-- ---- where two frames meet

meet_left : (t : Tag) (b : Bool) → IsTagBelow t (if b then t else Untagged)
meet_left t true = tag_self t
meet_left t false = tt

meet_right : (t u : Tag) (b : Bool) → same_tag t u ≡ b → IsTagBelow u (if b then t else Untagged)
meet_right t u true e = subst (λ (x : Tag). IsTagBelow x t) (one_tag t u e) (tag_self t)
meet_right t u false e = tt

meets_left : (ts us : List Tag) → AreTagsBelow ts (meet_tags ts us)
meets_left (t ∷ ts) (u ∷ us) = (meet_left t (same_tag t u), meets_left ts us)
meets_left ts us = tt

meets_right : (ts us : List Tag) → AreTagsBelow us (meet_tags ts us)
meets_right (t ∷ ts) (u ∷ us) = (meet_right t u (same_tag t u) refl, meets_right ts us)
meets_right ts us = tt

-- frames with one held list
same_held : (g f : TagShape) → tag_meeting.clashes g f ≡ false → g.held ≡ f.held
same_held g f e = one_list g.held f.held (not-false (same_tags g.held f.held) e)

frame_left : (g f : TagShape) → tag_meeting.clashes g f ≡ false → IsShapeBelow g (tag_meeting.meet g f)
frame_left g f e = record { stack = meets_left g.stack f.stack; locals = meets_left g.locals f.locals; held = refl }

frame_right : (g f : TagShape) → tag_meeting.clashes g f ≡ false → IsShapeBelow f (tag_meeting.meet g f)
frame_right g f e = record { stack = meets_right g.stack f.stack; locals = meets_right g.locals f.locals; held = sym (same_held g f e) }

pub tag_order : Orders tag_meeting IsShapeBelow
tag_order = record {
  self = frame_self;
  trans = frame_trans;
  left = frame_left;
  right = frame_right;
  equal = one_frame;
  own = λ f. ap not (own_tags f.held);
  again = λ g f e. e;
}
