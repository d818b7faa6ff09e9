-- Frames of the same types are one, and a frame meets itself in itself.
use Rattle.std.proofs.{Common.{◌≡◌, ◌≢◌, ℕ, Bool, true, false, not, List, [], ◌∷◌, length, reverse, refl, sym, ap, ◌∙◌, ◌&&◌, ◌==◌}, lemmas.Bool.eq-eqb}
use Rattle.jvm_types.specs.{Types.{TypeFrame, filled, same_type, all_pairs, if_same_place, meet, meets, meet_frames}, declared.typing.VType.{VType, TheVariants.{Ref, New}}}
use Rattle.laws_programs.proofs.LocalRisen.{same_lists}
use Rattle.code_table.proofs.MeetLaws.{meet_same_class}
use mathlib.Core.Bool.{beq}

-- ---- the same types

pub unlike : (ts us : List VType) → length ts ≢ length us → false ≡ all_pairs same_type ts us
unlike ts us n = by_test (all_pairs same_type ts us) refl
  where
    by_test : (b : Bool) → all_pairs same_type ts us ≡ b → false ≡ b
    by_test false e = refl
    by_test true e = absurd (n (ap length (same_lists ts us e)))

pub one_answer : (a b : Bool) → not (beq a b) ≡ false → a ≡ b
one_answer true true e = refl
one_answer false false e = refl
one_answer true false e = absurd (cc)
one_answer false true e = absurd (cc)

-- frames, by their slices and first locals
pub one_frame : (f g : TypeFrame) (stack others locals other_locals : List VType) → length f.locals ≡ length g.locals → f.ready ≡ g.ready
    → reverse stack ≡ f.stack → reverse others ≡ g.stack → filled (length f.locals) locals ≡ f.locals → filled (length g.locals) other_locals ≡ g.locals
    → all_pairs same_type stack others ≡ true → all_pairs same_type locals other_locals ≡ true → f ≡ g
one_frame f g stack others locals other_locals long ready es eo el em s l =
    let stacks : f.stack ≡ g.stack = sym es ∙ ap reverse (same_lists stack others s) ∙ eo in
    let all : f.locals ≡ g.locals = sym el ∙ ap (λ ts. filled (length f.locals) ts) (same_lists locals other_locals l) ∙ ap (λ n. filled n other_locals) long ∙ em in
    λ i. record { stack = stacks i; locals = all i; ready = ready i }

-- ---- a frame and itself

same_place : (p : ℕ) (b : Bool) → b ≡ true → if_same_place b (New p) ≡ New p
same_place p true e = refl
same_place p false e = absurd (cc)

meet_self : (t : VType) → meet t t ≡ t
meet_self (Ref c) = ap Ref (meet_same_class c)
meet_self (New p) = same_place p (p == p) (eq-eqb p p refl)
meet_self t = refl

meets_self : (ts : List VType) → meets ts ts ≡ ts
meets_self [] = refl
meets_self (t ∷ ts) = ap (λ x. x ∷ meets ts ts) (meet_self t) ∙ ap (λ xs. t ∷ xs) (meets_self ts)

both_self : (a : Bool) → (a && a) ≡ a
both_self true = refl
both_self false = refl

frame_self : (f : TypeFrame) → meet_frames f f ≡ f
frame_self f = λ i. record { stack = meets_self f.stack i; locals = meets_self f.locals i; ready = both_self f.ready i }

pub met_unchanged : (f g : TypeFrame) → f ≡ g → f ≡ meet_frames f g
met_unchanged f g e = sym (frame_self f) ∙ ap (λ h. meet_frames f h) e
