-- Stacks of tags, place by place.
use Rattle.std.proofs.Common.{◌≡◌, ◌≢◌, ℕ, zero, suc, ◌<◌, max, min, ◌-◌, Bool, true, false, not, List, [], ◌∷◌, ◌++◌, length, take, drop, replicate, Some, refl, ap, ◌∙◌, subst, arith, ◌||◌, ◌&&◌, nat_lt, if◌then◌else◌, slice_get}
use Rattle.checked_program.{specs.{LockTags.{TagShape, filled_tags, same_tag, same_tags, meet_tags}, Tagging.tag_meeting, declared.tag.Tag.{Tag, TheVariants.Untagged}}, proofs.FilledTags.told_filled}
use Rattle.laws_sections.proofs.TagOrder.{own_tags}

-- ---- the same tags

pub other_length : (ts us : List Tag) → length ts ≢ length us → same_tags ts us ≡ false
other_length [] [] e = absurd (e refl)
other_length [] (u ∷ us) e = refl
other_length (t ∷ ts) [] e = refl
other_length (t ∷ ts) (u ∷ us) e = and_false (same_tag t u) (same_tags ts us) (other_length ts us (λ h. e (ap suc h)))
  where
    and_false : (a b : Bool) → b ≡ false → (a && b) ≡ false
    and_false true b e = e
    and_false false b e = refl

-- a stack from a place on
pub opened_at : (ts : List Tag) (i : ℕ) (t : Tag) → slice_get ts i ≡ Some t → drop i ts ≡ t ∷ drop (suc i) ts
opened_at [] i t e = absurd (cc)
opened_at (x ∷ xs) zero t e = let same : x ≡ t = cc in ap (λ (y : Tag). y ∷ xs) same
opened_at (x ∷ xs) (suc i) t e = opened_at xs i t e

pub same_place : (ts us : List Tag) (i : ℕ) (t u : Tag) → slice_get ts i ≡ Some t → slice_get us i ≡ Some u
    → same_tags (drop i ts) (drop i us) ≡ (same_tag t u && same_tags (drop (suc i) ts) (drop (suc i) us))
same_place ts us i t u e f = rw (opened_at ts i t e, opened_at us i u f) refl

-- ---- the places from the top on

pub place_more : (n : ℕ) (ts : List Tag) (i : ℕ) (t : Tag) → i < n → slice_get ts i ≡ Some t → t ∷ drop (suc i) (take n ts) ≡ drop i (take n ts)
place_more zero ts i t h e = absurd (omega (arith, h))
place_more (suc n) [] i t h e = absurd (cc)
place_more (suc n) (x ∷ xs) zero t h e = let same : x ≡ t = cc in rw same refl
place_more (suc n) (x ∷ xs) (suc i) t h e = place_more n xs i t (omega (arith, h)) e

-- ---- where two of any heights meet

pub meet_top : (n : ℕ) (ts us : List Tag) → n ≡ min (length ts) (length us) → meet_tags (take n ts) us ≡ meet_tags ts us
meet_top zero (t ∷ ts) (u ∷ us) e = absurd (omega (arith, e))
meet_top (suc n) (t ∷ ts) (u ∷ us) e = ap (λ l. (if same_tag t u then t else Untagged) ∷ l) (meet_top n ts us (omega (arith, e)))
meet_top n ts us e = refl

none_filled : (ts : List Tag) → filled_tags 0 ts ≡ ts
none_filled ts = let none : 0 - length ts ≡ 0 = omega arith in ap (λ k. ts ++ replicate k Untagged) none ∙ no_more ts
  where
    no_more : (ts : List Tag) → ts ++ [] ≡ ts
    no_more [] = refl
    no_more (t ∷ ts) = ap (λ l. t ∷ l) (no_more ts)

pub told_top : (n : ℕ) (ts us : List Tag) → n ≡ min (length ts) (length us)
    → (nat_lt n (length ts) || not (same_tags (take n ts) (meet_tags (take n ts) us))) ≡ not (same_tags ts (meet_tags ts us))
told_top n ts us e =
    let all : max 0 (length ts) ≡ length ts = omega arith in
    subst (λ (k : ℕ). (nat_lt n k || not (same_tags (take n ts) (meet_tags (take n ts) us))) ≡ not (same_tags ts (meet_tags ts us))) all
    (subst (λ (l : List Tag). (nat_lt n (max 0 (length ts)) || not (same_tags (take n ts) (meet_tags (take n ts) us))) ≡ not (same_tags l (meet_tags l us))) (none_filled ts)
    (told_filled 0 n ts us (omega (arith, e))))

-- of frames: what is held is the same
pub frames_told : (frame other : TagShape) (a b : Bool) → a ≡ not (same_tags frame.stack (meet_tags frame.stack other.stack)) → b ≡ not (same_tags frame.locals (meet_tags frame.locals other.locals))
    → (a || b) ≡ not (tag_meeting.same frame (tag_meeting.meet frame other))
frames_told frame other a b ea eb = rw (ea, eb, own_tags frame.held) (told_by (same_tags frame.stack (meet_tags frame.stack other.stack)) (same_tags frame.locals (meet_tags frame.locals other.locals)))
  where
    told_by : (s l : Bool) → (not s || not l) ≡ not (s && (l && true))
    told_by true true = refl
    told_by true false = refl
    told_by false l = refl
