-- Tags of locals, of which only the first are kept.
use Rattle.std.proofs.Common.{◌≡◌, ℕ, zero, suc, ◌+◌, ◌-◌, ◌<◌, ◌≤◌, max, min, Bool, true, false, not, List, [], ◌∷◌, ◌++◌, length, replicate, take, drop, Some, refl, sym, ap, ◌∙◌, append_assoc, arith, ◌||◌, ◌&&◌, nat_lt, if◌then◌else◌, slice_get, slice_set}
use Rattle.std.proofs.{Math.Bool.{or-true, or-false}, lemmas.{Bool.Decides.nat_tests, List.{length-append, length-replicate, length-map, length-set, set-append_left, map-append, replicate-append-replicate}}}
use Rattle.graph_closure.proofs.SpreadLaws.{none_below}
use Rattle.checked_program.specs.{LockTags.{filled_tags, same_tag, same_tags, meet_tags, without}, declared.tag.Tag.{Tag, TheVariants.{Untagged, At}}}

pub length_filled : (n : ℕ) (ts : List Tag) → length (filled_tags n ts) ≡ max n (length ts)
length_filled n ts = length-append ts (replicate (n - length ts) Untagged) ∙ ap (λ k. length ts + k) (length-replicate (n - length ts) Untagged) ∙ omega arith

-- ---- where one is written

filled_more : (n count : ℕ) (ts : List Tag) → count ≤ max n (length ts) → filled_tags n (filled_tags count ts) ≡ filled_tags n ts
filled_more n count ts h =
    let all : (count - length ts) + (n - length (filled_tags count ts)) ≡ n - length ts = omega (arith, h, length_filled count ts) in
    append_assoc ts (replicate (count - length ts) Untagged) (replicate (n - length (filled_tags count ts)) Untagged)
    ∙ ap (λ l. ts ++ l) (replicate-append-replicate (count - length ts) (n - length (filled_tags count ts)) Untagged) ∙ ap (λ k. ts ++ replicate k Untagged) all

set_filled : (n : ℕ) (ts : List Tag) (i : ℕ) (t : Tag) → i < length ts → slice_set (filled_tags n ts) i t ≡ filled_tags n (slice_set ts i t)
set_filled n ts i t h = set-append_left ts (replicate (n - length ts) Untagged) i t h ∙ ap (λ k. slice_set ts i t ++ replicate (n - k) Untagged) (sym (length-set ts i t))

pub local_set : (n : ℕ) (ts : List Tag) (i : ℕ) (t : Tag) → i < max n (length ts) → filled_tags n (slice_set (filled_tags (i + 1) ts) i t) ≡ slice_set (filled_tags n ts) i t
local_set n ts i t h =
    let inside : i < length (filled_tags (i + 1) ts) = omega (arith, length_filled (i + 1) ts) in
    let fits : i + 1 ≤ max n (length ts) = omega (arith, h) in
    sym (set_filled n (filled_tags (i + 1) ts) i t inside) ∙ ap (λ l. slice_set l i t) (filled_more n (i + 1) ts fits)

-- ---- where a tag is taken from all

without_untagged : (pc k : ℕ) → without pc (replicate k Untagged) ≡ replicate k Untagged
without_untagged pc zero = refl
without_untagged pc (suc k) = ap (λ l. Untagged ∷ l) (without_untagged pc k)

pub without_filled : (pc n : ℕ) (ts : List Tag) → filled_tags n (without pc ts) ≡ without pc (filled_tags n ts)
without_filled pc n ts = sym (map-append (λ t. if same_tag t (At pc) then Untagged else t) ts (replicate (n - length ts) Untagged)
    ∙ ap (λ l. without pc ts ++ l) (without_untagged pc (n - length ts))
    ∙ ap (λ k. without pc ts ++ replicate (n - k) Untagged) (sym (length-map ts (λ t. if same_tag t (At pc) then Untagged else t))))

-- ---- where two meet

both_untagged : (b : Bool) → (if b then Untagged else Untagged) ≡ Untagged
both_untagged true = refl
both_untagged false = refl

meet_untagged : (k m : ℕ) (us : List Tag) → m ≡ min k (length us) → replicate m Untagged ≡ meet_tags (replicate k Untagged) us
meet_untagged zero m us e = let none : m ≡ 0 = omega (arith, e) in rw none refl
meet_untagged (suc k) m [] e = let none : m ≡ 0 = omega (arith, e) in rw none refl
meet_untagged (suc k) zero (u ∷ us) e = absurd (omega (arith, e))
meet_untagged (suc k) (suc m) (u ∷ us) e = rw (both_untagged (same_tag Untagged u)) (ap (λ l. Untagged ∷ l) (meet_untagged k m us (omega (arith, e))))

no_tags : (m : ℕ) → take {A = Tag} m [] ≡ []
no_tags zero = refl
no_tags (suc m) = refl

meet_first : (ts : List Tag) (k m : ℕ) (us : List Tag) → m ≡ min (length ts + k) (length us)
    → meet_tags (take m ts) us ++ replicate (m - length (meet_tags (take m ts) us)) Untagged ≡ meet_tags (ts ++ replicate k Untagged) us
meet_first [] k m us e =
    let all : m - 0 ≡ m = omega arith in
    rw (no_tags m, all) (meet_untagged k m us (omega (arith, e)))
meet_first (t ∷ ts) k m [] e = let none : m ≡ 0 = omega (arith, e) in rw none refl
meet_first (t ∷ ts) k zero (u ∷ us) e = absurd (omega (arith, e))
meet_first (t ∷ ts) k (suc m) (u ∷ us) e =
    let less : suc m - suc (length (meet_tags (take m ts) us)) ≡ m - length (meet_tags (take m ts) us) = omega arith in
    rw less (ap (λ l. (if same_tag t u then t else Untagged) ∷ l) (meet_first ts k m us (omega (arith, e))))

all_of : (n : ℕ) (ts : List Tag) → length ts + (n - length ts) ≡ max n (length ts)
all_of n ts = omega arith

pub meet_filled : (n m : ℕ) (ts us : List Tag) → m ≡ min (max n (length ts)) (length us) → filled_tags m (meet_tags (take m ts) us) ≡ meet_tags (filled_tags n ts) us
meet_filled n m ts us e = meet_first ts (n - length ts) m us (omega (arith, e, all_of n ts))

-- and whether that changes them

one_more : (a fewer c d : Bool) → (fewer || not c) ≡ not d → (fewer || not (a && c)) ≡ not (a && d)
one_more true fewer c d e = e
one_more false fewer c d e = or-true fewer

fewer_more : (m k : ℕ) → nat_lt (suc m) (suc k) ≡ nat_lt m k
fewer_more m k = grind (arith, nat_tests)

pub some_fewer : (k : ℕ) → nat_lt 0 (suc k) ≡ true
some_fewer k = grind (arith, nat_tests)

told_untagged : (k m : ℕ) (us : List Tag) → m ≡ min k (length us) → nat_lt m k ≡ not (same_tags (replicate k Untagged) (meet_tags (replicate k Untagged) us))
told_untagged zero m us e = none_below m
told_untagged (suc k) m [] e = let none : m ≡ 0 = omega (arith, e) in rw none (some_fewer k)
told_untagged (suc k) zero (u ∷ us) e = absurd (omega (arith, e))
told_untagged (suc k) (suc m) (u ∷ us) e = rw (both_untagged (same_tag Untagged u), fewer_more m k) (told_untagged k m us (omega (arith, e)))

told_first : (ts : List Tag) (k m : ℕ) (us : List Tag) → m ≡ min (length ts + k) (length us)
    → (nat_lt m (length ts + k) || not (same_tags (take m ts) (meet_tags (take m ts) us))) ≡ not (same_tags (ts ++ replicate k Untagged) (meet_tags (ts ++ replicate k Untagged) us))
told_first [] k m us e =
    let all : 0 + k ≡ k = omega arith in
    rw (all, no_tags m) (or-false (nat_lt m k) ∙ told_untagged k m us (omega (arith, e)))
told_first (t ∷ ts) k m [] e =
    let none : m ≡ 0 = omega (arith, e) in
    let more : suc (length ts) + k ≡ suc (length ts + k) = omega arith in
    rw (none, more, some_fewer (length ts + k)) refl
told_first (t ∷ ts) k zero (u ∷ us) e = absurd (omega (arith, e))
told_first (t ∷ ts) k (suc m) (u ∷ us) e =
    let more : suc (length ts) + k ≡ suc (length ts + k) = omega arith in
    rw (more, fewer_more m (length ts + k)) (one_more (same_tag t (if same_tag t u then t else Untagged)) (nat_lt m (length ts + k)) (same_tags (take m ts) (meet_tags (take m ts) us))
    (same_tags (ts ++ replicate k Untagged) (meet_tags (ts ++ replicate k Untagged) us)) (told_first ts k m us (omega (arith, e))))

pub told_filled : (n m : ℕ) (ts us : List Tag) → m ≡ min (max n (length ts)) (length us)
    → (nat_lt m (max n (length ts)) || not (same_tags (take m ts) (meet_tags (take m ts) us))) ≡ not (same_tags (filled_tags n ts) (meet_tags (filled_tags n ts) us))
told_filled n m ts us e = rw (← all_of n ts) (told_first ts (n - length ts) m us (omega (arith, e, all_of n ts)))

-- ---- place by place

pub without_more : (pc : ℕ) (ts : List Tag) (i : ℕ) (t : Tag) → slice_get ts i ≡ Some t
    → take (suc i) (slice_set ts i (if same_tag t (At pc) then Untagged else t)) ++ without pc (drop (suc i) (slice_set ts i (if same_tag t (At pc) then Untagged else t))) ≡ take i ts ++ without pc (drop i ts)
without_more pc [] i t e = absurd (cc)
without_more pc (x ∷ xs) zero t e = let same : x ≡ t = cc in rw same refl
without_more pc (x ∷ xs) (suc i) t e = ap (λ l. x ∷ l) (without_more pc xs i t e)

pub meet_more : (ts us : List Tag) (i : ℕ) (t u : Tag) → slice_get ts i ≡ Some t → slice_get us i ≡ Some u
    → take (suc i) (slice_set ts i (if same_tag t u then t else Untagged)) ++ meet_tags (drop (suc i) (slice_set ts i (if same_tag t u then t else Untagged))) (drop (suc i) us) ≡ take i ts ++ meet_tags (drop i ts) (drop i us)
meet_more (x ∷ xs) (y ∷ ys) zero t u e f =
    let same : x ≡ t = cc in
    let other : y ≡ u = cc in
    rw (same, other) refl
meet_more (x ∷ xs) (y ∷ ys) (suc i) t u e f = ap (λ l. x ∷ l) (meet_more xs ys i t u e f)
meet_more ts us i t u e f = absurd (cc)

pub change_more : (changed a b : Bool) → ((changed || not a) || not b) ≡ (changed || not (a && b))
change_more false true b = refl
change_more changed a b = refl

pub told_more : (changed : Bool) (ts us : List Tag) (i : ℕ) (t u : Tag) → slice_get ts i ≡ Some t → slice_get us i ≡ Some u
    → ((changed || not (same_tag t (if same_tag t u then t else Untagged))) || not (same_tags (drop (suc i) (slice_set ts i (if same_tag t u then t else Untagged))) (meet_tags (drop (suc i) (slice_set ts i (if same_tag t u then t else Untagged))) (drop (suc i) us))))
    ≡ (changed || not (same_tags (drop i ts) (meet_tags (drop i ts) (drop i us))))
told_more changed (x ∷ xs) (y ∷ ys) zero t u e f =
    let same : x ≡ t = cc in
    let other : y ≡ u = cc in
    rw (same, other) (change_more changed (same_tag t (if same_tag t u then t else Untagged)) (same_tags xs (meet_tags xs ys)))
told_more changed (x ∷ xs) (y ∷ ys) (suc i) t u e f = told_more changed xs ys i t u e f
told_more changed ts us i t u e f = absurd (cc)
