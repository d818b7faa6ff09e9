-- Lists of types, place by place and from their other end.
use Rattle.std.proofs.Common.{◌≡◌, ℕ, zero, suc, Bool, true, false, not, List, [], ◌∷◌, ◌++◌, take, drop, Some, refl, ap, ◌||◌, ◌&&◌, if◌then◌else◌, slice_get, slice_set}
use Rattle.jvm_types.specs.{Types.{same_type, meet, all_pairs, meets}, Verifying.initialised, declared.typing.VType.{VType, TheVariants.Ref}}
use Rattle.checked_program.proofs.FilledTags.{change_more}

pub initialise_more : (object : VType) (class : ℕ) (ts : List VType) (i : ℕ) (t : VType) → slice_get ts i ≡ Some t
    → take (suc i) (slice_set ts i (if same_type object t then Ref class else t)) ++ initialised object class (drop (suc i) (slice_set ts i (if same_type object t then Ref class else t)))
    ≡ take i ts ++ initialised object class (drop i ts)
initialise_more object class [] i t e = absurd (cc)
initialise_more object class (x ∷ xs) zero t e = let same : x ≡ t = cc in rw same refl
initialise_more object class (x ∷ xs) (suc i) t e = ap (λ l. x ∷ l) (initialise_more object class xs i t e)

pub meets_more : (ts us : List VType) (i : ℕ) (t u : VType) → slice_get ts i ≡ Some t → slice_get us i ≡ Some u
    → take (suc i) (slice_set ts i (meet t u)) ++ meets (drop (suc i) (slice_set ts i (meet t u))) (drop (suc i) us)
    ≡ take i ts ++ meets (drop i ts) (drop i us)
meets_more [] us i t u e f = absurd (cc)
meets_more (x ∷ xs) [] i t u e f = absurd (cc)
meets_more (x ∷ xs) (y ∷ ys) zero t u e f =
    let same : x ≡ t = cc in
    let other : y ≡ u = cc in
    rw (same, other) refl
meets_more (x ∷ xs) (y ∷ ys) (suc i) t u e f = ap (λ l. x ∷ l) (meets_more xs ys i t u e f)

pub changes_more : (changed : Bool) (ts us : List VType) (i : ℕ) (t u : VType) → slice_get ts i ≡ Some t → slice_get us i ≡ Some u
    → ((changed || not (same_type t (meet t u))) || not (all_pairs same_type (drop (suc i) (slice_set ts i (meet t u))) (meets (drop (suc i) (slice_set ts i (meet t u))) (drop (suc i) us))))
    ≡ (changed || not (all_pairs same_type (drop i ts) (meets (drop i ts) (drop i us))))
changes_more changed [] us i t u e f = absurd (cc)
changes_more changed (x ∷ xs) [] i t u e f = absurd (cc)
changes_more changed (x ∷ xs) (y ∷ ys) zero t u e f =
    let same : x ≡ t = cc in
    let other : y ≡ u = cc in
    rw (same, other) (change_more changed (same_type t (meet t u)) (all_pairs same_type xs (meets xs ys)))
changes_more changed (x ∷ xs) (y ∷ ys) (suc i) t u e f = changes_more changed xs ys i t u e f
