-- Faults of the values that are taken, one by one.
use Rattle.std.proofs.Common.{◌≡◌, ℕ, zero, suc, ◌<◌, Bool, true, false, List, [], ◌∷◌, length, drop, Some, None, refl, sym, ap, ◌∙◌, arith, ◌||◌, slice_get, slice_index_or}
use Rattle.jvm_types.specs.{Verifying.some_taken, declared.{op_row.Want.Want, typing.VType.VType}}

pub taken_at : (fault : Want → VType → Bool) (takes : List Want) (stack : List VType) (i : ℕ) (d : Want) (t : VType) → i < length takes → slice_get stack i ≡ Some t
    → some_taken fault (drop i takes) (drop i stack) ≡ (fault (slice_index_or takes i d) t || some_taken fault (drop (suc i) takes) (drop (suc i) stack))
taken_at fault [] stack i d t h e = absurd (omega (arith, h))
taken_at fault (a ∷ takes) [] i d t h e = absurd (cc)
taken_at fault (a ∷ takes) (u ∷ us) zero d t h e = let same : u ≡ t = cc in rw same refl
taken_at fault (a ∷ takes) (u ∷ us) (suc i) d t h e = taken_at fault takes us i d t (omega (arith, h)) e

pub taken_past : (fault : Want → VType → Bool) (takes : List Want) (stack : List VType) (i : ℕ) → slice_get stack i ≡ None → some_taken fault (drop i takes) (drop i stack) ≡ false
taken_past fault [] stack zero e = refl
taken_past fault [] stack (suc i) e = refl
taken_past fault (a ∷ takes) [] zero e = refl
taken_past fault (a ∷ takes) [] (suc i) e = none_taken (drop i takes)
  where
    none_taken : (wants : List Want) → some_taken fault wants [] ≡ false
    none_taken [] = refl
    none_taken (want ∷ wants) = refl
taken_past fault (a ∷ takes) (u ∷ us) zero e = absurd (cc)
taken_past fault (a ∷ takes) (u ∷ us) (suc i) e = taken_past fault takes us i e

-- the steps of a loop over them
pub taken_found : (fault : Want → VType → Bool) (takes : List Want) (stack : List VType) (i : ℕ) (d : Want) (t : VType) (whole : Bool) → i < length takes → slice_get stack i ≡ Some t
    → true ≡ fault (slice_index_or takes i d) t → some_taken fault (drop i takes) (drop i stack) ≡ whole → true ≡ whole
taken_found fault takes stack i d t whole h e f inv = ap (λ b. b || some_taken fault (drop (suc i) takes) (drop (suc i) stack)) f ∙ sym (taken_at fault takes stack i d t h e) ∙ inv

pub taken_more : (fault : Want → VType → Bool) (takes : List Want) (stack : List VType) (i : ℕ) (d : Want) (t : VType) (whole : Bool) → i < length takes → slice_get stack i ≡ Some t
    → false ≡ fault (slice_index_or takes i d) t → some_taken fault (drop i takes) (drop i stack) ≡ whole
    → some_taken fault (drop (suc i) takes) (drop (suc i) stack) ≡ whole
taken_more fault takes stack i d t whole h e f inv = ap (λ b. b || some_taken fault (drop (suc i) takes) (drop (suc i) stack)) f ∙ sym (taken_at fault takes stack i d t h e) ∙ inv
