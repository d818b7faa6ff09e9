-- The bits of a word of waiting bits: what setting one, clearing one and looking for the lowest do.
use Rattle.std.proofs.Common.{⊎_elim, ◌≡◌, ◌≢◌, ◌⊎◌, inl, inr, ℕ, zero, suc, ◌*◌, ◌^◌, ◌<◌, Bool, true, false, not, cond, List, [], ◌∷◌, Some, refl, sym, ap, ◌∙◌, arith, ◌==◌, bit_and, bit_or, find}
use Rattle.std.{specs.{Int.bit_at, List.{AllByRecursion, range_with_len}, Prelude.unwrap_or}, proofs.lemmas.{Bool.Decides.nat_tests, List.FromFn.get_or-range_with_len, Nat.pow_pos, Option.slice_get_read}}
use Rattle.std.proofs.lemmas.Nat.Bits.{and_pow, bit_at_and, bit_at_or, bit_at-lt, bit_at-zero, bit_at-pow_same, bit_at-pow_other, same_from_bits_below}
use Rattle.jvm_types.specs.Numbers.{has_flag}
use Rattle.laws_programs.proofs.LocalGoing.{at_index}
use Rattle.machine_types.specs.Monitors.{bit_of, lowest_of}

-- ---- a flag is one bit

-- a bit times a power of two is zero only where the bit is
pow_not_zero : (b p : ℕ) → zero < p → b < 2 → b ≢ 0 → not (b * p == 0) ≡ true
pow_not_zero zero p h lt d = absurd (d refl)
pow_not_zero (suc zero) p h lt d = grind (arith, nat_tests, h)
pow_not_zero (suc (suc b)) p h lt d = absurd (omega (arith, lt))

flag_is_bit : (n u : ℕ) → has_flag (bit_of u) n ≡ not (bit_at n u * 2 ^ u == 0)
flag_is_bit n u = ap (λ (k : ℕ). not (k == 0)) (and_pow n u)

flag_bit : (n u : ℕ) → has_flag (bit_of u) n ≡ true → bit_at n u ≡ 1
flag_bit n u e = by_bit (bit_at n u) (bit_at-lt n u) (sym (flag_is_bit n u) ∙ e)
  where
    by_bit : (b : ℕ) → b < 2 → not (b * 2 ^ u == 0) ≡ true → b ≡ 1
    by_bit zero lt e = let none : 0 * 2 ^ u ≡ 0 = omega arith in let bad : false ≡ true = sym (ap (λ (k : ℕ). not (k == 0)) none) ∙ e in absurd (cc)
    by_bit (suc zero) lt e = refl
    by_bit (suc (suc b)) lt e = absurd (omega (arith, lt))

bit_flag : (n u : ℕ) → bit_at n u ≡ 1 → has_flag (bit_of u) n ≡ true
bit_flag n u e = flag_is_bit n u ∙ pow_not_zero (bit_at n u) (2 ^ u) (pow_pos u) (bit_at-lt n u) (λ z. absurd (omega (arith, e, z)))

-- ---- set

pub set_sets : (n t : ℕ) → has_flag (bit_of t) (bit_or n (bit_of t)) ≡ true
set_sets n t = bit_flag (bit_or n (2 ^ t)) t (omega (arith, bit_at_or n (2 ^ t) t, bit_at-pow_same t, bit_at-lt n t))

pub set_keeps : (n t u : ℕ) → has_flag (bit_of u) n ≡ true → has_flag (bit_of u) (bit_or n (bit_of t)) ≡ true
set_keeps n t u e = bit_flag (bit_or n (2 ^ t)) u (omega (arith, bit_at_or n (2 ^ t) u, flag_bit n u e, bit_at-lt (2 ^ t) u))

pub set_other : (n t u : ℕ) → u ≢ t → has_flag (bit_of u) (bit_or n (bit_of t)) ≡ true → has_flag (bit_of u) n ≡ true
set_other n t u d e = bit_flag n u (omega (arith, bit_at_or n (2 ^ t) u, flag_bit (bit_or n (2 ^ t)) u e, bit_at-pow_other t u d))

-- ---- cleared

pub left_was_set : (n mask u : ℕ) → has_flag (bit_of u) (bit_and n mask) ≡ true → has_flag (bit_of u) n ≡ true
left_was_set n mask u e = bit_flag n u (omega (arith, bit_at_and n mask u, flag_bit (bit_and n mask) u e, bit_at-lt n u, bit_at-lt mask u))

pub none_set : (u : ℕ) → has_flag (bit_of u) 0 ≡ false
none_set u = refl

-- ---- the lowest

found_or_none : (f : ℕ → Bool) (xs : List ℕ) → (f (unwrap_or (find f xs) 0) ≡ true) ⊎ AllByRecursion (λ x. f x ≡ false) xs
found_or_none f [] = inr tt
found_or_none f (x ∷ xs) = (elim (f x) as
    (λ (b : Bool). f x ≡ b → (f (unwrap_or (find f xs) 0) ≡ true) ⊎ AllByRecursion (λ x. f x ≡ false) xs → (f (unwrap_or (cond b (Some x) (find f xs)) 0) ≡ true) ⊎ AllByRecursion (λ x. f x ≡ false) (x ∷ xs))
    [ true ↦ λ e rest. inl e | false ↦ λ e rest. by_rest e rest ]) refl (found_or_none f xs)
  where
    by_rest : f x ≡ false → (f (unwrap_or (find f xs) 0) ≡ true) ⊎ AllByRecursion (λ x. f x ≡ false) xs → (f (unwrap_or (find f xs) 0) ≡ true) ⊎ AllByRecursion (λ x. f x ≡ false) (x ∷ xs)
    by_rest e (inl h) = inl h
    by_rest e (inr h) = inr (e, h)

no_bit : (n u : ℕ) → has_flag (bit_of u) n ≡ false → bit_at n u ≡ bit_at 0 u
no_bit n u e = by_bit (bit_at n u) refl (bit_at-lt n u) ∙ sym (bit_at-zero u)
  where
    by_bit : (b : ℕ) → bit_at n u ≡ b → b < 2 → b ≡ 0
    by_bit zero g lt = refl
    by_bit (suc zero) g lt = let set = bit_flag n u g in absurd (cc)
    by_bit (suc (suc b)) g lt = absurd (omega (arith, lt))

all_nine : (n : ℕ) → AllByRecursion (λ t. has_flag (bit_of t) n ≡ false) (range_with_len 0 9) → (i : ℕ) → i < 9 → bit_at n i ≡ bit_at 0 i
all_nine n h i lt = no_bit n i
    (at_index (λ t. has_flag (bit_of t) n ≡ false) (range_with_len 0 9) i i h (slice_get_read (range_with_len 0 9) 9 i i refl lt (omega (arith, get_or-range_with_len 0 9 i i lt))))

-- of bits of which some is set
pub lowest_set : (n : ℕ) → n < 2 ^ 9 → n ≢ 0 → has_flag (bit_of (lowest_of n)) n ≡ true
lowest_set n few some = ⊎_elim
    (λ (h : has_flag (bit_of (lowest_of n)) n ≡ true). h)
    (λ (h : AllByRecursion (λ t. has_flag (bit_of t) n ≡ false) (range_with_len 0 9)). absurd (some (same_from_bits_below 9 n 0 few (omega arith) (all_nine n h)))) (found_or_none (λ t. has_flag (bit_of t) n) (range_with_len 0 9))
