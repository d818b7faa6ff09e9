-- The bits of a word of waiting bits, where one is set or cleared.
use Rattle.std.{proofs.Common.{◌≡◌, ◌≢◌, inl, inr, ℕ, ◌-◌, ◌*◌, ◌^◌, ◌<◌, ◌≤◌, min, max, true, false, w64, sym, ap, ◌∙◌, arith, not, ◌==◌, bit_and, bit_or, nat_lt}, specs.Int.bit_at}
use Rattle.std.proofs.{Math.Pow.pow-lt, lemmas.{Bool.Decides.nat_tests, Nat.Bits.{bit_at_and, bit_at_or, bit_at-pow_same, bit_at-pow_other, and_pow, bit_at_not, bit_at-lt, bit_at_above}}}
use Rattle.std.proofs.lemmas.Bool.{cases_Bool}
use Rattle.jvm_types.specs.Numbers.{has_flag}
use Rattle.machine_types.specs.Monitors.{bit_of}
use Rattle.laws_states.proofs.EventBits.{no_flag}

flag_is : (n u : ℕ) → (has_flag (bit_of u) n ≡ not (bit_at n u * 2 ^ u == 0))
flag_is n u = ap (λ (k : ℕ). not (k == 0)) (and_pow n u)

-- by one bit
pub flag_same : (n k u : ℕ) → bit_at n u ≡ bit_at k u → has_flag (bit_of u) n ≡ has_flag (bit_of u) k
flag_same n k u e = flag_is n u ∙ ap (λ (b : ℕ). not (b * 2 ^ u == 0)) e ∙ sym (flag_is k u)

pub low_if_set : (n u : ℕ) → n < 2 ^ 64 → has_flag (bit_of u) n ≡ true → u < 64
low_if_set n u small e = elim (cases_Bool (nat_lt u 64)) [
  | inl f ↦ grind (arith, nat_tests, f)
  | inr f ↦
      let high : 64 ≤ u = grind (arith, nat_tests, f) in
      let off : has_flag (bit_of u) n ≡ false = no_flag n u (bit_at_above n 64 u small high) in
      let clash : true ≡ false = sym e ∙ off in absurd (cc)
]

-- ---- one bit is set

pub set_other : (n t u : ℕ) → u ≢ t → has_flag (bit_of u) (bit_or n (bit_of t)) ≡ has_flag (bit_of u) n
set_other n t u d = flag_same (bit_or n (bit_of t)) n u (bit_at_or n (2 ^ t) u ∙ ap (λ (b : ℕ). max (bit_at n u) b) (bit_at-pow_other t u d) ∙ omega arith)

-- ---- one bit is cleared

cleared_bit : (u v : ℕ) → u < 64 → v < 64 → bit_at (2 ^ 64 - 1 - 2 ^ u) v ≡ 1 - bit_at (2 ^ u) v
cleared_bit u v l k = bit_at_not w64 (2 ^ u) v (pow-lt l) k

pub clear_here : (n u : ℕ) → u < 64 → has_flag (bit_of u) (bit_and n (2 ^ 64 - 1 - bit_of u)) ≡ false
clear_here n u l = no_flag (bit_and n (2 ^ 64 - 1 - bit_of u)) u (bit_at_and n (2 ^ 64 - 1 - 2 ^ u) u ∙ ap (λ (b : ℕ). min (bit_at n u) b) (cleared_bit u u l l ∙ ap (λ (b : ℕ). 1 - b) (bit_at-pow_same u)) ∙ omega arith)

pub clear_other : (n u v : ℕ) → n < 2 ^ 64 → u < 64 → v ≢ u → has_flag (bit_of v) (bit_and n (2 ^ 64 - 1 - bit_of u)) ≡ has_flag (bit_of v) n
clear_other n u v small l d = elim (cases_Bool (nat_lt v 64)) [
  | inl f ↦
      let low : v < 64 = grind (arith, nat_tests, f) in
      let one : bit_at (2 ^ 64 - 1 - 2 ^ u) v ≡ 1 = cleared_bit u v l low ∙ ap (λ (b : ℕ). 1 - b) (bit_at-pow_other u v d) in
      let bit : bit_at n v < 2 = bit_at-lt n v in
      flag_same (bit_and n (2 ^ 64 - 1 - bit_of u)) n v (bit_at_and n (2 ^ 64 - 1 - 2 ^ u) v ∙ ap (λ (b : ℕ). min (bit_at n v) b) one ∙ omega arith)
  | inr f ↦
      let high : 64 ≤ v = grind (arith, nat_tests, f) in
      let none : bit_at n v ≡ 0 = bit_at_above n 64 v small high in
      no_flag (bit_and n (2 ^ 64 - 1 - bit_of u)) v (bit_at_and n (2 ^ 64 - 1 - 2 ^ u) v ∙ ap (λ (b : ℕ). min b (bit_at (2 ^ 64 - 1 - 2 ^ u) v)) none ∙ omega arith) ∙ sym (no_flag n v none)
]
