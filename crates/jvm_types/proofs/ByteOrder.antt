-- Numbers of a class file: what their bytes, the high one first, make of them, and the other way round.
use Rattle.std.proofs.Common.{◌≡◌, ℕ, ◌+◌, ◌*◌, ◌/◌, ◌%◌, ◌^◌, ◌<◌, List, [], ◌∷◌, ◌++◌, ap, ◌∙◌, arith}
use Rattle.jvm_types.specs.Numbers.{u2, u4, u8}

-- ---- the number that the bytes of a number make

pub two_back : (n : ℕ) → n / 256 * 256 + n % 256 ≡ n
two_back n = omega arith

pub four_back : (n : ℕ) → (n / 65536 / 256 * 256 + n / 65536 % 256) * 65536 + (n % 65536 / 256 * 256 + n % 65536 % 256) ≡ n
four_back n = omega arith

pub eight_back : (n : ℕ) → n / 4294967296 * 4294967296 + n % 4294967296 ≡ n
eight_back n = omega arith

-- ---- the bytes of the number that bytes make

pub u2_spelled : (a b : ℕ) → a < 256 → b < 256 → u2 (a * 256 + b) ≡ a ∷ b ∷ []
u2_spelled a b p q =
    let high : (a * 256 + b) / 256 ≡ a = omega arith in
    let low : (a * 256 + b) % 256 ≡ b = omega arith in
    rw (high, low)

pub u4_spelled : (a b c d : ℕ) → a < 256 → b < 256 → c < 256 → d < 256 → u4 ((a * 256 + b) * 65536 + (c * 256 + d)) ≡ a ∷ b ∷ c ∷ d ∷ []
u4_spelled a b c d p q r s =
    let high : ((a * 256 + b) * 65536 + (c * 256 + d)) / 65536 ≡ a * 256 + b = omega arith in
    let low : ((a * 256 + b) * 65536 + (c * 256 + d)) % 65536 ≡ c * 256 + d = omega arith in
    ap (λ (n : ℕ). u2 n ++ u2 (((a * 256 + b) * 65536 + (c * 256 + d)) % 65536)) high ∙ ap (λ (n : ℕ). u2 (a * 256 + b) ++ u2 n) low
    ∙ ap (λ (x : List ℕ). x ++ u2 (c * 256 + d)) (u2_spelled a b p q) ∙ ap (λ (x : List ℕ). a ∷ b ∷ x) (u2_spelled c d r s)

pub u8_spelled : (high low : ℕ) → low < 2 ^ 32 → u8 (high * 4294967296 + low) ≡ u4 high ++ u4 low
u8_spelled high low lt =
    let p : (high * 4294967296 + low) / 4294967296 ≡ high = omega arith in
    let q : (high * 4294967296 + low) % 4294967296 ≡ low = omega arith in
    ap (λ (n : ℕ). u4 n ++ u4 ((high * 4294967296 + low) % 4294967296)) p ∙ ap (λ (n : ℕ). u4 high ++ u4 n) q
