-- What holds of each of the first numbers, and of each behind them, holds of every number: so of every class, by
-- the built-in ones.
use Rattle.std.proofs.Common.{ℕ, zero, suc}

-- of the first n numbers
abbrev pub OfFirst : (ℕ → Type 0) → ℕ → Type 0
OfFirst P zero = Unit {0}
OfFirst P (suc n) = P zero × OfFirst (λ k. P (suc k)) n

-- the number that many behind the first n
abbrev pub behind : ℕ → ℕ → ℕ
behind zero c = c
behind (suc n) c = suc (behind n c)

by_first : (P : ℕ → Type 0) (n : ℕ) → OfFirst P n → ((c : ℕ) → P (behind n c)) → (c : ℕ) → P c
by_first P zero first more c = more c
by_first P (suc n) first more zero = first.0
by_first P (suc n) first more (suc c) = by_first (λ k. P (suc k)) n first.1 more c

-- of every class
pub by_class : (P : ℕ → Type 0) → OfFirst P 16 → ((c : ℕ) → P (behind 16 c)) → (c : ℕ) → P c
by_class P first more c = by_first P 16 first more c
