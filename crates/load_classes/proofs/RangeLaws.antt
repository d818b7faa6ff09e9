-- A range from its first number on.
use Rattle.std.{proofs.Common.{arith, ℕ, ◌+◌, ◌-◌, ◌<◌, ◌≡◌, suc, ◌∷◌, ap}, specs.List.range_with_len}

pub one_less : (n i : ℕ) → i < n → n - i ≡ suc (n - (i + 1))
one_less n i h = omega (arith, h)

pub range_step : (n i : ℕ) → i < n → range_with_len i (n - i) ≡ i ∷ range_with_len (i + 1) (n - (i + 1))
range_step n i h = ap (range_with_len i) (one_less n i h)
