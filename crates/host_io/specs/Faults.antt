-- Counts of faults: numbers of 64 bits that never fall, and that stand still at their end.
use Rattle.std.specs.Prelude.{◌≡◌, ℕ, ◌+◌, ◌-◌, ◌^◌, ◌<◌, ◌⊎◌, min}

-- a count after one more
abbrev pub risen : ℕ → ℕ
risen n = min (n + 1) (2 ^ 64 - 1)

-- a fault was counted: the count rose, or stands at its end
abbrev pub CountsFault : ℕ → ℕ → Type 0
CountsFault before after = (before < after) ⊎ ((after ≡ before) × (before ≡ 2 ^ 64 - 1))
