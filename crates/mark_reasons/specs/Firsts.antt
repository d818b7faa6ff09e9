-- The first of some numbers that passes a test.
use Rattle.std.specs.Prelude.{◌≡◌, ◌<◌, ℕ, Bool, true, false, Option, Some, None}

abbrev pub IsFirst : (ℕ → Bool) → ℕ → Option ℕ → Type 0
IsFirst test n None = (i : ℕ) → i < n → test i ≡ false
IsFirst test n (Some i) = (i < n) × (test i ≡ true) × ((j : ℕ) → j < i → test j ≡ false)
