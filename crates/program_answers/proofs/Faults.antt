-- What a count of faults says where one was counted.
use Rattle.std.proofs.Common.{◌≡◌, ℕ, ◌-◌, ◌<◌, ◌≤◌, ◌^◌, inl, inr, arith}
use Rattle.host_io.specs.Faults.{CountsFault}

pub at_least : (before after : ℕ) → CountsFault before after → before ≤ after
at_least before after (inl rose) = omega arith
at_least before after (inr full) = omega arith

-- none was where it stands still below its end
pub no_fault : (before after : ℕ) → after ≡ before → before < 2 ^ 64 - 1 → CountsFault before after → ⊥
no_fault before after same below (inl rose) = omega (arith, same, rose)
no_fault before after same below (inr full) = omega (arith, below, full.1)
