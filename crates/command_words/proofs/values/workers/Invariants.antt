use Rattle.std.proofs.Common.{◌≡◌, ◌++◌, ◌-◌, ℕ, drop, map}
use Rattle.command_words.proofs.values.workers.Given as goal

-- the workers so far, and those of the digits that are left, are all
abbrev pub invariant-loop-digit : goal.invariant-loop-digit
invariant-loop-digit l = l.order ++ map (λ (c : ℕ). c - 48) (drop l.digit-index l.digits) ≡ map (λ (c : ℕ). c - 48) l.digits
