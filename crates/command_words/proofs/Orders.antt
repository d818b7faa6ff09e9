-- Orders.
use Rattle.std.proofs.{Common.{◌≡◌, ℕ, ◌≤◌, Bool, ◌&&◌, refl, nat_lt, nat_le}, lemmas.Bool.{lt-ltb, le-leb}}
use Rattle.command_words.specs.declared.values.TheConstants.{LONGEST_ORDER}

-- of a length that an order may have, the digits decide
pub in_range : (n : ℕ) (b : Bool) → 1 ≤ n → n ≤ LONGEST_ORDER → (nat_lt 0 n && nat_le n LONGEST_ORDER && b) ≡ b
in_range n b some few = rw (lt-ltb 0 n some, le-leb n 100000 few) refl
