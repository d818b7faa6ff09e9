-- The least set of nodes that is closed under a rule on a graph: a node is in it where as many of
-- its edges as it needs lead into the set. The edge of number e goes from (from e) to (to e).
use Rattle.std.specs.Prelude.{◌≡◌, ℕ, zero, suc, ◌+◌, ◌-◌, ◌<◌, ◌≤◌, ◌==◌, Bool, true, false, ◌&&◌}
use Rattle.std.specs.Prelude.{List, length, slice_index, ◌↔◌}

abbrev pub one_if : Bool → ℕ
one_if true = 1
one_if false = 0

-- how many of the first m edges leave a and are chosen
abbrev pub chosen : List ℕ → (ℕ → Bool) → ℕ → ℕ → ℕ
chosen from h a zero = 0
chosen from h a (suc k) = chosen from h a k + one_if ((slice_index from k == a) && h k)

-- a is in every set that is closed: there is a choice of edges into the set, and as many of them
-- leave a as a needs
pub data Settles (from to start : List ℕ) : ℕ → Type 0 where
  settle : (a : ℕ) (h : ℕ → Bool)
      → ((e : ℕ) → e < length from → h e ≡ true → Settles from to start (slice_index to e))
      → slice_index start a ≤ chosen from h a (length from) → Settles from to start a

-- what is left of each node's need: none exactly where it is in the set
pub record IsSpread (from to start need : List ℕ) : Type 0 where
  pub long : length need ≡ length start
  pub left : (a : ℕ)
      → slice_index need a
      ≡ slice_index start a
      - chosen from (λ e. slice_index need (slice_index to e) == 0) a (length from)
  pub exact : (a : ℕ) → a < length start → (slice_index need a ≡ 0) ↔ Settles from to start a

-- a graph of n nodes
pub record IsGraph (n : ℕ) (from to : List ℕ) : Type 0 where
  pub alike : length from ≡ length to
  pub few : length from < 4294967295
  pub starts : (e : ℕ) → e < length from → slice_index from e < n
  pub ends : (e : ℕ) → e < length from → slice_index to e < n
