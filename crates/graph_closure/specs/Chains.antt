-- The course of the computation of a least closed set: edges chained by their targets, and what is
-- counted so far.
use Rattle.std.specs.Prelude.{◌≡◌, ℕ, zero, suc, ◌+◌, ◌-◌, ◌<◌, ◌*◌, ◌==◌, nat_lt, Bool, true}
use Rattle.std.specs.Prelude.{false, not, ◌&&◌, if◌then◌else◌, List, [], ◌∷◌, ◌++◌, length}
use Rattle.std.specs.Prelude.{slice_index, ◌⊎◌, slice_index_or}
use Rattle.std.specs.List.{count_by}
use Rattle.graph_closure.specs.LeastSet.{chosen, Settles}

-- one more than the number of the last edge of the first k that goes to b; 0 where there is none
abbrev pub latest : List ℕ → ℕ → ℕ → ℕ
latest to b zero = 0
latest to b (suc k) = if slice_index to k == b then suc k else latest to b k

-- what the chains say
pub record IsChained (n : ℕ) (to lasts befores : List ℕ) : Type 0 where
  pub lasts_long : length lasts ≡ n
  pub befores_long : length befores ≡ length to
  pub last : (b : ℕ) → b < n → slice_index lasts b ≡ latest to b (length to)
  pub before : (e : ℕ) → e < length to → slice_index befores e ≡ latest to (slice_index to e) e

abbrev pub IsIn : ℕ → List ℕ → Type 0
IsIn a [] = ⊥
IsIn a (x ∷ xs) = (x ≡ a) ⊎ IsIn a xs

-- an edge was counted: its target is done, and where it is the one that is worked at, it is one of
-- those from `at` on
abbrev pub is_edge_counted : List ℕ → List Bool → ℕ → ℕ → ℕ → Bool
is_edge_counted to done b at e =
    slice_index_or done (slice_index to e) false && not ((slice_index to e == b) && nat_lt e at)

pub record Going (from to start need work : List ℕ) (done : List Bool) (b at : ℕ) : Type 0 where
  pub long : length need ≡ length start
  pub all : length done ≡ length start
  pub left : (a : ℕ)
      → slice_index need a
      ≡ slice_index start a - chosen from (is_edge_counted to done b at) a (length from)
  pub past : (a : ℕ) → slice_index_or done a false ≡ true → slice_index need a ≡ 0
  pub waits : (a : ℕ) → a < length start → slice_index need a ≡ 0
      → (slice_index_or done a false ≡ true) ⊎ IsIn a work
  pub within : (a : ℕ) → IsIn a work → (a < length start) × (slice_index need a ≡ 0)
  pub derived : (a : ℕ) → a < length start → slice_index need a ≡ 0 → Settles from to start a

-- what is left to do
abbrev pub weight : List ℕ → List ℕ → ℕ
weight work need = length work + 2 * count_by (λ n. nat_lt 0 n) need

-- of the first numbers those that are 0
abbrev pub zeros : List ℕ → ℕ → List ℕ
zeros need zero = []
zeros need (suc a) = if slice_index need a == 0 then zeros need a ++ a ∷ [] else zeros need a
