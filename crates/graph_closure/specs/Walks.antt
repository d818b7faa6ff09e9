-- Walks along the edges of a graph.
use Rattle.std.specs.Prelude.{◌≡◌, ℕ, ◌<◌, ◌≤◌, Bool, true, false, List, [], ◌∷◌, length}
use Rattle.std.specs.Prelude.{slice_index, slice_index_or, ◌↔◌}
use Rattle.graph_closure.specs.LeastSet.{chosen, IsSpread, IsGraph}

abbrev pub IsEdge : List ℕ → List ℕ → ℕ → ℕ → Type 0
IsEdge from to a b = (e : ℕ) × (e < length from) × (slice_index from e ≡ a) × (slice_index to e ≡ b)

-- the nodes after the first, in order
abbrev pub Walks : List ℕ → List ℕ → ℕ → List ℕ → ℕ → Type 0
Walks from to a [] b = a ≡ b
Walks from to a (n ∷ ns) b = IsEdge from to a n × Walks from to n ns b

-- some edges lead from a to b, or a is b
abbrev pub Leads : List ℕ → List ℕ → ℕ → ℕ → Type 0
Leads from to a b = (ns : List ℕ) × Walks from to a ns b

-- at least one edge
abbrev pub LeadsOn : List ℕ → List ℕ → ℕ → ℕ → Type 0
LeadsOn from to a b = (n : ℕ) × IsEdge from to a n × Leads from to n b

-- a leads to a node that leads back to itself
abbrev pub Recurs : List ℕ → List ℕ → ℕ → Type 0
Recurs from to a = (u : ℕ) × Leads from to a u × LeadsOn from to u u

-- each node needs one edge, but those of a set need none: then the nodes that lead into the set are
-- found
abbrev pub FindsLeading : Type 0
FindsLeading =
    (from to start need : List ℕ) → IsGraph (length start) from to → IsSpread from to start need
    → ((a : ℕ) → slice_index start a ≤ 1) → (a : ℕ) → a < length start
    → (slice_index need a ≡ 0)
    ↔ ((b : ℕ) × (b < length start) × Leads from to a b × (slice_index start b ≡ 0))

-- each node needs all its edges: then the nodes are found that do not lead to one that leads back
-- to itself
abbrev pub FindsRecurring : Type 0
FindsRecurring =
    (from to start need : List ℕ) → IsGraph (length start) from to → IsSpread from to start need
    → ((a : ℕ) → a < length start → slice_index start a ≡ chosen from (λ e. true) a (length from))
    → (a : ℕ) → a < length start
    → ((slice_index need a ≡ 0) → Recurs from to a → ⊥)
    × ((slice_index need a ≡ 0 → ⊥) → Recurs from to a)

-- of each node, whether it leads into a set of nodes
pub record AreLeading (from to : List ℕ) (into leads : List Bool) : Type 0 where
  pub long : length leads ≡ length into
  pub each : (a : ℕ) → a < length into
      → (slice_index_or leads a false ≡ true)
      ↔ ((b : ℕ) × (b < length into) × Leads from to a b × (slice_index_or into b false ≡ true))

-- of each of n nodes, whether it leads to one that leads back to itself
pub record AreRecurring (from to : List ℕ) (n : ℕ) (recurs : List Bool) : Type 0 where
  pub long : length recurs ≡ n
  pub each : (a : ℕ) → a < n → (slice_index_or recurs a false ≡ true) ↔ Recurs from to a

-- how many edges leave each of n nodes
pub record AreDegrees (from : List ℕ) (n : ℕ) (degrees : List ℕ) : Type 0 where
  pub long : length degrees ≡ n
  pub each : (a : ℕ) → a < n → slice_index degrees a ≡ chosen from (λ e. true) a (length from)

abbrev pub need_unless : Bool → ℕ
need_unless true = 0
need_unless false = 1
