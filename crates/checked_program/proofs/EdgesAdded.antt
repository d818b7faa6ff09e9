-- One edge more of a graph of calls.
use Rattle.std.proofs.{Common.{◌≡◌, ℕ, ◌+◌, ◌<◌, ◌≤◌, ◌≢◌, List, [], ◌∷◌, ◌++◌, length, Option, Some, None, refl, sym, ap, ◌∙◌, arith, ⊎_elim, inl, inr, ◌⊎◌}, lemmas.Bool.cases_eq}
use Rattle.std.proofs.lemmas.List.{length-append, get_or_append_left, get_or_push}
use Rattle.graph_closure.specs.Walks.{IsEdge}
use Rattle.checked_program.specs.{CallEdges.with_edge, declared.call_edges.Graph.Graph}

module _ (from to : List ℕ) (alike : length from ≡ length to) (a b : ℕ) where
  edge_kept : (x y : ℕ) → IsEdge from to x y → IsEdge (from ++ a ∷ []) (to ++ b ∷ []) x y
  edge_kept x y e =
      let low : e.0 < length from = e.1 in
      (e.0, rw length-append (omega (arith, low)), get_or_append_left from (a ∷ []) 0 e.0 low ∙ e.2, get_or_append_left to (b ∷ []) 0 e.0 (omega (arith, low, alike)) ∙ e.3)

  edge_added : IsEdge (from ++ a ∷ []) (to ++ b ∷ []) a b
  edge_added = (length from, rw length-append (omega arith), get_or_push from a 0 (length from) refl, get_or_push to b 0 (length from) (sym alike))

  edge_old : (x y : ℕ) → IsEdge (from ++ a ∷ []) (to ++ b ∷ []) x y → IsEdge from to x y ⊎ ((x ≡ a) × (y ≡ b))
  edge_old x y e = ⊎_elim
      (λ (q : e.0 ≡ length from). inr (sym e.2 ∙ get_or_push from a 0 e.0 (sym q), sym e.3 ∙ get_or_push to b 0 e.0 (sym alike ∙ sym q)))
      (λ (q : e.0 ≢ length from).
      let total : length (from ++ a ∷ []) ≡ length from + 1 = length-append from (a ∷ []) in
      let is_low : e.0 < length (from ++ a ∷ []) = e.1 in
      let low : e.0 < length from = omega (arith, is_low, total, q) in
      inl (e.0, low, sym (get_or_append_left from (a ∷ []) 0 e.0 low) ∙ e.2, sym (get_or_append_left to (b ∷ []) 0 e.0 (omega (arith, low, alike))) ∙ e.3))
      (cases_eq e.0 (length from))

abbrev pub IsAlike : Graph → Type 0
IsAlike g = length g.from ≡ length g.to

pub with_alike : (a : ℕ) (g : Graph) (c : Option ℕ) → IsAlike g → IsAlike (with_edge a g c)
with_alike a g None l = l
with_alike a g (Some b) l = length-append g.from (a ∷ []) ∙ ap (λ n. n + 1) l ∙ sym (length-append g.to (b ∷ []))

pub with_kept : (a : ℕ) (g : Graph) (c : Option ℕ) (x y : ℕ) → IsAlike g → IsEdge g.from g.to x y → IsEdge (with_edge a g c).from (with_edge a g c).to x y
with_kept a g None x y l e = e
with_kept a g (Some b) x y l e = edge_kept g.from g.to l a b x y e

pub with_added : (a : ℕ) (g : Graph) (c : Option ℕ) (b : ℕ) → IsAlike g → c ≡ Some b → IsEdge (with_edge a g c).from (with_edge a g c).to a b
with_added a g c b l q = rw q (edge_added g.from g.to l a b)

pub with_old : (a : ℕ) (g : Graph) (c : Option ℕ) (x y : ℕ) → IsAlike g → IsEdge (with_edge a g c).from (with_edge a g c).to x y → IsEdge g.from g.to x y ⊎ ((x ≡ a) × (c ≡ Some y))
with_old a g None x y l e = inl e
with_old a g (Some b) x y l e = ⊎_elim (λ k. inl k) (λ k. inr (k.0, ap Some (sym k.1))) (edge_old g.from g.to l a b x y e)

pub with_few : (a : ℕ) (g : Graph) (c : Option ℕ) → length (with_edge a g c).from ≤ length g.from + 1
with_few a g None = omega arith
with_few a g (Some b) = omega (arith, length-append g.from (a ∷ []))
