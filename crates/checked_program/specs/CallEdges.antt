-- Graphs of calls, one edge after the other.
use Rattle.std.specs.Prelude.{ℕ, [], ◌∷◌, ◌++◌, Option, Some, None}
use Rattle.checked_program.specs.declared.call_edges.Graph.{Graph}

abbrev pub no_edges : Graph
no_edges = record { from = []; to = [] }

abbrev pub with_edge : ℕ → Graph → Option ℕ → Graph
with_edge a g None = g
with_edge a g (Some b) = record { from = g.from ++ a ∷ []; to = g.to ++ b ∷ [] }
