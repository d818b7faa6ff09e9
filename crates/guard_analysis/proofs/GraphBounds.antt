-- The graph of calls is one of few edges.
use Rattle.std.{proofs.Common.{◌≡◌, ℕ, zero, suc, ◌+◌, ◌*◌, ◌/◌, ◌<◌, ◌≤◌, List, [], ◌∷◌, length, Option, Some, refl, subst, ◌∙◌, arith, slice_get, slice_index}, specs.List.sum_by}
use Rattle.std.proofs.lemmas.List.Sums.{sum_by-cons}
use Rattle.jvm_types.specs.{ProgramInvariant.IsProgram, declared.program.{MethodInfo.MethodInfo, Program.Program}}
use Rattle.graph_closure.specs.LeastSet.{IsGraph}
use Rattle.checked_program.{specs.{LockTags.TagShape, Reach.size_of, declared.{call_edges.Graph.Graph, tag.Tags.Tags}}, proofs.EdgesAdded.with_few}
use Rattle.guard_analysis.{specs.CallGraph.{edges_before, node_edges, graph_before, call_graph}, proofs.{CallEdges.{call_parts, node_parts, node_low}, GraphEdges.{graph_alike, graph_old, the_call}}}

edges_few : (p : Program) (m : MethodInfo) (frames : List (Option TagShape)) (a : ℕ) (g : Graph) (i : ℕ) → length (edges_before p m frames a g i).from ≤ length g.from + i
edges_few p m frames a g zero = omega arith
edges_few p m frames a g (suc i) = omega (arith, with_few a (edges_before p m frames a g i) (the_call p m frames a i), edges_few p m frames a g i)

node_few : (p : Program) (om : Option MethodInfo) (ot : Option Tags) (a : ℕ) (g : Graph) → length (node_edges p om ot a g).from ≤ length g.from + size_of om
node_few p (Some m) (Some t) a g = edges_few p m t.frames a g (length m.code)
node_few p om ot a g = omega arith

-- ---- all instructions, each counted for the three modes

sizes : List MethodInfo → ℕ → ℕ
sizes ms zero = 0
sizes ms (suc a) = sizes ms a + size_of (slice_get ms (a / 3))

graph_few : (p : Program) (tags : List Tags) (n : ℕ) → length (graph_before p tags n).from ≤ sizes p.methods n
unfolding sizes
graph_few p tags zero = omega arith
graph_few p tags (suc a) = omega (arith, node_few p (slice_get p.methods (a / 3)) (slice_get tags (a / 3)) a (graph_before p tags a), graph_few p tags a)

sizes_behind : (m : MethodInfo) (ms : List MethodInfo) (k : ℕ) → sizes (m ∷ ms) (suc (suc (suc k))) ≡ 3 * length m.code + sizes ms k
unfolding sizes
sizes_behind m ms zero = omega arith
sizes_behind m ms (suc k) =
    let third : suc (suc (suc k)) / 3 ≡ suc (k / 3) = omega arith in
    let more : sizes (m ∷ ms) (suc (suc (suc k))) ≡ 3 * length m.code + sizes ms k = sizes_behind m ms k in
    rw third (omega (arith, more))

sizes_all : (ms : List MethodInfo) → sizes ms (3 * length ms) ≡ 3 * sum_by (λ m. length m.code) ms
unfolding sizes
sizes_all [] = refl
sizes_all (m ∷ ms) =
    let three : 3 * length (m ∷ ms) ≡ suc (suc (suc (3 * length ms))) = omega arith in
    let more : sizes ms (3 * length ms) ≡ 3 * sum_by (λ m. length m.code) ms = sizes_all ms in
    let sum : sum_by (λ m. length m.code) (m ∷ ms) ≡ length m.code + sum_by (λ m. length m.code) ms = sum_by-cons (λ m. length m.code) m ms in
    rw three (sizes_behind m ms (3 * length ms) ∙ omega (arith, more, sum))

pub is_graph : (p : Program) (tags : List Tags) → IsProgram p → IsGraph (3 * length p.methods) (call_graph p tags).from (call_graph p tags).to
is_graph p tags is = record {
  alike = graph_alike p tags (3 * length p.methods);
  few = let size : sum_by (λ m. length m.code) p.methods ≤ 67108864 = is.size in omega (arith, graph_few p tags (3 * length p.methods), sizes_all p.methods, size);
  starts = λ e l. (graph_old p tags (3 * length p.methods) (slice_index (call_graph p tags).from e) (slice_index (call_graph p tags).to e) (e, l, refl, refl)).0;
  ends = λ e l.
      let c = (graph_old p tags (3 * length p.methods) (slice_index (call_graph p tags).from e) (slice_index (call_graph p tags).to e) (e, l, refl, refl)).1 in
      let parts = call_parts p _ _ _ _ _ c.call in
      let named = node_parts (length p.methods) _ _ _ parts.call in
      subst (λ y. y < 3 * length p.methods) named.3 (node_low (length p.methods) named.0 _ named.2);
}
