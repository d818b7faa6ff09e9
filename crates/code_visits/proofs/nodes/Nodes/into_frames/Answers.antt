use Rattle.std.proofs.Common.{◌≡◌, List, [], ◌∷◌, map, refl, ap, ◌∙◌}
use Rattle.checked_program.specs.Visits.{PlanNode}
use Rattle.code_visits.specs.{Waiting.node_is, declared.nodes.StoredNode.StoredNode}
use Rattle.code_visits.proofs.nodes.Nodes.into_frames.Goals as goal

frames_stored : {A : Type 0} (items : List (StoredNode A)) (nodes : List (PlanNode A)) → map node_is items ≡ nodes → map (λ node. node.frame) items ≡ map (λ node. node.frame) nodes
frames_stored {A = A} items nodes e = both items ∙ ap (λ l. map (λ node. node.frame) l) e
  where
    both : (items : List (StoredNode A)) → map (λ node. node.frame) items ≡ map (λ node. node.frame) (map node_is items)
    both [] = refl
    both (x ∷ xs) = ap (λ l. x.frame ∷ l) (both xs)

pub loop-node-init : goal.loop-node-init
loop-node-init g c = rw (c.from_vec-frames.ensures, c.in_ok-with_capacity.ensures.items, c.into_iter-node-iterator.ensures.into_iter_gives.0) (frames_stored c.self.inside.nodes.items c.args.self c.self.view_is)
