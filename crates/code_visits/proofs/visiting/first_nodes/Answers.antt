use Rattle.std.proofs.Common.{◌≡◌, ◌<◌, true, false, List, [], ◌∷◌, length, replicate, refl, ap, ◌∙◌, arith, slice_set}
use Rattle.jvm_types.specs.declared.code.Insn.{Insn}
use Rattle.checked_program.specs.Visits.{unreached, joined}
use Rattle.code_visits.{specs.Waiting.plan_node_at, proofs.FirstNodes.{first_empty, first_entered}}
use Rattle.code_visits.proofs.visiting.first_nodes.Goals as goal

some_code : (code : List Insn) → (code ≡ [] → false ≡ true) → 0 < length code
some_code [] h = let wrong : false ≡ true = h refl in absurd (cc)
some_code (insn ∷ insns) h = omega arith

pub returns : goal.returns
returns g c = first_entered g.D.Frames.meeting (g.D.Analysis.first c.args.m.now) c.args.m.now.code c.in_ok-nodes.nodes c.bring_last_to.new.nodes (some_code c.args.m.now.code c.if-is_empty.ensures.1)
    (c.in_ok-nodes.ensures ∙ ap (λ n. replicate n unreached) c.len.ensures)
    (c.in_ok-bring_last_to.ensures ∙ ap (λ f. slice_set c.in_ok-nodes.nodes 0 (joined g.D.Frames.meeting (plan_node_at c.in_ok-nodes.nodes 0).waits (plan_node_at c.in_ok-nodes.nodes 0).frame f)) c.in_ok-first.ensures)
