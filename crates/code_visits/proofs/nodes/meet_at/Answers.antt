use Rattle.std.proofs.{Common.{◌≡◌, ℕ, List, Option, Some, refl, sym, subst, ap, ◌∙◌, slice_get, slice_set}, lemmas.Result.on_ok_weaker}
use Rattle.checked_program.specs.Visits.{Meeting, PlanNode}
use Rattle.code_visits.specs.{Level.IsAsWide, Waiting.{plan_node_at, node_is, waiting_numbers, met}, declared.nodes.StoredNode.StoredNode}
use Rattle.code_visits.proofs.WaitingLaws.{node_at_get, numbers_same, at_stored, set_stored}
use Rattle.code_visits.proofs.nodes.meet_at.Goals as goal

met_node : {A : Type 0} (d : Meeting A) (nodes : List (PlanNode A)) (i : ℕ) (x : StoredNode A) (frame : Option A) (f : A) → slice_get nodes i ≡ Some (node_is x) → frame ≡ Some (met d x.frame f)
    → slice_set nodes i (record { frame = frame; waits = x.waits }) ≡ slice_set nodes i (record { frame = Some (met d (plan_node_at nodes i).frame f); waits = (plan_node_at nodes i).waits })
met_node d nodes i x frame f at e = rw (node_at_get nodes i (node_is x) at, e) refl

pub bring_frame-requires : goal.bring_frame-requires
bring_frame-requires g c =
    let at : slice_get c.args.nodes.now c.args.i ≡ Some (node_is c.index_mut.result.now) = at_stored c.nodes.inside.nodes.items c.args.nodes.now c.args.i c.index_mut.result.now c.nodes.view_is c.requires.inside c.index_mut.ensures.value in
    subst (λ node. IsAsWide g.D.Frames.meeting g.D.Frames.width node.frame c.args.f.now) (node_at_get c.args.nodes.now c.args.i (node_is c.index_mut.result.now) at) c.requires.fits

pub invariant_of-nodes : goal.invariant_of-nodes
invariant_of-nodes g c =
    let at : slice_get c.args.nodes.now c.args.i ≡ Some (node_is c.index_mut.result.now) = at_stored c.nodes.inside.nodes.items c.args.nodes.now c.args.i c.index_mut.result.now c.nodes.view_is c.requires.inside c.index_mut.ensures.value in
    let other = record c.index_mut.result.now { frame = c.bring_frame.new.frame } in
    c.nodes.invariant ∙ ap (λ nodes. waiting_numbers 0 nodes) c.nodes.view_is ∙ sym (numbers_same 0 c.args.nodes.now c.args.i (node_is c.index_mut.result.now) (node_is other) at refl)
    ∙ ap (λ nodes. waiting_numbers 0 nodes) (sym (set_stored c.nodes.inside.nodes.items c.args.nodes.now c.args.i other c.nodes.view_is))

pub returns-clause-met : goal.returns-clause-met
returns-clause-met g c =
    let at : slice_get c.args.nodes.now c.args.i ≡ Some (node_is c.index_mut.result.now) = at_stored c.nodes.inside.nodes.items c.args.nodes.now c.args.i c.index_mut.result.now c.nodes.view_is c.requires.inside c.index_mut.ensures.value in
    let other = record c.index_mut.result.now { frame = c.bring_frame.new.frame } in
    on_ok_weaker c.bring_frame.result (λ e. set_stored c.nodes.inside.nodes.items c.args.nodes.now c.args.i other c.nodes.view_is
    ∙ met_node g.D.Frames.meeting c.args.nodes.now c.args.i c.index_mut.result.now c.bring_frame.new.frame c.args.f.now at e) c.bring_frame.ensures.frame

pub returns-clause-changed : goal.returns-clause-changed
returns-clause-changed g c =
    let at : slice_get c.args.nodes.now c.args.i ≡ Some (node_is c.index_mut.result.now) = at_stored c.nodes.inside.nodes.items c.args.nodes.now c.args.i c.index_mut.result.now c.nodes.view_is c.requires.inside c.index_mut.ensures.value in
    rw (node_at_get c.args.nodes.now c.args.i (node_is c.index_mut.result.now) at) c.bring_frame.ensures.changed
