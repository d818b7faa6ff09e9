use Rattle.std.proofs.{Common.{◌≡◌, ◌<◌, ℕ, Bool, true, false, not, List, length, Option, Some, None, refl, sym, ap, ◌∙◌, ◌||◌, slice_get, slice_set}, lemmas.{Bool.or_right, List.set-set}}
use Rattle.checked_program.specs.Visits.{Meeting, PlanNode, joined}
use Rattle.code_visits.{specs.Waiting.{plan_node_at, met, changes}, proofs.WaitingLaws.{node_at_get, set_here}}
use Rattle.code_visits.proofs.meeting.join_at.Goals as goal

or_false : (a b : Bool) → b ≡ false → (a || b) ≡ a
or_false true b e = refl
or_false false b e = e

-- what an edge does, by whether it changes the frame
changed_node : {A : Type 0} (d : Meeting A) (node : PlanNode A) (frame : Option A) (f : A) → changes d frame f ≡ true → joined d node.waits frame f ≡ record { frame = Some (met d frame f); waits = true }
changed_node d node None f e = refl
changed_node d node (Some g) f e = ap (λ (w : Bool). record { frame = Some (d.meet g f); waits = w }) (or_right node.waits (not (d.same g (d.meet g f))) e)

same_node : {A : Type 0} (d : Meeting A) (node : PlanNode A) (frame : Option A) (f : A) → changes d frame f ≡ false → joined d node.waits frame f ≡ record { frame = Some (met d frame f); waits = node.waits }
same_node d node None f e = absurd (cc)
same_node d node (Some g) f e = ap (λ (w : Bool). record { frame = Some (d.meet g f); waits = w }) (or_false node.waits (not (d.same g (d.meet g f))) e)

brought_changed : {A : Type 0} (d : Meeting A) (nodes mid last : List (PlanNode A)) (i : ℕ) (f : A) → i < length nodes
    → mid ≡ slice_set nodes i (record { frame = Some (met d (plan_node_at nodes i).frame f); waits = (plan_node_at nodes i).waits })
    → last ≡ slice_set mid i (record { frame = (plan_node_at mid i).frame; waits = true })
    → changes d (plan_node_at nodes i).frame f ≡ true → last ≡ slice_set nodes i (joined d (plan_node_at nodes i).waits (plan_node_at nodes i).frame f)
brought_changed {A = A} d nodes mid last i f h a b e =
    let there_met : PlanNode A = record { frame = Some (met d (plan_node_at nodes i).frame f); waits = (plan_node_at nodes i).waits } in
    let there : plan_node_at mid i ≡ there_met = node_at_get mid i there_met (ap (λ l. slice_get l i) a ∙ set_here nodes i there_met h) in
    b ∙ ap (λ (node : PlanNode A). slice_set mid i (record { frame = node.frame; waits = true })) there ∙ ap (λ l. slice_set l i (record { frame = there_met.frame; waits = true })) a
    ∙ set-set nodes i there_met (record { frame = there_met.frame; waits = true }) ∙ ap (λ node. slice_set nodes i node) (sym (changed_node d (plan_node_at nodes i) (plan_node_at nodes i).frame f e))

pub returns-in_ok-wait : goal.returns-in_ok-wait
returns-in_ok-wait g c = brought_changed g.D.Frames.meeting c.args.nodes.now c.meet_at.new.nodes c.wait.new.self c.args.i c.args.f.now c.requires.inside c.in_ok-meet_at.ensures.met c.in_ok-wait.ensures (sym c.in_ok-meet_at.ensures.changed ∙ c.if-branch.true)

pub returns-else-branch : goal.returns-else-branch
returns-else-branch g c = c.in_ok-meet_at.ensures.met ∙ ap (λ node. slice_set c.args.nodes.now c.args.i node)
    (sym (same_node g.D.Frames.meeting (plan_node_at c.args.nodes.now c.args.i) (plan_node_at c.args.nodes.now c.args.i).frame c.args.f.now (sym c.in_ok-meet_at.ensures.changed ∙ c.if-branch.false)))
