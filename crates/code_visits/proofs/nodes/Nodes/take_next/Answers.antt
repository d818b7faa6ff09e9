use Rattle.std.proofs.{Common.{◌≡◌, ℕ, false, List, ◌∷◌, length, map, Some, refl, sym, ap, ◌∙◌, arith, slice_get, slice_set}, lemmas.List.length-map}
use Rattle.checked_program.specs.Visits.{PlanNode}
use Rattle.code_visits.specs.{Waiting.{plan_node_at, node_is, waiting_numbers}, declared.nodes.StoredNode.StoredNode}
use Rattle.code_visits.proofs.WaitingLaws.{none_left, none_waits, NextWaits, next_waits, node_at_get, at_stored, set_stored}
use Rattle.code_visits.proofs.nodes.Nodes.take_next.Goals as goal

-- what the numbers that wait say of the next visit
next : {A : Type 0} (items : List (StoredNode A)) (nodes : List (PlanNode A)) (keys rest : List ℕ) (i : ℕ) → map node_is items ≡ nodes → keys ≡ waiting_numbers 0 (map node_is items) → keys ≡ i ∷ rest → NextWaits nodes i rest
next items nodes keys rest i v w e = next_waits nodes i rest (ap (λ l. waiting_numbers 0 l) (sym v) ∙ sym w ∙ e)

same_count : {A : Type 0} (items : List (StoredNode A)) (nodes : List (PlanNode A)) → map node_is items ≡ nodes → length items ≡ length nodes
same_count items nodes v = sym (length-map items node_is) ∙ ap length v

taken_node : {A : Type 0} (nodes : List (PlanNode A)) (i : ℕ) (x : StoredNode A) → slice_get nodes i ≡ Some (node_is x)
    → slice_set nodes i (record { frame = x.frame; waits = false }) ≡ slice_set nodes i (record { frame = (plan_node_at nodes i).frame; waits = false })
taken_node nodes i x at = rw (node_at_get nodes i (node_is x) at) refl

pub returns-in_err-i-clause-next : goal.returns-in_err-i-clause-next
returns-in_err-i-clause-next g c = c.from_residual.ensures ∙ sym (none_waits 0 c.args.self.now
    (ap (λ nodes. waiting_numbers 0 nodes) (sym c.self.view_is) ∙ sym c.self.invariant ∙ none_left c.self.inside.waiting.keys c.in_err-i.ensures.variant.1))

pub index_mut-requires : goal.index_mut-requires
index_mut-requires g c =
    let n = next c.self.inside.nodes.items c.args.self.now c.self.inside.waiting.keys c.pop_first.new.self.keys c.in_ok-i.i c.self.view_is c.self.invariant c.in_ok-i.ensures.removal in
    omega (arith, n.inside, same_count c.self.inside.nodes.items c.args.self.now c.self.view_is, c.self.inside.nodes.ok)

pub invariant_of-self-2 : goal.invariant_of-self-2
invariant_of-self-2 g c =
    let n = next c.self.inside.nodes.items c.args.self.now c.self.inside.waiting.keys c.pop_first.new.self.keys c.in_ok-i.i c.self.view_is c.self.invariant c.in_ok-i.ensures.removal in
    let other = record c.index_mut.result.now { waits = false } in
    n.others (node_is other) refl ∙ ap (λ nodes. waiting_numbers 0 nodes) (sym (set_stored c.self.inside.nodes.items c.args.self.now c.in_ok-i.i other c.self.view_is))

pub returns-clause-next : goal.returns-clause-next
returns-clause-next g c = sym (next c.self.inside.nodes.items c.args.self.now c.self.inside.waiting.keys c.pop_first.new.self.keys c.in_ok-i.i c.self.view_is c.self.invariant c.in_ok-i.ensures.removal).first

pub returns-clause-inside : goal.returns-clause-inside
returns-clause-inside g c = (next c.self.inside.nodes.items c.args.self.now c.self.inside.waiting.keys c.pop_first.new.self.keys c.in_ok-i.i c.self.view_is c.self.invariant c.in_ok-i.ensures.removal).inside

pub returns-clause-some : goal.returns-clause-some
returns-clause-some g c =
    let n = next c.self.inside.nodes.items c.args.self.now c.self.inside.waiting.keys c.pop_first.new.self.keys c.in_ok-i.i c.self.view_is c.self.invariant c.in_ok-i.ensures.removal in
    let at : slice_get c.args.self.now c.in_ok-i.i ≡ Some (node_is c.index_mut.result.now) = at_stored c.self.inside.nodes.items c.args.self.now c.in_ok-i.i c.index_mut.result.now c.self.view_is n.inside c.index_mut.ensures.value in
    set_stored c.self.inside.nodes.items c.args.self.now c.in_ok-i.i (record c.index_mut.result.now { waits = false }) c.self.view_is ∙ taken_node c.args.self.now c.in_ok-i.i c.index_mut.result.now at
