use Rattle.std.{proofs.Common.{◌≡◌, true, Some, refl, sym, ap, ◌∙◌, zero-add, slice_get}, specs.{BTreeSet.insert_key, Ordering.nat_cmp}}
use Rattle.code_visits.{specs.{Waiting.{node_is, waiting_numbers}, declared.nodes.StoredNode.StoredNode}, proofs.WaitingLaws.{numbers_more, at_stored, set_stored}}
use Rattle.code_visits.proofs.nodes.Nodes.enter.Goals as goal

pub invariant_of-self-2 : goal.invariant_of-self-2
invariant_of-self-2 g c =
    let at : slice_get c.args.self.now c.args.i ≡ Some (node_is c.index_mut.result.now) = at_stored c.self.inside.nodes.items c.args.self.now c.args.i c.index_mut.result.now c.self.view_is c.requires c.index_mut.ensures.value in
    let other = record c.index_mut.result.now { frame = Some c.args.f; waits = true } in
    c.in_ok-insert.ensures.keys ∙ ap (λ keys. insert_key nat_cmp keys c.args.i) (c.self.invariant ∙ ap (λ nodes. waiting_numbers 0 nodes) c.self.view_is)
    ∙ ap (λ n. insert_key nat_cmp (waiting_numbers 0 c.args.self.now) n) (sym (zero-add c.args.i))
    ∙ numbers_more 0 c.args.self.now c.args.i (node_is c.index_mut.result.now) (node_is other) at refl
    ∙ ap (λ nodes. waiting_numbers 0 nodes) (sym (set_stored c.self.inside.nodes.items c.args.self.now c.args.i other c.self.view_is))

pub returns : goal.returns
returns g c = set_stored c.self.inside.nodes.items c.args.self.now c.args.i (record c.index_mut.result.now { frame = Some c.args.f; waits = true }) c.self.view_is
