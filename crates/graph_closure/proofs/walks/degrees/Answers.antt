use Rattle.std.proofs.{Common.{◌≡◌, ◌<◌, true, length, arith, slice_index}, lemmas.Grind.get_or_default_zero}
use Rattle.graph_closure.{specs.LeastSet.chosen, proofs.WalkLaws.chosen_few}
use Rattle.graph_closure.proofs.walks.degrees.Goals as goal

pub overflow_add-index_mut : goal.overflow_add-index_mut
overflow_add-index_mut c =
    let inside : slice_index c.args.from.now c.loop-e.e < c.args.nodes = c.requires.starts c.loop-e.e (c.loop-e-test.true) in
    let is : slice_index c.loop-e.counts.items (slice_index c.args.from.now c.loop-e.e) ≡ chosen c.args.from.now (λ k. true) (slice_index c.args.from.now c.loop-e.e) c.loop-e.e = c.loop-e.invariant.each (slice_index c.args.from.now c.loop-e.e) inside in
    let few = chosen_few c.args.from.now (slice_index c.args.from.now c.loop-e.e) c.loop-e.e in
    let low : slice_index c.args.from.now c.loop-e.e < length c.loop-e.counts.items = omega (arith, inside, c.loop-e.invariant.long) in
    let value = get_or_default_zero c.loop-e.counts.items (slice_index c.args.from.now c.loop-e.e) c.index_mut.result.now low in
    omega (arith, c.index_mut.ensures.value, value, is, few, c.requires.few, c.loop-e-test.true)
