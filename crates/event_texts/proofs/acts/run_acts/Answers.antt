use Rattle.std.proofs.Common.{◌<◌, ℕ, sym, subst}
use Rattle.event_texts.{specs.Acts.DoingFits, proofs.DoingActs.doing_fits}
use Rattle.event_texts.proofs.acts.run_acts.Goals as goal

pub doing_acts-requires : goal.doing_acts-requires
doing_acts-requires c =
    let few = subst (λ (n : ℕ). n < 4294967296) c.heap-heap.ensures.heap c.heap-heap.type_inv in
    subst DoingFits (sym c.next_doing.ensures) (doing_fits c.effects_are_allowed.ensures c.args.p.now c.args.s.now c.workers-workers.ensures.marked few c.requires.lawful c.requires.phase)
