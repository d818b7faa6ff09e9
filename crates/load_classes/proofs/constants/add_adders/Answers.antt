use Rattle.std.{proofs.Common.{◌++◌, ℕ, List, ap, append_assoc, sym, ◌∙◌}, specs.List.flat_map}
use Rattle.load_classes.{specs.LoadClass.adder_constants, proofs.RangeLaws.range_step}
use Rattle.load_classes.proofs.constants.add_adders.Goals as goal

pub loop-k-preserved : goal.loop-k-preserved
loop-k-preserved c =
    let step = ap (λ (ns : List ℕ). c.loop-k.pool ++ flat_map adder_constants ns) (range_step c.args.size c.loop-k.k c.loop-k-test.true) in
    rw c.in_ok-add_adder.ensures (append_assoc c.loop-k.pool _ _ ∙ sym step ∙ c.loop-k.invariant)
