use Rattle.std.{proofs.Common.{◌++◌, ℕ, List, ap, append_assoc, sym, ◌∙◌}, specs.List.flat_map}
use Rattle.load_classes.{specs.LoadClass.call_bytes, proofs.RangeLaws.range_step}
use Rattle.load_classes.proofs.methods.run_bytes.Goals as goal

pub loop-k-preserved : goal.loop-k-preserved
loop-k-preserved c =
    let step = ap (λ (ns : List ℕ). c.loop-k.bytes ++ flat_map call_bytes ns) (range_step c.args.size c.loop-k.k c.loop-k-test.true) in
    rw c.in_ok-push_call.ensures (append_assoc c.loop-k.bytes _ _ ∙ sym step ∙ c.loop-k.invariant)
