use Rattle.std.proofs.Common.{◌++◌, ◌∷◌, [], ◌/◌, ◌%◌, ℕ, List, ap, append_assoc, sym, ◌∙◌}
use Rattle.load_classes.{specs.LoadClass.{factors, next_number}, proofs.RangeLaws.one_less}
use Rattle.load_classes.proofs.factors.factors.Goals as goal

pub loop-preserved : goal.loop-preserved
loop-preserved c =
    let step = ap (λ (n : ℕ). c.loop.made.items ++ factors c.loop.x n) (one_less c.args.size c.loop.counter c.loop-test.true) in
    rw (c.in_ok-push.ensures.items, c.factor.ensures, c.next_number-x.ensures)
    (append_assoc c.loop.made.items _ _ ∙ sym step ∙ c.loop.invariant)
