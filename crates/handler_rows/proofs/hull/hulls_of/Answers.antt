use Rattle.std.proofs.{Common.{◌∷◌, []}, lemmas.List.{append_assoc, append-nil, drop_all}}
use Rattle.handler_rows.proofs.HullLaws.{hull_before}
use Rattle.handler_rows.proofs.hull.hulls_of.Goals as goal

pub loop-k-preserved : goal.loop-k-preserved
loop-k-preserved c = λ later more. rw (c.in_ok-push.ensures.items, append_assoc)
    (c.loop-k.invariant (c.hull_at.result ∷ later) (hull_before c.args.rows.now c.loop-k.k c.hull_at.result later c.loop-k-test.true c.hull_at.ensures more))

pub returns : goal.returns
returns c = rw (← append-nil c.loop-k.hulls.items) (c.loop-k.invariant [] (rw (drop_all c.loop-k.k c.args.rows.now c.loop-k-test.false) tt))
