use Rattle.std.proofs.Common.{length, ◌-◌, ◌<◌, arith}
use Rattle.frames.proofs.HeldLaws.{placed, stays_behind}
use Rattle.frames.proofs.held.place_among.Goals as goal

pub returns-then-held-i-clause-some : goal.returns-then-held-i-clause-some
returns-then-held-i-clause-some c =
    let inside : c.loop-i.i - 1 < length c.args.held.now = omega (arith, c.loop-i-test.true, c.loop-i.auto.i) in
    let p = placed c.args.monitor c.args.held.now (c.loop-i.i - 1) _ c.requires inside c.if-held-i.true in
    (inside, p.0, p.1, p.2)

pub returns-clause-stays : goal.returns-clause-stays
returns-clause-stays c = λ none. stays_behind c.args.monitor c.args.held.now c.loop-i.i c.loop-i-test.false c.loop-i.invariant
