use Rattle.std.proofs.Common.{length, ◌-◌, ◌<◌, arith}
use Rattle.frames.proofs.HeldLaws.{placed}
use Rattle.frames.proofs.held.place_of.Goals as goal

pub returns-then-held-count-clause-some : goal.returns-then-held-count-clause-some
returns-then-held-count-clause-some c =
    let held = c.args.held.now in
    let inside : length held - 1 < length held = omega (arith, c.if-count-eq0.false) in
    let p = placed c.args.monitor held (length held - 1) _ c.requires inside c.if-held-count.true in
    (inside, p.0, p.1, p.2)
