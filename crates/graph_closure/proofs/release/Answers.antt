use Rattle.std.proofs.{Common.{◌≡◌, ◌<◌, ◌-◌, length, ◌∙◌, refl, arith, slice_index}, lemmas.List.length-set}
use Rattle.graph_closure.{specs.Chains.latest, proofs.SpreadLaws.{released, chain_less, latest-le, latest_again}}
use Rattle.graph_closure.proofs.release.Goals as goal

pub loop-at-init : goal.loop-at-init
loop-at-init c =
    let k : slice_index c.args.lasts.now c.args.b ≡ latest c.args.to.now c.args.b (length c.args.to.now) = c.requires.chained.last c.args.b c.requires.inside in
    record {
      long = refl;
      again = rw k (latest_again c.args.to.now c.args.b (length c.args.to.now));
      fits = omega (arith, k, latest-le c.args.to.now c.args.b (length c.args.to.now));
      less = omega arith;
      goes = λ start e s. rw k s;
    }

pub loop-at-smaller : goal.loop-at-smaller
loop-at-smaller c =
    let h : slice_index c.args.befores.now (c.loop-at.at - 1) < c.loop-at.at = (chain_less (length c.args.need.now) c.args.from.now c.args.to.now c.args.lasts.now c.args.befores.now c.args.b c.loop-at.at c.requires.graph c.requires.chained (omega (arith, c.loop-at-test.true)) c.loop-at.invariant.fits c.loop-at.invariant.again).0 in
    h

pub loop-at-preserved : goal.loop-at-preserved
loop-at-preserved c =
    let h = chain_less (length c.args.need.now) c.args.from.now c.args.to.now c.args.lasts.now c.args.befores.now c.args.b c.loop-at.at c.requires.graph c.requires.chained (omega (arith, c.loop-at-test.true)) c.loop-at.invariant.fits c.loop-at.invariant.again in
    let low : slice_index c.args.befores.now (c.loop-at.at - 1) < c.loop-at.at = h.0 in
    record {
      long = rw c.in_ok-meet.ensures.need (length-set c.loop-at.need _ _ ∙ c.loop-at.invariant.long);
      again = h.1;
      fits = omega (arith, low, c.loop-at.invariant.fits);
      less = omega (arith, c.in_ok-meet.ensures.less, c.loop-at.invariant.less);
      goes = λ start e s. rw c.in_ok-meet.ensures.need (released c.args.from.now c.args.to.now start c.loop-at.need c.loop-at.work.items c.meet.new.work.items c.args.lasts.now c.args.befores.now c.args.done.now (length c.args.need.now) c.args.b c.loop-at.at
          c.requires.graph c.requires.chained c.requires.done (omega (arith, c.loop-at-test.true)) c.loop-at.invariant.fits c.loop-at.invariant.again c.in_ok-meet.ensures.work e (c.loop-at.invariant.goes start e s));
    }
