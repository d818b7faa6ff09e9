use Rattle.std.proofs.Common.{◌≡◌, ◌∷◌, ◌-◌, ◌<◌, suc, take, drop, ap, ◌∙◌, arith}
use Rattle.monitor_tags.proofs.StackTags.{place_more}
use Rattle.monitor_tags.proofs.tag_stacks.top_of.Goals as goal

pub loop-place-preserved : goal.loop-place-preserved
loop-place-preserved c =
    let next : c.loop-place.place ≡ suc (c.loop-place.place - 1) = omega (arith, c.loop-place-test.true) in
    let inside : c.loop-place.place - 1 < c.args.count = omega (arith, c.loop-place-test.true, c.loop-place.auto.place) in
    c.in_ok-push.ensures.ok ∙ ap (λ l. c.tag_on.result ∷ l) (c.loop-place.invariant ∙ ap (λ n. drop n (take c.args.count c.args.stack.now)) next)
    ∙ place_more c.args.count c.args.stack.now (c.loop-place.place - 1) c.tag_on.result inside c.tag_on.ensures
