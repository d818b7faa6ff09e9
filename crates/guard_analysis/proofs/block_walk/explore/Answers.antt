use Rattle.std.proofs.Common.{◌<◌, ◌≤◌, length, sym, subst, arith}
use Rattle.guard_analysis.{specs.BlockWalks.Walked, proofs.BlockWalkLaws.{walk_begins, goes_on_shown, ends_shown, explored}}
use Rattle.guard_analysis.proofs.block_walk.explore.Goals as goal

pub loop-k-init : goal.loop-k-init
loop-k-init c = subst (λ x. Walked c.args.m.now c.args.tags.now.frames c.args.depth c.args.stamp c.args.enter 0 x) (sym c.in_ok-visit_ways.ensures)
    (walk_begins c.args.m.now c.args.tags.now.frames c.args.depth c.args.stamp c.args.enter (record { seen = c.args.walk.now.seen; own = c.new.result }) c.requires.long c.requires.low c.new.ensures)

pub loop-k-smaller : goal.loop-k-smaller
loop-k-smaller c =
    let inside : c.loop-k.k < length c.loop-k.walk.own = omega (arith, c.loop-k-test.true, c.len.ensures) in
    ends_shown c.args.m.now c.args.tags.now.frames c.args.depth c.args.stamp c.args.enter c.loop-k.k c.found_at-i.result c.loop-k.walk c.visit_ways-in-loop-k.new.walk c.loop-k.invariant inside c.found_at-i.ensures c.in_ok-visit_ways-2.ensures

pub loop-k-preserved : goal.loop-k-preserved
loop-k-preserved c =
    let inside : c.loop-k.k < length c.loop-k.walk.own = omega (arith, c.loop-k-test.true, c.len.ensures) in
    goes_on_shown c.args.m.now c.args.tags.now.frames c.args.depth c.args.stamp c.args.enter c.loop-k.k c.found_at-i.result c.loop-k.walk c.visit_ways-in-loop-k.new.walk c.loop-k.invariant inside c.found_at-i.ensures c.in_ok-visit_ways-2.ensures

pub returns : goal.returns
returns c =
    let all : length c.loop-k.walk.own ≤ c.loop-k.k = omega (arith, c.loop-k-test.false, c.len.ensures) in
    explored c.args.m.now c.args.tags.now.frames c.args.depth c.args.stamp c.args.enter c.loop-k.k c.loop-k.walk c.loop-k.invariant all
