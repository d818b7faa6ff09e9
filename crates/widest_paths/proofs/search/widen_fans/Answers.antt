use Rattle.std.proofs.Common.{◌<◌, ◌+◌, ◌⊎◌, inl, inr, ⊎_elim, arith, length}
use Rattle.std.specs.BinaryHeap.{heap_items}
use Rattle.widest_paths.specs.{WidestPaths.IsInFan, Searches.IsFromSome}
use Rattle.widest_paths.proofs.SearchLaws.{widens_as, widens_twice, some_more, more_some, some_all, all_some}
use Rattle.widest_paths.proofs.search.widen_fans.Goals as goal

pub loop-t-preserved : goal.loop-t-preserved
loop-t-preserved c = widens_as c.args.g.now
    (λ x level. (IsFromSome c.args.g.now c.args.fans.now c.loop-t.t x × (level < c.args.width)) ⊎ (IsInFan c.args.g.now c.fan_at-fan.result x × (level < c.args.width)))
    (λ x level. IsFromSome c.args.g.now c.args.fans.now (c.loop-t.t + 1) x × (level < c.args.width))
    c.args.widths.now c.widen_fan.new.widths (heap_items c.args.waiting.now) (heap_items c.widen_fan.new.waiting)
    (λ x level b. ⊎_elim
    (λ (k : IsFromSome c.args.g.now c.args.fans.now c.loop-t.t x × (level < c.args.width)). (some_more c.args.g.now c.args.fans.now c.loop-t.t x c.fan_at-fan.result c.fan_at-fan.ensures (inl k.0), k.1))
    (λ (k : IsInFan c.args.g.now c.fan_at-fan.result x × (level < c.args.width)). (some_more c.args.g.now c.args.fans.now c.loop-t.t x c.fan_at-fan.result c.fan_at-fan.ensures (inr k.0), k.1)) b)
    (λ x level q l. ⊎_elim (λ (a : IsFromSome c.args.g.now c.args.fans.now c.loop-t.t x). inl (a, q.1)) (λ (a : IsInFan c.args.g.now c.fan_at-fan.result x). inr (a, q.1))
    (more_some c.args.g.now c.args.fans.now c.loop-t.t x c.fan_at-fan.result c.fan_at-fan.ensures q.0))
    (widens_twice c.args.g.now (λ x level. IsFromSome c.args.g.now c.args.fans.now c.loop-t.t x × (level < c.args.width)) (λ x level. IsInFan c.args.g.now c.fan_at-fan.result x × (level < c.args.width))
    c.args.widths.now c.loop-t.widths c.widen_fan.new.widths (heap_items c.args.waiting.now) (heap_items c.loop-t.waiting) (heap_items c.widen_fan.new.waiting) c.loop-t.invariant c.in_ok-widen_fan.ensures)

pub returns : goal.returns
returns c = widens_as c.args.g.now (λ x level. IsFromSome c.args.g.now c.args.fans.now c.loop-t.t x × (level < c.args.width)) (λ x level. IsFromSome c.args.g.now c.args.fans.now (length c.args.fans.now) x × (level < c.args.width))
    c.args.widths.now c.loop-t.widths (heap_items c.args.waiting.now) (heap_items c.loop-t.waiting)
    (λ x level b. (some_all c.args.g.now c.args.fans.now c.loop-t.t x b.0, b.1))
    (λ x level q l. (all_some c.args.g.now c.args.fans.now c.loop-t.t x (omega (arith, c.loop-t-test.false, c.len-t-end.ensures)) q.0, q.1))
    c.loop-t.invariant
