use Rattle.std.proofs.Common.{◌≡◌, ◌<◌, sym, subst, arith}
use Rattle.std.specs.BinaryHeap.{heap_items}
use Rattle.widest_paths.{specs.Searches.Widens, proofs.{SearchLaws.{widens_put, widens_not, beyond}, search.widen.Goals.{else-i-len-via-then-i-len+else-number_at-put, else-i-len-via-else-i-len}}}
use Rattle.widest_paths.proofs.search.widen.Goals as goal

pub returns-in_ok-push : goal.returns-in_ok-push
returns-in_ok-push c =
    subst (λ w. Widens c.args.g.now (λ x level. (x ≡ c.args.i) × (level < c.args.width)) c.args.widths.now (heap_items c.args.waiting.now) w (heap_items c.push.new.self)) (sym c.set.ensures)
    (widens_put c.args.g.now c.args.widths.now (heap_items c.args.waiting.now) (heap_items c.push.new.self) c.args.i c.args.width c.narrower-put.result c.requires (omega (arith, c.if-i-len.true, c.len.ensures))
    (omega (arith, c.if-number_at-put.true, c.number_at-then-i-len.ensures)) (omega (arith, c.narrower-put.ensures.second, c.number_at.ensures)) c.narrower-put.ensures.first
    (λ level l k. c.narrower-put.ensures.wide level l (omega (arith, k, c.number_at.ensures))) c.in_ok-push.ensures.permutation)

pub returns-else-i-len : goal.returns-else-i-len
returns-else-i-len c = widens_not c.args.g.now c.args.widths.now (heap_items c.args.waiting.now) (heap_items c.args.waiting.now) c.args.i c.args.width c.narrower-put.result c.requires
    (elim c.else-i-len.branch [
      | else-i-len-via-then-i-len+else-number_at-put w ↦ λ level l k. let low : level < c.narrower-put.result = c.narrower-put.ensures.wide level l (omega (arith, k, c.number_at.ensures)) in omega (arith, low, w.if-number_at-put.false, w.number_at-then-i-len.ensures)
      | else-i-len-via-else-i-len w ↦ λ level l k. absurd (omega (arith, k, beyond c.args.g.now.levels c.args.i (omega (arith, w.if-i-len.false, c.len.ensures, c.requires))))
    ])
