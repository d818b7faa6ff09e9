use Rattle.std.proofs.{Common.{◌≡◌, ◌<◌, arith, slice_index}, lemmas.Result.on_ok_weaker}
use Rattle.std.specs.BinaryHeap.{heap_items}
use Rattle.widest_paths.proofs.SearchLaws.{widens_as}
use Rattle.widest_paths.proofs.search.widen_from.Goals as goal

pub returns-then-turn-number_at : goal.returns-then-turn-number_at
returns-then-turn-number_at c = on_ok_weaker c.widen.result
    (λ k. widens_as c.args.g.now (λ x level. (x ≡ c.args.i) × (level < c.args.width)) (λ x level. (x ≡ c.args.i) × (c.args.turn < slice_index c.args.g.now.turns c.args.i) × (level < c.args.width))
    c.args.widths.now c.widen.new.widths (heap_items c.args.waiting.now) (heap_items c.widen.new.waiting)
    (λ x level b. (b.0, omega (arith, c.if-turn-number_at.true, c.number_at.ensures), b.1))
    (λ x level q l. (q.0, q.2))
    k) c.widen.ensures
