use Rattle.std.proofs.{Common.{◌≡◌, ◌<◌, true, subst, arith, slice_index}, lemmas.Result.on_ok_weaker}
use Rattle.std.specs.BinaryHeap.{heap_items}
use Rattle.widest_paths.proofs.SearchLaws.{widens_as}
use Rattle.widest_paths.proofs.search.begin_at.Goals as goal

pub returns-then-labelled : goal.returns-then-labelled
returns-then-labelled c = on_ok_weaker c.widen.result
    (λ k. widens_as c.args.g.now (λ x level. (x ≡ c.args.i) × (level < c.number_at.result)) (λ x level. (x ≡ c.args.i) × (c.args.labelled ≡ true)) c.args.widths.now c.widen.new.widths (heap_items c.args.waiting.now) (heap_items c.widen.new.waiting)
    (λ x level b. (b.0, c.if-labelled.true))
    (λ x level q l. let low : level < slice_index c.args.g.now.levels c.args.i = subst (λ y. level < slice_index c.args.g.now.levels y) q.0 l in (q.0, omega (arith, low, c.number_at.ensures)))
    k) c.widen.ensures
