use Rattle.std.proofs.{Common.{◌<◌, length}, lemmas.Result.on_ok_weaker}
use Rattle.std.specs.BinaryHeap.{heap_items}
use Rattle.widest_paths.{specs.{WidestPaths.IsFanEdge, Searches.IsFromSome}, proofs.SearchLaws.{widens_as, edge_of, of_edge}}
use Rattle.widest_paths.proofs.search.widen_sources.Goals as goal

pub returns-then-k-len : goal.returns-then-k-len
returns-then-k-len c = on_ok_weaker c.widen_fans.result
    (λ k. widens_as c.args.g.now (λ x level. IsFromSome c.args.g.now c.fans_to-fans.result.now (length c.fans_to-fans.result.now) x × (level < c.args.width)) (λ x level. IsFanEdge c.args.g.now x c.args.k × (level < c.args.width))
    c.args.widths.now c.widen_fans.new.widths (heap_items c.args.waiting.now) (heap_items c.widen_fans.new.waiting)
    (λ x level b. (edge_of c.args.g.now c.args.k x c.fans_to-fans.result.now c.fans_to-fans.ensures b.0, b.1))
    (λ x level q l. (of_edge c.args.g.now c.args.k x c.fans_to-fans.result.now c.fans_to-fans.ensures q.0, q.1))
    k) c.widen_fans.ensures
