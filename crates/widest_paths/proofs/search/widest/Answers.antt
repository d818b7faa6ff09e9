use Rattle.std.proofs.{Common.{◌≡◌, ◌∙◌, ap, length, replicate, slice_get, subst, true}, lemmas.List.length-replicate}
use Rattle.std.specs.BinaryHeap.{heap_items}
use Rattle.widest_paths.specs.{Searches.{IsWidened, Widens}, WidestPaths.is_labelled}
use Rattle.widest_paths.proofs.SearchLaws.{searched_first, searched_next, lighter, found_all}
use Rattle.widest_paths.proofs.search.widest.Goals as goal

pub loop-k-init : goal.loop-k-init
loop-k-init c =
    let zeros : c.from_vec-widths.result ≡ replicate c.len.result 0 = c.from_vec-widths.ensures ∙ c.in_ok-vec.ensures.items_if_clones_equal (λ y e. e) in
    searched_first c.args.g.now c.args.labels.now c.args.label c.len.result c.from_vec-widths.result c.begin.new.widths (heap_items c.begin.new.waiting) zeros (ap length zeros ∙ length-replicate c.len.result 0 ∙ c.len.ensures)
    (subst (λ w. Widens c.args.g.now (λ x level. is_labelled c.args.label (slice_get c.args.labels.now x) ≡ true) c.from_vec-widths.result w c.begin.new.widths (heap_items c.begin.new.waiting)) c.new-waiting.ensures.items c.in_ok-begin.ensures)

pub loop-k-smaller : goal.loop-k-smaller
loop-k-smaller c = lighter c.args.g.now c.args.labels.now c.args.label (record {
  old = c.loop-k.widths;
  new = c.widen_sources.new.widths;
  waiting = heap_items c.loop-k.waiting;
  rest = heap_items c.next.new.waiting;
  later = heap_items c.widen_sources.new.waiting;
  k = c.in-Some.k;
  width = c.number_at-width.result;
  is = c.loop-k.invariant;
  taken = c.in-Some.ensures;
  width_is = c.number_at-width.ensures;
  widens = c.in_ok-widen_sources.ensures;
})

pub loop-k-preserved : goal.loop-k-preserved
loop-k-preserved c = searched_next c.args.g.now c.args.labels.now c.args.label (record {
  old = c.loop-k.widths;
  new = c.widen_sources.new.widths;
  waiting = heap_items c.loop-k.waiting;
  rest = heap_items c.next.new.waiting;
  later = heap_items c.widen_sources.new.waiting;
  k = c.in-Some.k;
  width = c.number_at-width.result;
  is = c.loop-k.invariant;
  taken = c.in-Some.ensures;
  width_is = c.number_at-width.ensures;
  widens = c.in_ok-widen_sources.ensures;
})

pub returns : goal.returns
returns c = found_all c.args.g.now c.args.labels.now c.args.label c.loop-k.widths (subst (λ w. IsWidened c.args.g.now c.args.labels.now c.args.label c.loop-k.widths w) c.in_default.ensures c.loop-k.invariant)
