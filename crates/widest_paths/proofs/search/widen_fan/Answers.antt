use Rattle.std.proofs.{Common.{◌≡◌, ◌≢◌, ◌<◌, ◌+◌, ◌⊎◌, inl, inr, ⊎_elim, sym, subst, arith, slice_index}, lemmas.Bool.cases_eq}
use Rattle.std.specs.BinaryHeap.{heap_items}
use Rattle.widest_paths.{specs.WidestPaths.IsInFan, proofs.SearchLaws.{widens_as, widens_twice}}
use Rattle.widest_paths.proofs.search.widen_fan.Goals as goal

pub loop-i-preserved : goal.loop-i-preserved
loop-i-preserved c = record {
  from = omega (arith, c.loop-i.invariant.from);
  widens = widens_as c.args.g.now
      (λ x level. (IsInFan c.args.g.now c.args.fan x × (x < c.loop-i.i) × (level < c.args.width)) ⊎ ((x ≡ c.loop-i.i) × (c.args.fan.turn < slice_index c.args.g.now.turns c.loop-i.i) × (level < c.args.width)))
      (λ x level. IsInFan c.args.g.now c.args.fan x × (x < c.loop-i.i + 1) × (level < c.args.width))
      c.args.widths.now c.widen_from.new.widths (heap_items c.args.waiting.now) (heap_items c.widen_from.new.waiting)
      (λ x level b. ⊎_elim
      (λ (k : IsInFan c.args.g.now c.args.fan x × (x < c.loop-i.i) × (level < c.args.width)). (k.0, omega (arith, k.1), k.2))
      (λ (k : (x ≡ c.loop-i.i) × (c.args.fan.turn < slice_index c.args.g.now.turns c.loop-i.i) × (level < c.args.width)).
      ((omega (arith, c.loop-i.invariant.from, k.0), omega (arith, c.loop-i-test.true, k.0), subst (λ y. c.args.fan.turn < slice_index c.args.g.now.turns y) (sym k.0) k.1), omega (arith, k.0), k.2)) b)
      (λ x level q l. ⊎_elim
      (λ (e : x ≡ c.loop-i.i). inr (e, subst (λ y. c.args.fan.turn < slice_index c.args.g.now.turns y) e q.0.2, q.2))
      (λ (n : x ≢ c.loop-i.i). inl (q.0, omega (arith, q.1, n), q.2))
      (cases_eq x c.loop-i.i))
      (widens_twice c.args.g.now (λ x level. IsInFan c.args.g.now c.args.fan x × (x < c.loop-i.i) × (level < c.args.width)) (λ x level. (x ≡ c.loop-i.i) × (c.args.fan.turn < slice_index c.args.g.now.turns c.loop-i.i) × (level < c.args.width))
      c.args.widths.now c.loop-i.widths c.widen_from.new.widths (heap_items c.args.waiting.now) (heap_items c.loop-i.waiting) (heap_items c.widen_from.new.waiting) c.loop-i.invariant.widens c.in_ok-widen_from.ensures);
}

pub returns : goal.returns
returns c = widens_as c.args.g.now (λ x level. IsInFan c.args.g.now c.args.fan x × (x < c.loop-i.i) × (level < c.args.width)) (λ x level. IsInFan c.args.g.now c.args.fan x × (level < c.args.width))
    c.args.widths.now c.loop-i.widths (heap_items c.args.waiting.now) (heap_items c.loop-i.waiting)
    (λ x level b. (b.0, b.2))
    (λ x level q l. (q.0, omega (arith, q.0.1, c.loop-i-test.false), q.1))
    c.loop-i.invariant.widens
