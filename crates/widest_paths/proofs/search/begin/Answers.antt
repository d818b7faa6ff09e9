use Rattle.std.proofs.{Common.{◌≡◌, ◌≢◌, ◌<◌, ◌+◌, ◌⊎◌, inl, inr, ⊎_elim, ◌∙◌, ap, sym, true, arith, slice_get}, lemmas.Bool.cases_eq}
use Rattle.std.specs.BinaryHeap.{heap_items}
use Rattle.widest_paths.{specs.WidestPaths.is_labelled, proofs.SearchLaws.{widens_as, widens_twice, labelled_within}}
use Rattle.widest_paths.proofs.search.begin.Goals as goal

pub loop-i-preserved : goal.loop-i-preserved
loop-i-preserved c = widens_as c.args.g.now
    (λ x level. ((x < c.loop-i.i) × (is_labelled c.args.label (slice_get c.args.labels.now x) ≡ true)) ⊎ ((x ≡ c.loop-i.i) × (c.is_labelled-labelled.result ≡ true)))
    (λ x level. (x < c.loop-i.i + 1) × (is_labelled c.args.label (slice_get c.args.labels.now x) ≡ true))
    c.args.widths.now c.begin_at.new.widths (heap_items c.args.waiting.now) (heap_items c.begin_at.new.waiting)
    (λ x level b. ⊎_elim
    (λ (k : (x < c.loop-i.i) × (is_labelled c.args.label (slice_get c.args.labels.now x) ≡ true)). (omega (arith, k.0), k.1))
    (λ (k : (x ≡ c.loop-i.i) × (c.is_labelled-labelled.result ≡ true)). (omega (arith, k.0), ap (λ y. is_labelled c.args.label (slice_get c.args.labels.now y)) k.0 ∙ sym c.is_labelled-labelled.ensures ∙ k.1)) b)
    (λ x level q l. ⊎_elim
    (λ (e : x ≡ c.loop-i.i). inr (e, c.is_labelled-labelled.ensures ∙ ap (λ y. is_labelled c.args.label (slice_get c.args.labels.now y)) (sym e) ∙ q.1))
    (λ (n : x ≢ c.loop-i.i). inl (omega (arith, q.0, n), q.1))
    (cases_eq x c.loop-i.i))
    (widens_twice c.args.g.now (λ x level. (x < c.loop-i.i) × (is_labelled c.args.label (slice_get c.args.labels.now x) ≡ true)) (λ x level. (x ≡ c.loop-i.i) × (c.is_labelled-labelled.result ≡ true))
    c.args.widths.now c.loop-i.widths c.begin_at.new.widths (heap_items c.args.waiting.now) (heap_items c.loop-i.waiting) (heap_items c.begin_at.new.waiting) c.loop-i.invariant c.in_ok-begin_at.ensures)

pub returns : goal.returns
returns c = widens_as c.args.g.now (λ x level. (x < c.loop-i.i) × (is_labelled c.args.label (slice_get c.args.labels.now x) ≡ true)) (λ x level. is_labelled c.args.label (slice_get c.args.labels.now x) ≡ true)
    c.args.widths.now c.loop-i.widths (heap_items c.args.waiting.now) (heap_items c.loop-i.waiting)
    (λ x level b. b.1)
    (λ x level q l. (omega (arith, labelled_within c.args.labels.now c.args.label x q, c.loop-i-test.false), q))
    c.loop-i.invariant
