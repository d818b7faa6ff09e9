use Rattle.std.proofs.{Common.{◌≡◌, ◌≢◌, ◌+◌, ◌⊎◌, inl, inr, ⊎_elim, sym, subst, arith, slice_get}, lemmas.Bool.cases_eq}
use Rattle.widest_paths.proofs.GraphLaws.{adds_as, adds_twice}
use Rattle.guard_analysis.{specs.BlockReach.{IsThrown, IsThrownBefore}, proofs.BlockGraphs.thrown_again}
use Rattle.guard_analysis.proofs.block_reach.add_rows.Goals as goal

pub loop-r-preserved : goal.loop-r-preserved
loop-r-preserved c = adds_as c.args.g.now c.add_row_at.new.g
    (λ i k. IsThrownBefore c.args.m.now c.args.g.now c.loop-r.r i k ⊎ IsThrown c.args.m.now c.loop-r.g (c.loop-r.r + 1) (slice_get c.args.m.now.rows c.loop-r.r) i k)
    (λ i k. IsThrownBefore c.args.m.now c.args.g.now (c.loop-r.r + 1) i k)
    (λ i k b. ⊎_elim
    (λ (h : IsThrownBefore c.args.m.now c.args.g.now c.loop-r.r i k). (h.0, omega (arith, h.1), h.2))
    (λ (h : IsThrown c.args.m.now c.loop-r.g (c.loop-r.r + 1) (slice_get c.args.m.now.rows c.loop-r.r) i k). (c.loop-r.r, omega arith, thrown_again c.args.m.now c.loop-r.g c.args.g.now (c.loop-r.r + 1) i k (slice_get c.args.m.now.rows c.loop-r.r) c.loop-r.invariant.turns h)) b)
    (λ i k q. ⊎_elim
    (λ (e : q.0 ≡ c.loop-r.r). inr (thrown_again c.args.m.now c.args.g.now c.loop-r.g (c.loop-r.r + 1) i k (slice_get c.args.m.now.rows c.loop-r.r) (sym c.loop-r.invariant.turns) (subst (λ r. IsThrown c.args.m.now c.args.g.now (r + 1) (slice_get c.args.m.now.rows r) i k) e q.2)))
    (λ (n : q.0 ≢ c.loop-r.r). inl (q.0, omega (arith, q.1, n), q.2))
    (cases_eq q.0 c.loop-r.r))
    (adds_twice c.args.g.now c.loop-r.g c.add_row_at.new.g (λ i k. IsThrownBefore c.args.m.now c.args.g.now c.loop-r.r i k) (λ i k. IsThrown c.args.m.now c.loop-r.g (c.loop-r.r + 1) (slice_get c.args.m.now.rows c.loop-r.r) i k) c.loop-r.invariant c.in_ok-add_row_at.ensures)
