use Rattle.std.proofs.{Common.{◌≡◌, ◌≢◌, ◌+◌, ◌⊎◌, inl, inr, ⊎_elim, ◌∙◌, ap, sym, arith, Some, slice_index}, lemmas.Bool.cases_eq}
use Rattle.code_table.specs.PcTables.{number_at}
use Rattle.widest_paths.{specs.WidestPaths.IsInFan, proofs.GraphLaws.{adds_as, adds_twice}}
use Rattle.guard_analysis.{specs.BlockReach.HasFanAt, proofs.BlockGraphs.from_again}
use Rattle.guard_analysis.proofs.block_reach.add_fans.Goals as goal

pub loop-t-preserved : goal.loop-t-preserved
loop-t-preserved c = adds_as c.args.g.now c.add_fan.new.g
    (λ i k. (HasFanAt c.args.m.now.code c.args.pcs.now c.loop-t.t k × IsInFan c.args.g.now c.args.fan i) ⊎ ((number_at c.args.m.now.code c.pc_at-pc.result ≡ Some k) × IsInFan c.loop-t.g c.args.fan i))
    (λ i k. HasFanAt c.args.m.now.code c.args.pcs.now (c.loop-t.t + 1) k × IsInFan c.args.g.now c.args.fan i)
    (λ i k b. ⊎_elim
    (λ (h : HasFanAt c.args.m.now.code c.args.pcs.now c.loop-t.t k × IsInFan c.args.g.now c.args.fan i). ((h.0.0, omega (arith, h.0.1), h.0.2), h.1))
    (λ (h : (number_at c.args.m.now.code c.pc_at-pc.result ≡ Some k) × IsInFan c.loop-t.g c.args.fan i). ((c.loop-t.t, omega arith, ap (λ x. number_at c.args.m.now.code x) (sym c.pc_at-pc.ensures) ∙ h.0), from_again c.loop-t.g c.args.g.now c.args.fan i c.loop-t.invariant.turns h.1)) b)
    (λ i k q. ⊎_elim
    (λ (e : q.0.0 ≡ c.loop-t.t). inr (ap (λ x. number_at c.args.m.now.code x) (c.pc_at-pc.ensures ∙ ap (λ t. slice_index c.args.pcs.now t) (sym e)) ∙ q.0.2, from_again c.args.g.now c.loop-t.g c.args.fan i (sym c.loop-t.invariant.turns) q.1))
    (λ (n : q.0.0 ≢ c.loop-t.t). inl ((q.0.0, omega (arith, q.0.1, n), q.0.2), q.1))
    (cases_eq q.0.0 c.loop-t.t))
    (adds_twice c.args.g.now c.loop-t.g c.add_fan.new.g (λ i k. HasFanAt c.args.m.now.code c.args.pcs.now c.loop-t.t k × IsInFan c.args.g.now c.args.fan i) (λ i k. (number_at c.args.m.now.code c.pc_at-pc.result ≡ Some k) × IsInFan c.loop-t.g c.args.fan i)
    c.loop-t.invariant c.in_ok-add_fan.ensures)
