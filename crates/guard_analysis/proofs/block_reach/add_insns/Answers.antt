use Rattle.std.proofs.{Common.{◌≡◌, ◌≢◌, ◌<◌, ◌+◌, ◌⊎◌, inl, inr, ⊎_elim, ap, sym, subst, arith, length, slice_index}, lemmas.Bool.cases_eq}
use Rattle.widest_paths.proofs.GraphLaws.{adds_as, adds_twice}
use Rattle.guard_analysis.{specs.BlockReach.{level_at, IsOnward}, proofs.BlockGraphs.onward_within}
use Rattle.guard_analysis.proofs.block_reach.add_insns.Goals as goal

pub loop-i-preserved : goal.loop-i-preserved
loop-i-preserved c = adds_as c.args.g.now c.add_insn.new.g
    (λ x k. ((x < c.loop-i.i) × (0 < level_at c.args.m.now c.args.tags.now.frames x) × (0 < slice_index c.args.g.now.turns x) × IsOnward c.args.m.now x k) ⊎ ((x ≡ c.loop-i.i) × (0 < level_at c.args.m.now c.args.tags.now.frames c.loop-i.i) × (0 < slice_index c.loop-i.g.turns c.loop-i.i) × IsOnward c.args.m.now c.loop-i.i k))
    (λ x k. (x < c.loop-i.i + 1) × (0 < level_at c.args.m.now c.args.tags.now.frames x) × (0 < slice_index c.args.g.now.turns x) × IsOnward c.args.m.now x k)
    (λ x k b. ⊎_elim
    (λ (h : (x < c.loop-i.i) × (0 < level_at c.args.m.now c.args.tags.now.frames x) × (0 < slice_index c.args.g.now.turns x) × IsOnward c.args.m.now x k). (omega (arith, h.0), h.1, h.2, h.3))
    (λ (h : (x ≡ c.loop-i.i) × (0 < level_at c.args.m.now c.args.tags.now.frames c.loop-i.i) × (0 < slice_index c.loop-i.g.turns c.loop-i.i) × IsOnward c.args.m.now c.loop-i.i k).
    (omega (arith, h.0), subst (λ y. 0 < level_at c.args.m.now c.args.tags.now.frames y) (sym h.0) h.1, subst (λ y. 0 < slice_index c.args.g.now.turns y) (sym h.0) (subst (λ l. 0 < slice_index l c.loop-i.i) c.loop-i.invariant.turns h.2), subst (λ y. IsOnward c.args.m.now y k) (sym h.0) h.3)) b)
    (λ x k q. ⊎_elim
    (λ (e : x ≡ c.loop-i.i). inr (e, subst (λ y. 0 < level_at c.args.m.now c.args.tags.now.frames y) e q.1, subst (λ l. 0 < slice_index l c.loop-i.i) (sym c.loop-i.invariant.turns) (subst (λ y. 0 < slice_index c.args.g.now.turns y) e q.2), subst (λ y. IsOnward c.args.m.now y k) e q.3))
    (λ (n : x ≢ c.loop-i.i). inl (omega (arith, q.0, n), q.1, q.2, q.3))
    (cases_eq x c.loop-i.i))
    (adds_twice c.args.g.now c.loop-i.g c.add_insn.new.g (λ x k. (x < c.loop-i.i) × (0 < level_at c.args.m.now c.args.tags.now.frames x) × (0 < slice_index c.args.g.now.turns x) × IsOnward c.args.m.now x k)
    (λ x k. (x ≡ c.loop-i.i) × (0 < level_at c.args.m.now c.args.tags.now.frames c.loop-i.i) × (0 < slice_index c.loop-i.g.turns c.loop-i.i) × IsOnward c.args.m.now c.loop-i.i k) c.loop-i.invariant c.in_ok-add_insn.ensures)

pub returns : goal.returns
returns c = adds_as c.args.g.now c.loop-i.g (λ x k. (x < c.loop-i.i) × (0 < level_at c.args.m.now c.args.tags.now.frames x) × (0 < slice_index c.args.g.now.turns x) × IsOnward c.args.m.now x k)
    (λ x k. (0 < level_at c.args.m.now c.args.tags.now.frames x) × (0 < slice_index c.args.g.now.turns x) × IsOnward c.args.m.now x k)
    (λ x k h. (h.1, h.2, h.3))
    (λ x k q. (omega (arith, onward_within c.args.m.now x k q.2, c.loop-i-test.false, c.len-i-end.ensures, ap (λ y. length y.code) c.method.ensures.is), q.0, q.1, q.2))
    c.loop-i.invariant
