use Rattle.std.proofs.Common.{◌≡◌, ◌<◌, None, sym, subst, arith}
use Rattle.table_rule.specs.Views.{held_in}
use Rattle.table_runner.{specs.Handed.Handed, proofs.WholeHands.none_beyond}
use Rattle.table_runner.proofs.hands.Hands.hold_no_more.Goals as goal

pub returns : goal.returns
returns c t lt =
    let h : Handed = record { program = c.self.inside.program.told; cfg = c.self.inside.cfg; table_id = c.self.inside.seat.table_id; steps = c.self.inside.seat.steps; threads = c.self.inside.threads; view = c.self.inside.seat.view } in
    let beyond : h.program.program.workers < t = subst (λ (k : Handed). k.program.program.workers < t) (sym c.self.view_is) lt in
    subst (λ (k : Handed). held_in k.threads t ≡ None) c.self.view_is (none_beyond h.program h.cfg t (held_in h.view t) (held_in h.threads t) (c.self.invariant.0.each t) (omega (arith, beyond)))
