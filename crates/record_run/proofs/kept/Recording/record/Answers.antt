use Rattle.std.proofs.{Common.{◌≡◌, ◌<◌, ap, subst, sym, ◌∙◌, ◌+◌, ◌∷◌, [], arith, length, true}, lemmas.List.length-append}
use Rattle.machine_types.specs.Schedules.{is_live_worker}
use Rattle.record_run.{specs.Kept.Kept, proofs.KeptRuns.{kept_on, same_program}}
use Rattle.record_run.proofs.kept.Recording.record.Goals as goal

pub event-requires : goal.event-requires
event-requires g c = same_program g.J.Naming.run c.args.p.now (record { machine = c.self.inside.machine; order = c.self.inside.order.items; most = c.self.inside.most }) c.requires.program c.self.invariant.0

pub invariant_of-self : goal.invariant_of-self
invariant_of-self g c =
    let k : Kept = record { machine = c.self.inside.machine; order = c.self.inside.order.items; most = c.self.inside.most } in
    let room : length k.order < k.most = subst (λ (z : Kept). length z.order < z.most) (sym c.self.view_is) c.requires.room in
    let live : is_live_worker k.machine.core c.args.t ≡ true = ap (λ (z : Kept). is_live_worker z.machine.core c.args.t) c.self.view_is ∙ c.requires.live in
    let many : length c.push.new.self.items ≡ length k.order + 1 = ap length c.push.ensures.items ∙ length-append k.order (c.args.t ∷ []) in
    (kept_on g.J.Naming.run k c.event.new.self c.push.new.self.items c.args.t c.event.ensures.event c.push.ensures.items c.self.invariant.0 live room, omega (arith, many, c.self.invariant.1, c.push.ensures.spare))
