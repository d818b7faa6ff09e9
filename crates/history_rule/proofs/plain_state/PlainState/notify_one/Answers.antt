use Rattle.std.{proofs.{Common.{refl, sym, ap, ◌∙◌, arith, length, slice_get}, lemmas.List.length-set}, specs.Option.option_copied}
use Rattle.machine_types.specs.{PlainState.Plain, PlainSteps.wakes}
use Rattle.plain_threads.proofs.ThreadLists.{set_woken, wakes_that}
use Rattle.history_rule.proofs.plain_state.PlainState.notify_one.Goals as goal

pub set_status-requires : goal.set_status-requires
set_status-requires c =
    let one = sym c.get.ensures.value ∙ ap option_copied c.in-Some.is in
    let there = rw (← c.self.view_is) at c.requires in
    omega (arith, there, ap length (c.wake.ensures _ one), length-set c.self.inside.threads c.args.u (wakes c.args.m c.in-Some.x.now))

pub returns : goal.returns
returns c = λ x e.
    let there = rw (← c.self.view_is) at e in
    let one = sym c.get.ensures.value ∙ ap option_copied c.in-Some.is in
    let woken = c.wake.ensures c.in-Some.x.now one in
    let now = set_woken c.self.inside.threads c.set_status.new.self c.args.t c.args.u c.args.m x c.in-Some.x.now there one (rw woken at c.set_status.ensures) in
    wakes_that c.args.self.now _ c.args.t c.args.u c.args.m x c.in-Some.x.now (ap (λ (q : Plain). slice_get q.threads c.args.u) (sym c.self.view_is) ∙ one) (sym c.waits_on.ensures ∙ c.if-not-waits_on.false) (rw (now, ← c.self.view_is) refl)
