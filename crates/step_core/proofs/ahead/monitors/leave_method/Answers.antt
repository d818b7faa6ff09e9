use Rattle.std.proofs.Common.{◌≤◌, ap, sym, ◌∙◌, arith}
use Rattle.jvm_types.specs.{Members.is_synchronized, declared.program.MethodInfo.MethodInfo}
use Rattle.machine_types.specs.declared.config.Config.{Config}
use Rattle.step_core.{specs.Running.running_at, proofs.{LawfulSteps.{few_elided, number_fits}, SectionTurns.returns_whole}}
use Rattle.step_core.proofs.ahead.monitors.leave_method.Goals as goal

pub leave-requires-clause-count : goal.leave-requires-clause-count
leave-requires-clause-count c =
    let most : c.args.s.now.cfg.steps ≤ 4294967295 = omega (arith, ap (λ (x : Config). x.steps) c.config-limits.ensures) in
    few_elided c.args.p.now (running_at c.args.s.now c.args.f.now c.args.count) most c.requires.fine.lawful

pub leave-requires-clause-number : goal.leave-requires-clause-number
leave-requires-clause-number c =
    number_fits c.args.p.now (running_at c.args.s.now c.args.f.now c.args.count) c.workers-workers.ensures.marked c.requires.fine.lawful

pub returns-clause-on : goal.returns-clause-on
returns-clause-on c = λ yes.
    let own = rw (c.method-2.ensures, c.receiver.ensures) at c.monitor_of-monitor.ensures.monitor in
    returns_whole c.args.p.now c.args.s.now c.leave.new.s c.args.f.now c.give_back.new.f c.args.count c.monitor_of-monitor.result c.args.place.now
    c.args.words.now c.leave.new.words c.requires.next c.requires.returns
    (ap (λ (m : MethodInfo). is_synchronized m.flags) (sym c.method.ensures) ∙ sym c.is_synchronized.ensures ∙ c.if-not-is_synchronized.false)
    own c.give_back.ensures.back (c.leave.ensures.on c.if-not-leave.false)
