use Rattle.std.proofs.Common.{◌≤◌, ◌+◌, ap, arith}
use Rattle.machine_types.specs.declared.config.Config.{Config}
use Rattle.step_core.{specs.{Alone.{ThreadWithWords, alone}, Running.running_at, Sections.entering}, proofs.{EventsMore.fine_after, SectionTurns.entry_turn}}
use Rattle.step_core.proofs.ahead.sections.section_turn.Goals as goal

pub instruct-turned-requires-clause-fine : goal.instruct-turned-requires-clause-fine
instruct-turned-requires-clause-fine c = c.requires.fine 0

pub overflow_add-count : goal.overflow_add-count
overflow_add-count c =
    let most : c.args.s.now.cfg.steps ≤ 4294967295 = omega (arith, ap (λ (x : Config). x.steps) c.config-limits.ensures) in
    omega (arith, most, c.requires.next.count)

pub enter_at-requires-clause-fine : goal.enter_at-requires-clause-fine
enter_at-requires-clause-fine c =
    let p = c.args.p.now in
    let a : ThreadWithWords = alone (running_at c.args.s.now c.args.f.now c.args.count) c.args.words.now in
    let b : ThreadWithWords = alone (entering c.instruct-turned.new.s c.instruct-turned.new.f (c.args.count + 1) c.in-Enters.monitor) c.instruct-turned.new.words in
    fine_after p a b c.requires.fine (rw c.in-Enters.is at c.instruct-turned.ensures.turn)

pub returns-in-Enters-clause-turn : goal.returns-in-Enters-clause-turn
returns-in-Enters-clause-turn c =
    entry_turn c.args.p.now c.args.s.now c.instruct-turned.new.s c.enter_at.new.s c.args.f.now c.instruct-turned.new.f c.args.count c.in-Enters.monitor
    c.enter_at.result c.args.words.now c.instruct-turned.new.words c.enter_at.new.words c.with_entry.result
    (rw c.in-Enters.is at c.instruct-turned.ensures.turn) c.enter_at.ensures.on c.enter_at.ensures.few c.enter_at.ensures.still c.enter_at.ensures.same
    c.with_entry.ensures.none c.with_entry.ensures.some
