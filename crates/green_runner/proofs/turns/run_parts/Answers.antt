use Rattle.std.proofs.Common.{sym, ◌∙◌}
use Rattle.green_runner.{specs.Turns.rounds, proofs.Turning.{init_alone, init_first}}
use Rattle.green_runner.proofs.turns.run_parts.Goals as goal

pub returns-then-next : goal.returns-then-next
returns-then-next c =
    let on = c.run_alone.ensures.on in
    let some = c.run_workers.ensures in (
      some.0,
      init_first c.args.machine.now c.run_alone.new.self c.next.new.self c.run_workers.new.machine on.0 (rounds c.args.turn c.args.p.now.program.workers some.0) on.1 c.run_alone.ensures.over
          (sym c.next.ensures.may ∙ c.if-next.true) c.next.ensures.next some.1,
    )

pub returns-else-next : goal.returns-else-next
returns-else-next c =
    let on = c.run_alone.ensures.on in (
      0,
      init_alone c.args.machine.now c.run_alone.new.self c.next.new.self on.0 (rounds c.args.turn c.args.p.now.program.workers 0) on.1 c.run_alone.ensures.over
          (sym c.next.ensures.may ∙ c.if-next.false) (c.next.ensures.still c.if-next.false),
    )
