use Rattle.std.proofs.Common.{sym, ◌∙◌}
use Rattle.green_runner.proofs.Turning.{done_ran, no_done_begins}
use Rattle.green_runner.proofs.turns.run_done.Goals as goal

pub returns-then-next : goal.returns-then-next
returns-then-next c =
    done_ran c.args.machine.now c.next.new.self c.run_alone.new.self c.run_alone.ensures.on.0 c.requires.dead (sym c.next.ensures.may ∙ c.if-next.true)
    c.next.ensures.next c.run_alone.ensures.on.1 c.run_alone.ensures.over

pub returns-else-next : goal.returns-else-next
returns-else-next c =
    no_done_begins c.args.machine.now c.next.new.self c.requires.dead (sym c.next.ensures.may ∙ c.if-next.false) (c.next.ensures.still c.if-next.false)
