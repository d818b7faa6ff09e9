use Rattle.std.proofs.Common.{◌∙◌}
use Rattle.table_runner.{specs.Accessing.NextEvent, proofs.ManyEvents.then_more}
use Rattle.table_runner.proofs.events.go_on.Goals as goal

pub loop-s-preserved : goal.loop-s-preserved
loop-s-preserved c =
    let e : NextEvent = record { program = c.args.p.now; cfg = c.args.table.now.cfg; number = c.args.t; state = c.args.s.now } in (
      then_more e c.args.seat.now.view c.loop-s.seat.view c.go_far.new.seat.view c.loop-s.s c.go_far.new.s c.loop-s.invariant.0 c.go_far.ensures.goes,
      c.go_far.ensures.seat.0 ∙ c.loop-s.invariant.1,
      c.go_far.ensures.seat.1 ∙ c.loop-s.invariant.2,
    )
