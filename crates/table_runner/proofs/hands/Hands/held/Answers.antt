use Rattle.std.proofs.Common.{sym, subst}
use Rattle.checked_program.specs.MarkedProgram.{MarkedProgram}
use Rattle.table_runner.{specs.Handed.{Handed, AreHands}, proofs.StartHands.{are_held, room_held}}
use Rattle.table_runner.proofs.hands.Hands.held.Goals as goal

pub invariant_of-result : goal.invariant_of-result
invariant_of-result c =
    let h : Handed = record { program = c.args.p.now; cfg = c.args.cfg.now; table_id = c.args.seat.table_id; steps = c.args.seat.steps; threads = c.args.threads; view = c.args.seat.view } in (
      subst (λ (q : MarkedProgram). AreHands (record h { program = q })) (sym c.of.ensures) (are_held h c.program-checked.ensures.marked c.requires.settings.0 c.requires.settings.1 c.requires.words.0 c.requires.words.1 c.requires.seat c.requires.threads),
      room_held c.args.threads c.args.p.now c.args.cfg.now c.args.reports c.requires.threads c.requires.room,
    )
