use Rattle.std.proofs.Common.{◌≡◌, sym, ap, subst, ◌∙◌, replicate, None, slice_set}
use Rattle.atomic_table.specs.Seated.{TableId}
use Rattle.checked_program.specs.MarkedProgram.{MarkedProgram}
use Rattle.table_rule.specs.Views.{View}
use Rattle.table_runner.{specs.{Handed.{Handed, AreHands, HasReportRoom}, Sharing.{only_thread, thread_alone, view_without, without_thread}}, proofs.{HandedThreads.counted_hands, HandsApart.{are_alone, are_without, room_alone, room_without}}}
use Rattle.table_runner.proofs.hands.Hands.split.Goals as goal

pub invariant_of-self : goal.invariant_of-self
invariant_of-self c =
    let h : Handed = record { program = c.self.inside.program.told; cfg = c.self.inside.cfg; table_id = c.self.inside.seat.table_id; steps = c.self.inside.seat.steps; threads = c.self.inside.threads; view = c.self.inside.seat.view } in (
      counted_hands (record h { table_id = c.cut-seat.new.seat.table_id; threads = c.take-thread.new.threads; view = c.cut-seat.new.seat.view }) c.cut-seat.new.seat.steps
          (subst (λ (w : View). AreHands (record h { table_id = c.cut-seat.new.seat.table_id; threads = c.take-thread.new.threads; view = w })) (sym c.cut-seat.ensures.seat.2)
          (subst (λ (ts : View). AreHands (record h { table_id = c.cut-seat.new.seat.table_id; threads = ts; view = view_without c.args.t h.view })) (sym c.take-thread.ensures.left)
          (subst (λ (z : TableId). AreHands (record h { table_id = z; threads = view_without c.args.t h.threads; view = view_without c.args.t h.view })) (sym c.cut-seat.ensures.seat.0) (counted_hands (without_thread h c.args.t) h.steps (are_without h c.args.t c.self.invariant.0))))),
      subst (λ (ts : View). HasReportRoom ts c.take_room-reports.new.reports) (sym c.take-thread.ensures.left) (room_without h.threads c.args.t c.self.inside.reports c.take_room-reports.new.reports (λ e. (c.take_room-reports.ensures.goes e).1) (λ n. (c.take_room-reports.ensures.stays n).1) c.self.invariant.1),
    )

pub invariant_of-result : goal.invariant_of-result
invariant_of-result c =
    let h : Handed = record { program = c.self.inside.program.told; cfg = c.self.inside.cfg; table_id = c.self.inside.seat.table_id; steps = c.self.inside.seat.steps; threads = c.self.inside.threads; view = c.self.inside.seat.view } in
    let program : h.program ≡ c.again.result.told = sym c.again.ensures in
    let its : c.alone-threads.result ≡ only_thread c.args.t h.threads = c.alone-threads.ensures ∙ ap (λ o. slice_set (replicate 9 None) c.args.t o) c.take-thread.ensures.taken in (
      counted_hands (record h { program = c.again.result.told; table_id = c.cut-seat.result.table_id; threads = c.alone-threads.result; view = c.cut-seat.result.view }) c.cut-seat.result.steps
          (subst (λ (q : MarkedProgram). AreHands (record h { program = q; table_id = c.cut-seat.result.table_id; threads = c.alone-threads.result; view = c.cut-seat.result.view })) program
          (subst (λ (w : View). AreHands (record h { table_id = c.cut-seat.result.table_id; threads = c.alone-threads.result; view = w })) (sym c.cut-seat.ensures.other.1)
          (subst (λ (ts : View). AreHands (record h { table_id = c.cut-seat.result.table_id; threads = ts; view = only_thread c.args.t h.view })) (sym its)
          (subst (λ (z : TableId). AreHands (record h { table_id = z; threads = only_thread c.args.t h.threads; view = only_thread c.args.t h.view })) (sym c.cut-seat.ensures.other.0) (counted_hands (thread_alone h c.args.t) h.steps (are_alone h c.args.t c.take-thread.ensures.small c.self.invariant.0)))))),
      subst (λ (ts : View). HasReportRoom ts c.take_room-reports.result) (sym its) (room_alone h.threads c.args.t c.self.inside.reports c.take_room-reports.result c.take-thread.ensures.small (λ e. (c.take_room-reports.ensures.goes e).0) (λ n. (c.take_room-reports.ensures.stays n).0) c.self.invariant.1),
    )
