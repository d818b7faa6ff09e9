use Rattle.std.proofs.Common.{◌≡◌, true, Some, sym, ap, subst, ◌∙◌, slice_set, slice_index_or, IsSome}
use Rattle.atomic_table.specs.Seated.{TableId}
use Rattle.checked_program.specs.MarkedProgram.{MarkedProgram}
use Rattle.machine_types.specs.{Events.wanted, Threads.Thread, declared.config.Config.Config}
use Rattle.table_rule.specs.Views.{held_in}
use Rattle.table_runner.{specs.{Going.GoesAt, Handed.{Handed, AreHands, IsEventOf, steps_behind}}, proofs.HandedThreads.{counted_hands, hands_kept, made_event, room_kept, in_place}}
use Rattle.table_runner.proofs.hands.Hands.event.Goals as goal

pub invariant_of-self : goal.invariant_of-self
invariant_of-self c =
    let h : Handed = record { program = c.self.inside.program.told; cfg = c.self.inside.cfg; table_id = c.self.inside.seat.table_id; steps = c.self.inside.seat.steps; threads = c.self.inside.threads; view = c.self.inside.seat.view } in
    let program : c.args.p.now ≡ h.program = c.requires.program ∙ ap (λ (k : Handed). k.program) (sym c.self.view_is) in
    let cfg : c.args.table.now.cfg ≡ h.cfg = c.requires.table.2 ∙ ap (λ (k : Handed). k.cfg) (sym c.self.view_is) in
    let goes = λ (b : c.go_at.result ≡ true). subst (λ (d : Config). GoesAt h.program d c.args.t (slice_index_or c.self.inside.threads c.args.t c.index-self-t.result) h.view c.go_at.new.place c.go_at.new.seat.view) cfg (subst (λ (q : MarkedProgram). GoesAt q c.args.table.now.cfg c.args.t (slice_index_or c.self.inside.threads c.args.t c.index-self-t.result) h.view c.go_at.new.place c.go_at.new.seat.view) program (c.go_at.ensures.goes b)) in
    let kept : AreHands (record h { threads = slice_set h.threads c.args.t c.go_at.new.place; view = c.go_at.new.seat.view }) = hands_kept h c.args.t c.self.invariant.0 c.go_at.result (slice_index_or c.self.inside.threads c.args.t c.index-self-t.result) c.go_at.new.place c.go_at.new.seat.view (in_place c.self.inside.threads c.args.t c.index-self-t.result (subst (λ (k : Handed). IsSome (held_in k.threads c.args.t)) (sym c.self.view_is) c.requires.held)) (λ e. ((c.go_at.ensures.still e).0, (c.go_at.ensures.still e).1)) goes in (
      counted_hands (record h { table_id = c.go_at.new.seat.table_id; threads = slice_set h.threads c.args.t c.go_at.new.place; view = c.go_at.new.seat.view }) c.go_at.new.seat.steps
          (subst (λ (z : TableId). AreHands (record h { table_id = z; threads = slice_set h.threads c.args.t c.go_at.new.place; view = c.go_at.new.seat.view })) (sym c.go_at.ensures.seat.0) kept),
      room_kept h.threads c.args.t c.go_at.result h.program h.cfg (slice_index_or c.self.inside.threads c.args.t c.index-self-t.result) c.go_at.new.place h.view c.go_at.new.seat.view c.self.inside.reports (in_place c.self.inside.threads c.args.t c.index-self-t.result (subst (λ (k : Handed). IsSome (held_in k.threads c.args.t)) (sym c.self.view_is) c.requires.held)) (λ e. ((c.go_at.ensures.still e).0, (c.go_at.ensures.still e).1)) goes c.self.invariant.1,
    )

pub returns-clause-event : goal.returns-clause-event
returns-clause-event c b =
    let h : Handed = record { program = c.self.inside.program.told; cfg = c.self.inside.cfg; table_id = c.self.inside.seat.table_id; steps = c.self.inside.seat.steps; threads = c.self.inside.threads; view = c.self.inside.seat.view } in
    let program : c.args.p.now ≡ h.program = c.requires.program ∙ ap (λ (k : Handed). k.program) (sym c.self.view_is) in
    let cfg : c.args.table.now.cfg ≡ h.cfg = c.requires.table.2 ∙ ap (λ (k : Handed). k.cfg) (sym c.self.view_is) in
    let goes = subst (λ (d : Config). GoesAt h.program d c.args.t (slice_index_or c.self.inside.threads c.args.t c.index-self-t.result) h.view c.go_at.new.place c.go_at.new.seat.view) cfg (subst (λ (q : MarkedProgram). GoesAt q c.args.table.now.cfg c.args.t (slice_index_or c.self.inside.threads c.args.t c.index-self-t.result) h.view c.go_at.new.place c.go_at.new.seat.view) program (c.go_at.ensures.goes b)) in
    let counts = λ (x : Thread) (e : slice_index_or c.self.inside.threads c.args.t c.index-self-t.result ≡ Some x). subst (λ (q : MarkedProgram). c.go_at.new.seat.steps ≡ steps_behind (wanted q x x.phase) h.steps) program (c.go_at.ensures.counted b x e) in
    let event : IsEventOf h c.args.t (record h { steps = c.go_at.new.seat.steps; threads = slice_set h.threads c.args.t c.go_at.new.place; view = c.go_at.new.seat.view }) = made_event h c.args.t c.self.invariant.0 (slice_index_or c.self.inside.threads c.args.t c.index-self-t.result) c.go_at.new.place c.go_at.new.seat.view c.go_at.new.seat.steps (in_place c.self.inside.threads c.args.t c.index-self-t.result (subst (λ (k : Handed). IsSome (held_in k.threads c.args.t)) (sym c.self.view_is) c.requires.held)) goes counts in
    subst (λ (k : Handed). IsEventOf k c.args.t (record h { table_id = c.go_at.new.seat.table_id; steps = c.go_at.new.seat.steps; threads = slice_set h.threads c.args.t c.go_at.new.place; view = c.go_at.new.seat.view })) c.self.view_is
    (subst (λ (z : TableId). IsEventOf h c.args.t (record h { table_id = z; steps = c.go_at.new.seat.steps; threads = slice_set h.threads c.args.t c.go_at.new.place; view = c.go_at.new.seat.view })) (sym c.go_at.ensures.seat.0) event)
