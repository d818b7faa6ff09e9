use Rattle.std.proofs.Common.{◌≡◌, sym, ap, subst, ◌∙◌, slice_set, slice_index_or, IsSome}
use Rattle.atomic_table.specs.Seated.{TableId}
use Rattle.checked_program.specs.MarkedProgram.{MarkedProgram}
use Rattle.machine_types.specs.declared.config.Config.{Config}
use Rattle.table_rule.specs.Views.{held_in}
use Rattle.table_runner.{specs.{Going.GoesOnAt, Handed.{Handed, AreHands}, Running.IsRunOn}, proofs.{HandedThreads.{counted_hands, in_place}, ManyEvents.{hands_later, room_later, run_on}}}
use Rattle.table_runner.proofs.hands.Hands.run.Goals as goal

pub invariant_of-self : goal.invariant_of-self
invariant_of-self c =
    let h : Handed = record { program = c.self.inside.program.told; cfg = c.self.inside.cfg; table_id = c.self.inside.seat.table_id; steps = c.self.inside.seat.steps; threads = c.self.inside.threads; view = c.self.inside.seat.view } in
    let program : c.args.p.now ≡ h.program = c.requires.program ∙ ap (λ (k : Handed). k.program) (sym c.self.view_is) in
    let cfg : c.args.table.now.cfg ≡ h.cfg = c.requires.table.2 ∙ ap (λ (k : Handed). k.cfg) (sym c.self.view_is) in
    let was = slice_index_or c.self.inside.threads c.args.t c.index-self-t.result in
    let at : held_in h.threads c.args.t ≡ was = in_place c.self.inside.threads c.args.t c.index-self-t.result (subst (λ (k : Handed). IsSome (held_in k.threads c.args.t)) (sym c.self.view_is) c.requires.held) in
    let goes : GoesOnAt h.program h.cfg c.args.t was h.view c.go_on_at.new.place c.go_on_at.new.seat.view =
    subst (λ (d : Config). GoesOnAt h.program d c.args.t was h.view c.go_on_at.new.place c.go_on_at.new.seat.view) cfg
    (subst (λ (q : MarkedProgram). GoesOnAt q c.args.table.now.cfg c.args.t was h.view c.go_on_at.new.place c.go_on_at.new.seat.view) program c.go_on_at.ensures.goes) in (
      counted_hands (record h { table_id = c.go_on_at.new.seat.table_id; threads = slice_set h.threads c.args.t c.go_on_at.new.place; view = c.go_on_at.new.seat.view }) c.go_on_at.new.seat.steps
          (subst (λ (z : TableId). AreHands (record h { table_id = z; threads = slice_set h.threads c.args.t c.go_on_at.new.place; view = c.go_on_at.new.seat.view })) (sym c.go_on_at.ensures.seat.0)
          (hands_later h c.args.t c.self.invariant.0 was c.go_on_at.new.place c.go_on_at.new.seat.view at goes)),
      room_later h c.args.t was c.go_on_at.new.place c.go_on_at.new.seat.view c.self.inside.reports c.self.invariant.0 at goes c.self.invariant.1,
    )

pub returns-clause-on : goal.returns-clause-on
returns-clause-on c =
    let h : Handed = record { program = c.self.inside.program.told; cfg = c.self.inside.cfg; table_id = c.self.inside.seat.table_id; steps = c.self.inside.seat.steps; threads = c.self.inside.threads; view = c.self.inside.seat.view } in
    let program : c.args.p.now ≡ h.program = c.requires.program ∙ ap (λ (k : Handed). k.program) (sym c.self.view_is) in
    let cfg : c.args.table.now.cfg ≡ h.cfg = c.requires.table.2 ∙ ap (λ (k : Handed). k.cfg) (sym c.self.view_is) in
    let was = slice_index_or c.self.inside.threads c.args.t c.index-self-t.result in
    let at : held_in h.threads c.args.t ≡ was = in_place c.self.inside.threads c.args.t c.index-self-t.result (subst (λ (k : Handed). IsSome (held_in k.threads c.args.t)) (sym c.self.view_is) c.requires.held) in
    let goes : GoesOnAt h.program h.cfg c.args.t was h.view c.go_on_at.new.place c.go_on_at.new.seat.view =
    subst (λ (d : Config). GoesOnAt h.program d c.args.t was h.view c.go_on_at.new.place c.go_on_at.new.seat.view) cfg
    (subst (λ (q : MarkedProgram). GoesOnAt q c.args.table.now.cfg c.args.t was h.view c.go_on_at.new.place c.go_on_at.new.seat.view) program c.go_on_at.ensures.goes) in
    let on : IsRunOn c.args.t h (record h { steps = c.go_on_at.new.seat.steps; threads = slice_set h.threads c.args.t c.go_on_at.new.place; view = c.go_on_at.new.seat.view }) = run_on h c.args.t was c.go_on_at.new.place c.go_on_at.new.seat.view c.go_on_at.new.seat.steps c.self.invariant.0 at goes in
    subst (λ (k : Handed). IsRunOn c.args.t k (record h { table_id = c.go_on_at.new.seat.table_id; steps = c.go_on_at.new.seat.steps; threads = slice_set h.threads c.args.t c.go_on_at.new.place; view = c.go_on_at.new.seat.view })) c.self.view_is
    (subst (λ (z : TableId). IsRunOn c.args.t h (record h { table_id = z; steps = c.go_on_at.new.seat.steps; threads = slice_set h.threads c.args.t c.go_on_at.new.place; view = c.go_on_at.new.seat.view })) (sym c.go_on_at.ensures.seat.0) on)
