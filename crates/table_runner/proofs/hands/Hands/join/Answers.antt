use Rattle.std.proofs.Common.{◌≡◌, sym, ap, subst, ◌∙◌}
use Rattle.atomic_table.specs.Seated.{TableId}
use Rattle.table_rule.specs.Views.{View}
use Rattle.table_runner.{specs.{Handed.{Handed, AreHands}, Sharing.merged}, proofs.{HandedThreads.counted_hands, HandsApart.{are_joined, room_joined}}}
use Rattle.table_runner.proofs.hands.Hands.join.Goals as goal

pub invariant_of-self : goal.invariant_of-self
invariant_of-self c =
    let h : Handed = record { program = c.self.inside.program.told; cfg = c.self.inside.cfg; table_id = c.self.inside.seat.table_id; steps = c.self.inside.seat.steps; threads = c.self.inside.threads; view = c.self.inside.seat.view } in
    let k : Handed = record { program = c.other.inside.program.told; cfg = c.other.inside.cfg; table_id = c.other.inside.seat.table_id; steps = c.other.inside.seat.steps; threads = c.other.inside.threads; view = c.other.inside.seat.view } in
    let program : k.program ≡ h.program = ap (λ (x : Handed). x.program) c.other.view_is ∙ sym c.requires.other.1 ∙ c.requires.table.1 ∙ ap (λ (x : Handed). x.program) (sym c.self.view_is) in
    let cfg : k.cfg ≡ h.cfg = ap (λ (x : Handed). x.cfg) c.other.view_is ∙ sym c.requires.other.2 ∙ c.requires.table.2 ∙ ap (λ (x : Handed). x.cfg) (sym c.self.view_is) in (
      counted_hands (record h { table_id = c.glue.new.seat.table_id; threads = c.merge.new.threads; view = c.glue.new.seat.view }) c.glue.new.seat.steps
          (subst (λ (w : View). AreHands (record h { table_id = c.glue.new.seat.table_id; threads = c.merge.new.threads; view = w })) (sym c.glue.ensures.seat.2)
          (subst (λ (z : TableId). AreHands (record h { table_id = z; threads = c.merge.new.threads; view = merged h.view k.view })) (sym c.glue.ensures.seat.0)
          (are_joined h k c.merge.new.threads c.self.invariant.0 c.other.invariant.0 program cfg c.merge.ensures))),
      room_joined h.threads k.threads c.merge.new.threads c.self.inside.reports c.other.inside.reports c.join_room.new.reports c.self.invariant.1 c.other.invariant.1 c.merge.ensures c.join_room.ensures.some c.join_room.ensures.none,
    )
