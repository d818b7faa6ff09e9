use Rattle.std.proofs.Common.{length, ap, sym, ◌∙◌, ◌+◌}
use Rattle.solero_cell.specs.{Steps.note_of, declared.views.View.View}
use Rattle.latch_cell.{specs.Copies.copy_start, proofs.LatchSeats.{latch_seat_on}}
use Rattle.latch_cell.proofs.write.store_values.Goals as goal

pub store_value-requires-clause-seat : goal.store_value-requires-clause-seat
store_value-requires-clause-seat c =
    let shared = c.args.table.now.shared in
    let e = c.loop-i.invariant.0 in
    latch_seat_on shared.table_id shared.key c.args.seat.now.table_id c.loop-i.seat.table_id c.args.seat.now.me.0 c.loop-i.seat.me.0 c.loop-i.invariant.1 (ap (λ (v : View). v.opening) e) (ap (λ (v : View). v.share) e) c.requires.seat

pub store_value-requires-clause-start : goal.store_value-requires-clause-start
store_value-requires-clause-start c =
    c.requires.start ∙ sym (ap (λ (v : View). copy_start (length c.args.table.now.shared.key.values) (note_of v + 1)) c.loop-i.invariant.0)
