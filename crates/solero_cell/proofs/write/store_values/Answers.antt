use Rattle.std.proofs.Common.{ap}
use Rattle.solero_cell.{specs.declared.views.View.View, proofs.Going.seat_on}
use Rattle.solero_cell.proofs.write.store_values.Goals as goal

pub store_value-requires-clause-seat : goal.store_value-requires-clause-seat
store_value-requires-clause-seat c =
    let shared = c.args.table.now.shared in
    let e = c.loop-i.invariant.0 in
    seat_on shared.table_id shared.key c.args.seat.now.table_id c.loop-i.seat.table_id c.args.seat.now.me.0 c.loop-i.seat.me.0 c.loop-i.invariant.1 (ap (λ (v : View). v.opening) e) (ap (λ (v : View). v.share) e) c.requires.seat
