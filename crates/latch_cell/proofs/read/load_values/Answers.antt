use Rattle.std.proofs.Common.{length, ap, sym, ◌∙◌, arith}
use Rattle.solero_cell.{specs.{Steps.note_of, declared.views.View.View}, proofs.Going.{loading_on}}
use Rattle.latch_cell.{specs.Copies.copy_start, proofs.LatchSeats.{latch_seat_on}}
use Rattle.latch_cell.proofs.read.load_values.Goals as goal

pub load_value-requires-clause-seat : goal.load_value-requires-clause-seat
load_value-requires-clause-seat c =
    let shared = c.args.table.now.shared in
    let e = c.loop-i.invariant.0 in
    latch_seat_on shared.table_id shared.key c.args.seat.now.table_id c.loop-i.seat.table_id c.args.seat.now.me.0 c.loop-i.seat.me.0 c.loop-i.invariant.2 (ap (λ (v : View). v.opening) e) (ap (λ (v : View). v.share) e) c.requires.seat

pub load_value-requires-clause-loading : goal.load_value-requires-clause-loading
load_value-requires-clause-loading c =
    let lt = c.loop-i-test.true in
    loading_on c.loop-i.i c.loop-i.values c.args.seat.now.me.0 c.loop-i.seat.me.0 c.loop-i.invariant.0 (omega (arith, lt, c.loop-i.invariant.1)) c.requires.loading

pub load_value-requires-clause-start : goal.load_value-requires-clause-start
load_value-requires-clause-start c =
    c.requires.start ∙ sym (ap (λ (v : View). copy_start (length c.args.table.now.shared.key.values) (note_of v)) c.loop-i.invariant.0)
