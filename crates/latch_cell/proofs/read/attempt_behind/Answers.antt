use Rattle.std.proofs.Common.{length, sym, ap, ◌∙◌}
use Rattle.solero_cell.{specs.declared.views.View.View, proofs.Going.{all_loaded, begin_loading, note_is}}
use Rattle.latch_cell.{specs.Copies.copy_start, proofs.LatchSeats.{latch_seat_on}}
use Rattle.latch_cell.proofs.read.attempt_behind.Goals as goal

pub load_values-requires-clause-loading : goal.load_values-requires-clause-loading
load_values-requires-clause-loading g c = begin_loading c.args.seat.now.me.0 c.args.count c.requires.noted c.requires.still

pub load_values-requires-clause-start : goal.load_values-requires-clause-start
load_values-requires-clause-start g c =
    c.copy_start-start.ensures.start ∙ ap (λ n. copy_start n c.args.count) c.requires.long ∙ ap (copy_start (length c.args.table.now.shared.key.values)) (sym (note_is c.args.seat.now.me.0 c.args.count c.requires.noted))

pub count_again-found-requires-clause-seat : goal.count_again-found-requires-clause-seat
count_again-found-requires-clause-seat g c =
    let shared = c.args.table.now.shared in
    let e = c.load_values.ensures.loaded in
    latch_seat_on shared.table_id shared.key c.args.seat.now.table_id c.load_values.new.seat.table_id c.args.seat.now.me.0 c.load_values.new.seat.me.0 c.load_values.ensures.seat.0 (ap (λ (v : View). v.opening) e) (ap (λ (v : View). v.share) e) c.requires.seat

pub count_again-found-requires-clause-loading : goal.count_again-found-requires-clause-loading
count_again-found-requires-clause-loading g c =
    all_loaded (length c.args.table.now.shared.key.values) c.load_values.new.values c.args.seat.now.me.0 c.load_values.new.seat.me.0 c.args.count c.load_values.ensures.loaded (c.load_values.ensures.long ∙ c.requires.long) c.requires.noted c.requires.still
