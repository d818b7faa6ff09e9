use Rattle.std.proofs.Common.{length, ap, ◌∙◌}
use Rattle.solero_cell.{specs.declared.views.View.View, proofs.Going.{all_loaded, begin_loading, seat_on}}
use Rattle.solero_cell.proofs.read.attempt_behind.Goals as goal

pub load_values-requires-clause-loading : goal.load_values-requires-clause-loading
load_values-requires-clause-loading g c = begin_loading c.args.seat.now.me.0 c.args.count c.requires.noted c.requires.still

pub finish-found-requires-clause-seat : goal.finish-found-requires-clause-seat
finish-found-requires-clause-seat g c =
    let shared = c.args.table.now.shared in
    let e = c.load_values.ensures.loaded in
    seat_on shared.table_id shared.key c.args.seat.now.table_id c.load_values.new.seat.table_id c.args.seat.now.me.0 c.load_values.new.seat.me.0 c.load_values.ensures.seat.0 (ap (λ (v : View). v.opening) e) (ap (λ (v : View). v.share) e) c.requires.seat

pub finish-found-requires-clause-loading : goal.finish-found-requires-clause-loading
finish-found-requires-clause-loading g c =
    all_loaded (length c.args.table.now.shared.key.values) c.load_values.new.values c.args.seat.now.me.0 c.load_values.new.seat.me.0 c.args.count c.load_values.ensures.loaded (c.load_values.ensures.long ∙ c.requires.long) c.requires.noted c.requires.still
