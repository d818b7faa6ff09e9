use Rattle.std.proofs.Common.{arith}
use Rattle.latch_cell.proofs.LatchSeats.{latch_splits}
use Rattle.latch_cell.proofs.steps.cut.Goals as goal

pub split_seat-requires : goal.split_seat-requires
split_seat-requires c =
    let shared = c.args.table.now.shared in
    let seat = c.args.seat.now in
    let is = c.requires.seat in
    (is.of, omega (arith, is.words), latch_splits shared.key seat.id seat.me.0 is.share c.requires.still)
