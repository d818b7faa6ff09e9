use Rattle.std.proofs.Common.{arith}
use Rattle.latch_cell.proofs.LatchSeats.{latch_joins}
use Rattle.latch_cell.proofs.steps.glue.Goals as goal

pub join_seat-requires : goal.join_seat-requires
join_seat-requires c =
    let shared = c.args.table.now.shared in
    let seat = c.args.seat.now in
    let is = c.requires.seat in
    (is.of, c.requires.other.0.of, c.requires.other.1, omega (arith, is.words), latch_joins shared.key seat.id c.args.other.id seat.me.0 c.args.other.me.0 is.share c.requires.other.0.share c.requires.still.0 c.requires.still.1)
