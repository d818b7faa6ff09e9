use Rattle.std.proofs.lemmas.Option.{unwrap_or-slice_get}
use Rattle.code_table.proofs.row_moves.taken.Goals as goal

pub returns : goal.returns
returns g c = rw (c.unwrap_or.ensures, c.copied.ensures, c.get.ensures.value, c.from.ensures) (unwrap_or-slice_get c.args.stack.now c.args.place c.args.none)
