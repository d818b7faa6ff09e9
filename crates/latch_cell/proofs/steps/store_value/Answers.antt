use Rattle.std.proofs.Common.{◌≡◌, ◌+◌, ◌≤◌, length, subst, sym, arith}
use Rattle.solero_cell.{specs.{CellViews.has_stored, Steps.{note_of, storing_of}}, proofs.Allowing.{any_write_allows}}
use Rattle.latch_cell.{specs.{Copies.latch_words, LatchRules.HasTwoCopies}, proofs.{CopyWords.{copy_high}, LatchWrites.{store_step}}}
use Rattle.latch_cell.proofs.steps.store_value.Goals as goal

pub store-requires : goal.store-requires
store-requires c =
    let shared = c.args.table.now.shared in
    let seat = c.args.seat.now in
    let is = c.requires.seat in
    let high : c.args.start + length shared.key.values ≤ latch_words (length shared.key.values) = subst (λ k. k + length shared.key.values ≤ latch_words (length shared.key.values)) (sym c.requires.start) (copy_high (length shared.key.values) (note_of seat.me.0 + 1)) in
    (is.of, omega (arith, is.words, c.requires.within, high), any_write_allows (HasTwoCopies shared.key) shared.table_id.slots seat.id (c.args.start + c.args.i) (λ n. c.args.value) seat.me (λ x w. w ≡ has_stored (storing_of seat.me.0) seat.me.0) is.share (λ ws at s. store_step shared.key ws at s c.args.i c.requires.storing.0 c.args.value c.args.start c.requires.start c.requires.storing.1))
