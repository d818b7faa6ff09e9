use Rattle.std.proofs.Common.{◌≡◌, ◌+◌, ◌≤◌, length, subst, sym, arith}
use Rattle.solero_cell.{specs.CellViews.has_loaded, specs.Steps.note_of, proofs.Allowing.{any_load_allows}}
use Rattle.latch_cell.{specs.{Copies.latch_words, LatchRules.HasTwoCopies}, proofs.{CopyWords.{copy_high}, LatchReads.{load_step}}}
use Rattle.latch_cell.proofs.steps.load_value.Goals as goal

pub load-requires : goal.load-requires
load-requires c =
    let shared = c.args.table.now.shared in
    let seat = c.args.seat.now in
    let is = c.requires.seat in
    let high : c.args.start + length shared.key.values ≤ latch_words (length shared.key.values) = subst (λ k. k + length shared.key.values ≤ latch_words (length shared.key.values)) (sym c.requires.start) (copy_high (length shared.key.values) (note_of seat.me.0)) in
    (is.of, omega (arith, is.words, c.requires.within, high), any_load_allows (HasTwoCopies shared.key) shared.table_id.slots seat.id (c.args.start + c.args.i) seat.me (λ x w. w ≡ has_loaded x seat.me.0) is.share (λ ws at s. load_step shared.key ws at s c.args.i c.args.start c.requires.start c.requires.loading c.requires.within))
