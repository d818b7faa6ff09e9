use Rattle.std.proofs.Common.{◌∷◌, [], sym, subst}
use Rattle.solero_cell.specs.CellViews.{first_view}
use Rattle.latch_cell.{specs.LatchRules.HasTwoCopies, proofs.LatchSeats.{latch_opening}}
use Rattle.latch_cell.proofs.seat.opened.Goals as goal

pub of_words-requires : goal.of_words-requires
of_words-requires c =
    subst (λ ws. HasTwoCopies c.args.opening.now ws (first_view c.args.opening.now ∷ [])) (sym c.requires.words) (latch_opening c.args.opening.now c.args._gap.now c.requires.gap)
