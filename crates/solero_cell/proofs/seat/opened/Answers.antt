use Rattle.std.proofs.Common.{◌∷◌, [], sym, subst}
use Rattle.solero_cell.{specs.{CellRules.HasOneHistory, CellViews.first_view}, proofs.SeatSteps.opening_shows}
use Rattle.solero_cell.proofs.seat.opened.Goals as goal

pub of_words-requires : goal.of_words-requires
of_words-requires c =
    subst (λ ws. HasOneHistory c.args.opening.now ws (first_view c.args.opening.now ∷ [])) (sym c.requires) (opening_shows c.args.opening.now)
