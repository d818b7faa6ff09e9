-- A look that a step adds has found what the lock word and the count are behind the step.
use Rattle.std.proofs.Common.{inl, inr, ⊎_elim, sym, ap, ◌∙◌, slice_index, slice_set}
use Rattle.solero_cell.specs.{CellRules.IsHeldByWrite, Moments.{moment_now, word_of_moment}, declared.views.Moment.{Moment, TheVariants.AtRest}}
use Rattle.solero_cell.proofs.{Looking.{word_now}, Truth.{added}}
use Rattle.latch_cell.specs.{LatchLooks.AddedLatchLooksAreTrue, LatchRules.{count_of, IsLetGo}}
use Rattle.latch_cell.proofs.Latching.{count_now}

pub added_latch_looks : AddedLatchLooksAreTrue
added_latch_looks o ws ws' views seat place m v w s at more s' =
    let now : Moment = moment_now o s'.history (slice_index ws' 0) in
    let one = added count_of (AtRest o.count) (moment_now o s.history (slice_index ws 0)) now views seat place m v w s.seats.looks at more s'.seats.looks in
    let word = word_now o s'.history (slice_index ws' 0) (⊎_elim (λ (r : IsLetGo o s'.history ws' (slice_set views seat w)). inl r.word) (λ (r : IsHeldByWrite ws' (slice_set views seat w)). inr r.word) s'.lock) in
    (one.0, word ∙ ap word_of_moment (sym one.1), s'.count ∙ sym (count_now o s'.history (slice_index ws' 0)) ∙ ap count_of (sym one.1))
