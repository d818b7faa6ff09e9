-- How far a read is, as its view goes on.
use Rattle.std.proofs.Common.{◌≡◌, ℕ, ◌<◌, List, Bool, Some, refl, sym, ap, subst, ◌∙◌}
use Rattle.solero_cell.specs.{CellViews.{IsStill, record_of, has_looked, forgot, has_read}, Histories.IsRecordSeen, declared.views.View.View}
use Rattle.solero_cell.proofs.Going.{forgot_still, note_is, seen_as}
use Rattle.latch_cell.specs.{LatchAttempts.{IsBehindCopyGot, IsBehindCopyChanged}, LatchSteps.{HasReadCopy, EndsCopyAttempt, copy_attempt_ended}}

pub behind_got : (v u now : View) (c : ℕ) (xs : List ℕ) → u ≡ record v { loaded = xs } → v.note ≡ Some c → IsStill v → HasReadCopy u now → IsBehindCopyGot v c xs now
behind_got v u now c xs e n still h =
    let k : HasReadCopy (record v { loaded = xs }) now = subst (λ (x : View). HasReadCopy x now) e h in
    let count = note_is v c n in
    let seen : IsRecordSeen (record v { loaded = xs }) (record_of c xs) = subst (λ (m : ℕ). IsRecordSeen (record v { loaded = xs }) (record_of m xs)) count k.seen in
    record {
      place = k.place;
      found = k.moment;
      view = k.view ∙ ap (λ (m : ℕ). has_read (record_of m xs) (has_looked k.place k.moment (forgot v))) count ∙ ap (λ (u : View). has_read (record_of c xs) (has_looked k.place k.moment u)) (forgot_still v still.loaded);
      found_is = sym count ∙ k.count_is;
      seen = seen_as (record v { loaded = xs }) v (record_of c xs) refl refl refl seen;
    }

pub behind_changed : (b : Bool) (v u now : View) (c found : ℕ) (xs : List ℕ) → u ≡ record v { loaded = xs } → v.note ≡ Some c → IsStill v
    → EndsCopyAttempt b u found now → IsBehindCopyChanged b v c found now
behind_changed b v u now c found xs e n still h =
    let k : EndsCopyAttempt b (record v { loaded = xs }) found now = subst (λ (x : View). EndsCopyAttempt b x found now) e h in
    record {
      place = k.place;
      last = k.moment;
      view = k.view ∙ ap (copy_attempt_ended b k.place k.moment) (forgot_still v still.loaded);
      found_is = k.count_is;
      above = subst (λ m. m < found) (note_is v c n) k.above;
    }
