-- A seat that is split, and two that are joined, keep the rule. And a new cell meets it.
use Rattle.std.proofs.Common.{◌≡◌, ℕ, ◌+◌, ◌*◌, ◌<◌, inl, List, [], ◌∷◌, ◌++◌, length, length-append, Some, refl, sym, ap, subst, ◌∙◌, arith}
use Rattle.atomic_table.{specs.Table.{Splits, Joins}, proofs.Lists.{set_else}}
use Rattle.atomic_table.specs.Seated.{TableId}
use Rattle.solero_cell.specs.{CellRules.{storing_count}, CellViews.{first_view, halved, newcomer, taken_in, spent, IsStill}, Moments.moment_now, declared.views.{Moment.TheVariants.AtRest, Record.Record, View.View}}
use Rattle.solero_cell.proofs.{Allowing.{Seat, by_words}, Looking.{rests_now}, SeatSteps.{cut_views, cut_sum, seats_cut, halved_knows, newcomer_knows, joined_of, joined_stores, seats_joined, both_know, seats_opened, first_knows}}
use Rattle.latch_cell.specs.{Copies.{copy_gap}, LatchRules.{count_of, LatchKnowledge, HasTwoCopies}, LatchStages.{IsLatchSeatAt}}
use Rattle.latch_cell.proofs.{CopyWords.{opening_copy}, Latching.{copies, its, now, locks_as}}
use lib.ListN.{get_elem?}
use mathlib.Core.Option.{some}

-- ---- the seat stays at its table

pub latch_seat_on : (table : TableId) (o : Record) (seat seat' : TableId) (v w : View) → seat' ≡ seat → w.opening ≡ v.opening → w.share ≡ v.share
    → IsLatchSeatAt table o seat v → IsLatchSeatAt table o seat' w
latch_seat_on table o seat seat' v w e opening share s = record {
  of = e ∙ s.of;
  opening_is = opening ∙ s.opening_is;
  share = subst (λ n. 0 < n) (ap (λ z. z.parts) (sym share)) s.share;
  words = s.words;
  few = s.few;
}

-- ---- a split

pub latch_splits : {S : Type 0} (o : Record) (id : ℕ) (v : View) → 0 < v.share.parts → IsStill v
    → Splits {S = S} (by_words (HasTwoCopies o)) id v (halved v) (newcomer v)
latch_splits o id v parts still s run at =
    let ws = s.words in
    let seat : Seat id v = record { views = s.views; at = at; parts = parts } in
    let mine = its o ws seat run in
    record {
      history = run.history;
      long = run.long;
      count = run.count;
      values = run.values;
      lock = locks_as o run.history ws s.views (cut_views seat) (cut_sum seat storing_count refl refl) run.lock;
      seats = seats_cut seat o run.history (LatchKnowledge o run.history ws) count_of (now o ws seat run) run.seats
          (halved_knows (copies o ws) o run.history v still mine) (newcomer_knows (copies o ws) o run.history v still mine);
    }

-- ---- a join

pub latch_joins : {S : Type 0} (o : Record) (id other : ℕ) (v w : View) → 0 < v.share.parts → 0 < w.share.parts → IsStill v → IsStill w
    → Joins {S = S} (by_words (HasTwoCopies o)) id v other w (taken_in v w) spent
latch_joins o id other v w parts parts' still still' s run at apart g =
    let ws = s.words in
    let at_other : get_elem? s.views other ≡ some w = sym (set_else s.views id other (taken_in v w) apart) ∙ g in
    let seat : Seat id v = record { views = s.views; at = at; parts = parts } in
    let seat' : Seat other w = record { views = s.views; at = at_other; parts = parts' } in
    record {
      history = run.history;
      long = run.long;
      count = run.count;
      values = run.values;
      lock = locks_as o run.history ws s.views (joined_of seat other w apart at_other) (joined_stores seat other w apart at_other still still') run.lock;
      seats = seats_joined seat other w apart at_other o run.history (LatchKnowledge o run.history ws) count_of (now o ws seat run) run.seats
          (both_know (copies o ws) o run.history v w (its o ws seat run) (its o ws seat' run));
    }

-- ---- a new cell

pub latch_opening : (o : Record) (gap : List ℕ) → length gap ≡ copy_gap (length o.values)
    → HasTwoCopies o (4 * o.count ∷ o.count ∷ gap ++ o.values ++ gap ++ o.values) (first_view o ∷ [])
latch_opening o gap wide =
    let ws : List ℕ = 4 * o.count ∷ o.count ∷ gap ++ o.values ++ gap ++ o.values in
    record {
      history = [];
      long =
          let m = length-append (gap ++ o.values ++ gap) o.values in
          let n = length-append (gap ++ o.values) gap in
          let p = length-append gap o.values in
          omega (arith, m, n, p, wide);
      count = omega arith;
      values = record { count = refl; values = ap Some (sym (opening_copy (4 * o.count) o.count gap o.values (o.count + 0) wide)) };
      lock = inl (record { word = omega arith; nobody = refl });
      seats = seats_opened o (LatchKnowledge o [] ws) count_of (moment_now o [] (4 * o.count)) (first_knows (copies o ws) o)
          (sym (rests_now o [] (4 * o.count) o.count refl ∙ ap AtRest (omega arith)));
    }
