-- The report of a cell that has ended, by the seat that has taken in all others.
use Rattle.std.{proofs.Common.{◌≡◌, ℕ, zero, suc, ◌+◌, ◌*◌, ◌-◌, ◌^◌, ◌≤◌, inl, inr, Bool, true, false, List, [], ◌∷◌, length, Some, None, refl, sym, ap, subst, ◌∙◌, arith, IfSome}, specs.List.sum_by}
use Rattle.std.proofs.lemmas.List.Sums.{sum_by-cons}
use Rattle.atomic_table.specs.Seated.{TableId}
use Rattle.solero_cell.specs.{Calls.{IsOnlySeat, IsAtEnd, IsWhole}, CellRules.{SeatFits, ViewKnowledge, HasOneHistory, is_in_span, one_if, written_count}, CellViews.spent, declared.views.{Record.Record, View.View}}
use Rattle.cell_runner.specs.{CellRuns.{IsCellRun, all_zero}, HandsOfCell.HasGathered, declared.{hands.Hand.Hand, report.CellReport.CellReport}}
use lib.ListN.{get_elem?}
use mathlib.Core.Option.{some, some-injective, some-ne-none}

-- ---- what one view has, where all others are spent

module _ (f : View → ℕ) (none : f spent ≡ 0) where
  sum_of_spent : (views : List View) → ((i : ℕ) (v : View) → get_elem? views i ≡ some v → v ≡ spent) → sum_by f views ≡ 0
  sum_of_spent [] all = refl
  sum_of_spent (u ∷ us) all =
      let here : f u ≡ 0 = ap f (all 0 u refl) ∙ none in
      let rest = sum_of_spent us (λ i v at. all (suc i) v at) in
      omega (arith, here, rest, sum_by-cons f u us)

  sum_of_one : (views : List View) (number : ℕ) (v : View) → get_elem? views number ≡ some v → IsOnlySeat number views → sum_by f views ≡ f v
  sum_of_one [] number v at alone = absurd (some-ne-none v (sym at))
  sum_of_one (u ∷ us) zero v at alone =
      let here : f u ≡ f v = ap f (some-injective u v at) in
      let rest = sum_of_spent us (λ i w at'. alone (suc i) w (λ e. absurd (omega (arith, e))) at') in
      omega (arith, here, rest, sum_by-cons f u us)
  sum_of_one (u ∷ us) (suc n) v at alone =
      let here : f u ≡ 0 = ap f (alone 0 u (λ e. absurd (omega (arith, e))) refl) ∙ none in
      let rest = sum_of_one us n v at (λ i w ne at'. alone (suc i) w (λ e. ne (omega (arith, e))) at') in
      omega (arith, here, rest, sum_by-cons f u us)

-- ---- no seat has found the cell full

note_spent : (v : View) → v ≡ spent → v.note ≡ Some (2 ^ 62 - 1) → ⊥
note_spent v e n = let bad : None ≡ Some (2 ^ 62 - 1) = sym (ap (λ (x : View). x.note) e) ∙ n in absurd (cc)

note_below : (o : Record) (words : List ℕ) (views : List View) (number : ℕ) (v : View) (s : HasOneHistory o words views)
    → get_elem? views number ≡ some v → v.note ≡ Some (2 ^ 62 - 1) → 2 ^ 62 - 1 ≤ o.count + length s.history
note_below o words views number v s here n = by (s.seats.each number v here)
  where
    by : SeatFits (ViewKnowledge o s.history words) v → 2 ^ 62 - 1 ≤ o.count + length s.history
    by (inl e) = absurd (note_spent v e n)
    by (inr k) = subst (λ m. IfSome m (λ c. c ≤ o.count + length s.history)) n k.1.note

not_full : (b : Bool) → (b ≡ true → ⊥) → b ≡ false
not_full true never = absurd (never refl)
not_full false never = refl

-- ---- the report

abbrev pub reports : Hand → CellReport
reports h = record { writes = h.tally.writes; reads = h.tally.reads; stopped = h.tally.stopped; end = h.seat.view }

pub reported : (workers rounds turns : ℕ) (table : TableId) (h : Hand) → workers * rounds ≤ 8000
    → HasGathered table all_zero workers rounds turns h → IsWhole h.seat.view.share → IsAtEnd h.seat.view
    → IsCellRun workers rounds turns (reports h)
reported workers rounds turns table h few g whole e =
    let v = h.seat.view in
    let shows : HasOneHistory all_zero e.words e.views = subst (λ (o : Record). HasOneHistory o e.words e.views) (sym g.of.1) e.shows in
    let alone : IsOnlySeat e.number e.views = e.whole whole in
    let count : length shows.history ≡ h.tally.writes =
    sym shows.seats.count ∙ sum_of_one written_count refl e.views e.number v e.here alone ∙ sym g.counted.writes in
    let room : h.is_full ≡ false = not_full h.is_full (λ full.
    let le = note_below all_zero e.words e.views e.number v shows e.here (g.counted.full full) in
    absurd (omega (arith, le, count, few, g.over.writes))) in
    record {
      of = record {
        opening_is = sym g.of.1;
        writes_is = g.counted.writes;
        reads_is = g.counted.reads;
        failed_most = g.stopped;
      };
      words = e.words;
      views = e.views;
      number = e.number;
      shows = shows;
      here = e.here;
      alone = alone;
      once = λ n. shows.seats.once n ∙ ap (λ last. one_if (is_in_span n 0 last)) (omega (arith, count));
      got = g.counted.reads ∙ sym (sum_of_one (λ (u : View). u.reads) refl e.views e.number v e.here alone);
      failed = subst (λ n. h.tally.stopped * turns ≤ n) (sym (sum_of_one (λ (u : View). u.failed) refl e.views e.number v e.here alone)) g.stopped;
      stopped = g.over.stopped;
      written = (g.over.all_writes room, g.over.writes);
      read = (g.over.all_reads room, g.over.reads);
    }
