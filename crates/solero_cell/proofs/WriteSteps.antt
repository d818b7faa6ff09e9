-- The steps of a write keep the rule: its exchange and its stores, and what they tell.
use Rattle.std.proofs.Common.{◌≡◌, ◌≢◌, ℕ, suc, ◌+◌, ◌*◌, ◌≤◌, ◌==◌, ◌⊎◌, inl, inr, ⊎_elim, List, [], ◌∷◌, ◌++◌, length, length-append, take, drop, Some, None, refl, sym, ap, subst, ◌∙◌, arith, slice_index, slice_set, slice_get}
use Rattle.std.{specs.{List.sum_by}, proofs.lemmas.{Bool.Decides.nat_tests, List.{length-set, set-get_or, Sums.sum_by_push}}}
use Rattle.lists.proofs.ListLaws.{same_some}
use Rattle.atomic_table.proofs.Lists.{exchanged}
use Rattle.solero_cell.specs.CellRules.{cell_values, IsUnderWay, ViewKnowledge, one_if, storing_count, is_in_span, IsAtRest, IsHeldByWrite, HasOneHistory}
use Rattle.solero_cell.specs.{CellViews.{record_of, has_looked, has_failed, has_taken, one_stored, has_stored, has_written, has_released}, Histories.{History, last_count, IsLast}}
use Rattle.solero_cell.specs.{Stages.{IsNoted, IsStoring}, Steps.{note_of, storing_of, TellsTake, HasWritten}, Moments.{moment_now, time_of}, declared.views.{Moment.Moment, Moment.TheVariants.{AtRest, UnderWay}, Record.Record, Storing.Storing, View.View}}
use Rattle.solero_cell.proofs.Allowing.{LeadsTo, Seat}
use Rattle.solero_cell.proofs.{Looking.{held_now, looks_kept, looks_on, rests_now, time_at}, Knowing.{pair, some_value, calm_seat, nothing_loaded, if_some, some_is, not_storing, is_not_storing, is_storing, one_place, still_knows, more_knows}, Made.{looked, made}}
use Rattle.solero_cell.proofs.{ReadSteps.{its, next, looks, stands}, Standing.{at_most_last, is_seen, last_stands, own_on, all_both, new_last}, Sums.{sum_set, at_most, others_none}}
use Rattle.solero_cell.proofs.Words.{values_long, all_taken, lock_set, values_kept, lock_kept, value_set}
use lib.ListN.{get_elem?}
use mathlib.Core.Option.{some}
use prog.Atomic.{either}

abbrev pub Leads : (o : Record) (ws : List ℕ) (views : List View) (id i x : ℕ) → (View → Type 0) → Type 0
Leads o = LeadsTo (HasOneHistory o)

-- the counts above the first, up to one more
pub one_more : (n first last : ℕ) → first ≤ last → one_if (is_in_span n first (last + 1)) ≡ one_if (is_in_span n first last) + one_if (last + 1 == n)
one_more n first last le = grind (arith, nat_tests)

-- ---- what a write has stored

pub one_stored_as : (x : ℕ) (left : List ℕ) → slice_get left 0 ≡ Some x → (stored : List ℕ)
    → one_stored (pair stored left) ≡ pair (stored ++ x ∷ []) (drop 1 left)
one_stored_as x [] e stored = let bad : None ≡ Some x = e in absurd (cc)
one_stored_as x (y ∷ left) e stored = let same : y ≡ x = cc in ap (λ z. pair (stored ++ z ∷ []) left) same

pub shorter : (x : ℕ) (left : List ℕ) → slice_get left 0 ≡ Some x → length left ≡ suc (length (drop 1 left))
shorter x [] e = let bad : None ≡ Some x = e in absurd (cc)
shorter x (y ∷ left) e = refl

module _ (o : Record) {id : ℕ} {v : View} (ws : List ℕ) (seat : Seat id v) (s : HasOneHistory o ws seat.views) where
  open seat use {views, at, parts}

  abbrev mine : ViewKnowledge o s.history ws v
  mine = its o ws seat s

  -- ---- a take exchange

  module _ (noted : ℕ) (xs : List ℕ) (is : IsNoted noted v) (long : length xs ≡ length o.values) where
    note : v.note ≡ Some (note_of v)
    note = some_value 0 v.note is.noted

    taken_at : slice_index ws 0 ≡ noted → IsAtRest o s.history ws views → Leads o ws views id 0 6 (TellsTake xs v (slice_index ws 0))
    taken_at e r =
        let place : ℕ = next o ws seat s in
        let w : View = has_taken xs (has_looked place (UnderWay (note_of v)) v) in
        let c : note_of v ≡ last_count o s.history = omega (arith, e, r.word, is.word_is) in
        let ws' : List ℕ = slice_set ws 0 6 in
        let lock : slice_index ws' 0 ≡ 6 = lock_set ws 6 (omega (arith, s.long)) in
        let sum = sum_set storing_count views id v w at in
        let none : storing_count v ≡ 0 = is_not_storing v is.still.storing in
        let one : storing_count w ≡ 1 = refl in
        let now : sum_by storing_count (slice_set views id w) ≡ 1 = omega (arith, sum, none, one, r.nobody) in
        let k : ViewKnowledge o s.history ws' w = record {
          opening_is = mine.opening_is;
          own = record { writes = mine.own.writes; latest = mine.own.latest };
          note = mine.note;
          loaded = nothing_loaded (one_place ws') v.note v.loaded is.still.loaded;
          storing = record { note_is = note ∙ ap Some c; stored = refl; long = omega (arith, long) };
          joining = mine.joining;
        } in (
          w,
          made o ws seat w s refl ws' s.history (length-set ws 0 6) (inr (record { word = lock; one = now })) k
              (λ i u n g q. still_knows o s.history (one_place ws) (one_place ws') u (not_storing u (let most = at_most storing_count views i u g in omega (arith, most, r.nobody))) (λ d le z. absurd (omega (arith, z, lock))) q) (λ n. refl) refl
              (looks_on time_of (AtRest o.count) (moment_now o s.history (slice_index ws 0)) (moment_now o s.history (slice_index ws' 0)) seat w s.seats.looks (UnderWay (note_of v)) (ap UnderWay c ∙ sym (held_now o s.history (slice_index ws' 0) lock)) (time_at (moment_now o s.history (slice_index ws 0)) (AtRest (last_count o s.history)) (UnderWay (note_of v)) (rests_now o s.history (slice_index ws 0) (last_count o s.history) r.word) (omega (arith, c))) refl),
          record { same = λ q. record { place = place; view = refl }; other = λ n. absurd (n (e ∙ is.word_is)) },
        )

    lost : slice_index ws 0 ≢ noted → Leads o ws views id 0 (slice_index ws 0) (TellsTake xs v (slice_index ws 0))
    lost n =
        let place : ℕ = next o ws seat s in
        let m : Moment = moment_now o s.history (slice_index ws 0) in
        let w : View = has_failed place m v in
        let k = calm_seat (one_place ws) o s.history w mine.opening_is (record { writes = mine.own.writes; latest = mine.own.latest }) mine.note mine.loaded is.still.storing is.still.joining in
        let kept : slice_set ws 0 (slice_index ws 0) ≡ ws = set-get_or ws 0 0 in (
          w,
          subst (λ l. HasOneHistory o l (slice_set views id w)) (sym kept) (looked o ws seat w s refl refl refl k (looks o ws seat s w m refl refl)),
          record { same = λ e. absurd (n (e ∙ sym is.word_is)); other = λ q. record { place = place; moment = m; view = refl; word_is = stands o ws seat s } },
        )

    pub take_step : Leads o ws views id 0 (either (slice_index ws 0 == noted) 6 (slice_index ws 0)) (TellsTake xs v (slice_index ws 0))
    take_step = exchanged (slice_index ws 0) noted 6 (λ x. Leads o ws views id 0 x (TellsTake xs v (slice_index ws 0))) (λ e. ⊎_elim (taken_at e) (λ r. absurd (omega (arith, e, r.word, is.word_is))) s.lock) lost

  -- ---- while the seat is in the middle of a write

  module _ (i : ℕ) (is : IsStoring i v) where
    abbrev now : Storing
    now = storing_of v

    storing : v.storing ≡ Some now
    storing = some_value (pair [] []) v.storing is.storing

    under_way : IsUnderWay o s.history (one_place ws).place v.note now
    under_way = if_some (IsUnderWay o s.history (one_place ws).place v.note) v.storing now storing mine.storing

    held_by : IsAtRest o s.history ws views ⊎ IsHeldByWrite ws views → IsHeldByWrite ws views
    held_by (inl r) = let most = at_most storing_count views id v at in let one = is_storing v now storing in absurd (omega (arith, most, one, r.nobody))
    held_by (inr h) = h

    held : IsHeldByWrite ws views
    held = held_by s.lock

    no_other : (j : ℕ) (u : View) → j ≢ id → get_elem? views j ≡ some u → u.storing ≡ None
    no_other j u n g = not_storing u (others_none storing_count views id j v u at (let one = is_storing v now storing in omega (arith, one, held.one)) n g)

    -- ---- a value store

    pub store_step : (x : ℕ) → slice_get now.left 0 ≡ Some x → Leads o ws views id (suc i) x (λ w. w ≡ has_stored now v)
    store_step x first =
        let w : View = has_stored now v in
        let ws' : List ℕ = slice_set ws (suc i) x in
        let lock : slice_index ws' 0 ≡ 6 = lock_kept ws i x ∙ held.word in
        let next = one_stored_as x now.left first now.stored in
        let short = shorter x now.left first in
        let long = values_long ws (length o.values) s.long in
        let sum = sum_set storing_count views id v w at in
        let one = is_storing v now storing in
        let one' : storing_count w ≡ 1 = refl in
        let after : sum_by storing_count (slice_set views id w) ≡ 1 = omega (arith, sum, one, one', held.one) in
        let n : length (now.stored ++ x ∷ []) ≡ suc i = omega (arith, length-append now.stored (x ∷ []), is.stored) in
        let so_far : now.stored ≡ take i (cell_values ws) = under_way.stored ∙ ap (λ k. take k (cell_values ws)) is.stored in
        let at_now : now.stored ++ x ∷ [] ≡ take (length (now.stored ++ x ∷ [])) (cell_values ws') =
        ap (λ l. l ++ x ∷ []) so_far ∙ sym (value_set ws i x (omega (arith, long, under_way.long, is.stored, short))) ∙ ap (λ k. take k (cell_values ws')) (sym n) in
        let going : IsUnderWay o s.history (one_place ws').place v.note (pair (now.stored ++ x ∷ []) (drop 1 now.left)) = record { note_is = under_way.note_is; stored = at_now; long = omega (arith, n, short, under_way.long, is.stored) } in
        let k : ViewKnowledge o s.history ws' w = record {
          opening_is = mine.opening_is;
          own = record { writes = mine.own.writes; latest = mine.own.latest };
          note = mine.note;
          loaded = nothing_loaded (one_place ws') v.note v.loaded is.loaded;
          storing = subst (IsUnderWay o s.history (one_place ws').place v.note) (sym next) going;
          joining = mine.joining;
        } in (
          w,
          made o ws seat w s refl ws' s.history (length-set ws (suc i) x) (inr (record { word = lock; one = after })) k
              (λ j u m g q. still_knows o s.history (one_place ws) (one_place ws') u (no_other j u m g) (λ d le z. absurd (omega (arith, z, lock))) q) (λ m. refl) refl
              (looks_kept time_of (AtRest o.count) (moment_now o s.history (slice_index ws 0)) (moment_now o s.history (slice_index ws' 0)) seat w s.seats.looks (ap (moment_now o s.history) (lock_kept ws i x)) refl),
          refl,
        )

    pub store_step_at : (j x : ℕ) → j ≡ suc i → slice_get now.left 0 ≡ Some x → Leads o ws views id j x (λ w. w ≡ has_stored now v)
    store_step_at j x e first = subst (λ k. Leads o ws views id k x (λ w. w ≡ has_stored now v)) (sym e) (store_step x first)

    -- ---- a release store

    pub release_step : i ≡ length o.values → Leads o ws views id 0 (4 * (note_of v + 1)) (HasWritten v)
    release_step all =
        let note = some_value 0 v.note is.noted in
        let c : note_of v ≡ last_count o s.history = same_some (sym note ∙ under_way.note_is) in
        let h' : History = s.history ++ now.stored ∷ [] in
        let r : Record = record_of (note_of v + 1) now.stored in
        let place : ℕ = next o ws seat s in
        let w : View = has_written r (has_looked place (AtRest (note_of v + 1)) (has_released v)) in
        let ws' : List ℕ = slice_set ws 0 (4 * (note_of v + 1)) in
        let lock : slice_index ws' 0 ≡ 4 * (note_of v + 1) = lock_set ws (4 * (note_of v + 1)) (omega (arith, s.long)) in
        let values : now.stored ≡ cell_values ws' =
        all_taken now.stored (cell_values ws) under_way.stored (omega (arith, is.stored, all, values_long ws (length o.values) s.long)) ∙ sym (values_kept ws (4 * (note_of v + 1))) in
        let last : IsLast o h' r = new_last o s.history now.stored (note_of v) c in
        let own = own_on o s.history now.stored v mine.own in
        let sum = sum_set storing_count views id v w at in
        let one = is_storing v now storing in
        let none : storing_count w ≡ 0 = refl in
        let nobody : sum_by storing_count (slice_set views id w) ≡ 0 = omega (arith, sum, one, none, held.one) in
        let rest : IsAtRest o h' ws' (slice_set views id w) = record {
          word = lock ∙ ap (λ n. 4 * n) last.count;
          values = record { count = refl; values = last.values ∙ ap Some values };
          nobody = nobody;
        } in
        let le : note_of v ≤ last_count o h' = omega (arith, last.count) in
        let k = calm_seat (one_place ws') o h' w mine.opening_is (record { writes = all_both o h' v.writes (r ∷ []) own.writes (last_stands o h' r last, tt); latest = last_stands o h' r last })
        (some_is (λ m. m ≤ last_count o h') v.note (note_of v) note le) (nothing_loaded (one_place ws') v.note v.loaded is.loaded) refl is.joining in
        let long = length-append s.history (now.stored ∷ []) in
        let more : last_count o h' ≡ last_count o s.history + 1 = omega (arith, long) in (
          w,
          made o ws seat w s refl ws' h' (length-set ws 0 (4 * (note_of v + 1))) (inl rest) k
              (λ j u m g q. more_knows o s.history (one_place ws) (one_place ws') u (no_other j u m g) (λ d le z. absurd (omega (arith, le, z, lock, c))) q now.stored)
              (λ n. let push = sum_by_push (λ (q : Record). one_if (q.count == n)) v.writes r in
              let between = one_more n o.count (last_count o s.history) (omega arith) in
              let here : one_if (note_of v + 1 == n) ≡ one_if (last_count o s.history + 1 == n) = ap (λ m. one_if (m + 1 == n)) c in
              let there : one_if (is_in_span n o.count (last_count o h')) ≡ one_if (is_in_span n o.count (last_count o s.history + 1)) = ap (λ m. one_if (is_in_span n o.count m)) more in
              omega (arith, push, between, here, there))
              (let push = length-append v.writes (r ∷ []) in omega (arith, push, long))
              (looks_on time_of (AtRest o.count) (moment_now o s.history (slice_index ws 0)) (moment_now o h' (slice_index ws' 0)) seat w s.seats.looks (AtRest (note_of v + 1)) (ap AtRest last.count ∙ sym (rests_now o h' (slice_index ws' 0) (note_of v + 1) lock)) (time_at (moment_now o s.history (slice_index ws 0)) (UnderWay (last_count o s.history)) (AtRest (note_of v + 1)) (held_now o s.history (slice_index ws 0) held.word) (omega (arith, c))) refl),
          record {
            place = place;
            view = refl;
            seen = is_seen o h' v r mine.opening_is own last;
            above = let le' = at_most_last o s.history v.latest mine.own.latest in omega (arith, le', c);
          },
        )
