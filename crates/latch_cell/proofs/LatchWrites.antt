-- The steps of a write keep the rule: its exchange and its stores, and what they tell.
use Rattle.std.proofs.Common.{◌≡◌, ◌≢◌, ℕ, suc, ◌+◌, ◌*◌, ◌<◌, ◌≤◌, ◌==◌, ◌⊎◌, inl, inr, ⊎_elim, List, [], ◌∷◌, ◌++◌, length, length-append, take, drop, Some, None, refl, sym, ap, subst, ◌∙◌, arith, slice_index, slice_set, slice_get}
use Rattle.std.{specs.List.{sum_by}, proofs.lemmas.List.{length-set, set-get_or, get_or-set_same, get_or-set_other, Sums.sum_by_push}}
use Rattle.lists.proofs.ListLaws.{same_some}
use Rattle.atomic_table.proofs.Lists.{exchanged}
use Rattle.solero_cell.specs.{CellRules.{HaveLooked, IsUnderWay, one_if, storing_count, is_in_span, IsHeldByWrite}, CellViews.{record_of, has_looked, has_failed, has_taken, has_stored, has_released}, Histories.{History, last_count, IsLast, OwnStand, RecordStands}}
use Rattle.solero_cell.specs.{Stages.{IsNoted, IsStoring}, Steps.{note_of, storing_of, TellsTake}, Moments.moment_now, declared.views.{Moment.{Moment, TheVariants.{AtRest, UnderWay}}, Record.Record, Storing.Storing, View.View}}
use Rattle.solero_cell.proofs.{Allowing.{LeadsTo, Seat}, Knowing.{pair, some_value, calm_seat, nothing_loaded, if_none, if_some, not_storing, is_not_storing, is_storing, still_knows, more_knows}, Looking.{held_now, looks_kept, looks_on, rests_now}, Made.{seats_kept, seats_made}}
use Rattle.solero_cell.proofs.{Standing.{at_most_last, is_seen, last_stands, own_on, all_both, new_last}, Sums.{sum_set, at_most, others_none}, Words.{all_taken}, WriteSteps.{one_more, one_stored_as, shorter}}
use Rattle.latch_cell.specs.{Copies.{latch_count, copy_start}, LatchRules.{count_of, LatchKnowledge, IsLetGo, HasTwoCopies}, LatchSteps.{has_published, HasPublished, HasLetGo}}
use Rattle.latch_cell.proofs.{CopyWords.{copy_long, copy_set, head_kept, other_kept, words_kept}, Latching.{copies, copy_at, its, next, now, now_is, stands, looks, looked}}
use lib.ListN.{get_elem?}
use mathlib.Core.Option.{some}
use prog.Atomic.{either}

module _ (o : Record) {id : ℕ} {v : View} (ws : List ℕ) (seat : Seat id v) (s : HasTwoCopies o ws seat.views) where
  open seat use {views, at, parts}

  abbrev Writes : (i x : ℕ) → (View → Type 0) → Type 0
  Writes = LeadsTo (HasTwoCopies o) ws views id

  abbrev mine : LatchKnowledge o s.history ws v
  mine = its o ws seat s

  abbrev place : ℕ
  place = next o ws seat s

  abbrev here : Moment
  here = now o ws seat s

  here_is : count_of here ≡ last_count o s.history
  here_is = now_is o ws seat s

  -- the step looks, and behind it this is so
  looked_on : (h' : History) (ws' : List ℕ) (w : View) (m : Moment) → m ≡ moment_now o h' (slice_index ws' 0) → count_of here ≤ count_of m
      → w.looks ≡ v.looks ++ record { place = place; moment = m } ∷ []
      → HaveLooked count_of (AtRest o.count) (moment_now o h' (slice_index ws' 0)) (slice_set views id w)
  looked_on h' ws' w m e le more = looks_on count_of (AtRest o.count) here (moment_now o h' (slice_index ws' 0)) seat w s.seats.looks m e le more

  -- a write of the lock word leaves the count and the copies
  count_kept : (x : ℕ) → latch_count (slice_set ws 0 x) ≡ latch_count ws
  count_kept x = get_or-set_other ws 0 1 x 0 (λ e. absurd (omega (arith, e)))

  left_kept : (x c : ℕ) → latch_count (slice_set ws 0 x) ≡ c → (latch_count ws ≡ c) × (copy_at o ws c ≡ copy_at o (slice_set ws 0 x) c)
  left_kept x c e = (sym (count_kept x) ∙ e, sym (head_kept (length o.values) ws 0 x c (omega arith)))

  values_kept : (ws' : List ℕ) → copy_at o ws' (last_count o s.history) ≡ copy_at o ws (last_count o s.history)
      → IsLast o s.history (record_of (last_count o s.history) (copy_at o ws' (last_count o s.history)))
  values_kept ws' e = record { count = refl; values = s.values.values ∙ ap Some (sym e) }

  -- ---- a take exchange

  module _ (noted : ℕ) (xs : List ℕ) (is : IsNoted noted v) (long : length xs ≡ length o.values) where
    note : v.note ≡ Some (note_of v)
    note = some_value 0 v.note is.noted

    taken_at : slice_index ws 0 ≡ noted → IsLetGo o s.history ws views → Writes 0 6 (TellsTake xs v (slice_index ws 0))
    taken_at e r =
        let m : Moment = UnderWay (note_of v) in
        let w : View = has_taken xs (has_looked place m v) in
        let c : note_of v ≡ last_count o s.history = omega (arith, e, r.word, is.word_is) in
        let ws' : List ℕ = slice_set ws 0 6 in
        let lock : slice_index ws' 0 ≡ 6 = get_or-set_same ws 0 6 0 (omega (arith, s.long)) in
        let sum = sum_set storing_count views id v w at in
        let none : storing_count v ≡ 0 = is_not_storing v is.still.storing in
        let one : storing_count w ≡ 1 = refl in
        let now : sum_by storing_count (slice_set views id w) ≡ 1 = omega (arith, sum, none, one, r.nobody) in
        let k : LatchKnowledge o s.history ws' w = record {
          opening_is = mine.opening_is;
          own = record { writes = mine.own.writes; latest = mine.own.latest };
          note = mine.note;
          loaded = nothing_loaded (copies o ws') v.note v.loaded is.still.loaded;
          storing = record { note_is = note ∙ ap Some c; stored = refl; long = omega (arith, long) };
          joining = mine.joining;
        } in (
          w,
          record {
            history = s.history;
            long = length-set ws 0 6 ∙ s.long;
            count = count_kept 6 ∙ s.count;
            values = values_kept ws' (head_kept (length o.values) ws 0 6 (last_count o s.history) (omega arith));
            lock = inr (record { word = lock; one = now });
            seats = seats_kept o s.history (LatchKnowledge o s.history ws) count_of here seat s.seats w refl (LatchKnowledge o s.history ws') (moment_now o s.history (slice_index ws' 0)) refl k
                (λ i u n g q. still_knows o s.history (copies o ws) (copies o ws') u (not_storing u (let most = at_most storing_count views i u g in omega (arith, most, r.nobody))) (λ d le z. left_kept 6 d z) q)
                (looked_on s.history ws' w m (ap UnderWay c ∙ sym (held_now o s.history (slice_index ws' 0) lock)) (omega (arith, here_is, c)) refl);
          },
          record { same = λ q. record { place = place; view = refl }; other = λ n. absurd (n (e ∙ is.word_is)) },
        )

    lost : slice_index ws 0 ≢ noted → Writes 0 (slice_index ws 0) (TellsTake xs v (slice_index ws 0))
    lost n =
        let w : View = has_failed place here v in
        let k = calm_seat (copies o ws) o s.history w mine.opening_is (record { writes = mine.own.writes; latest = mine.own.latest }) mine.note mine.loaded is.still.storing is.still.joining in
        let kept : slice_set ws 0 (slice_index ws 0) ≡ ws = set-get_or ws 0 0 in (
          w,
          subst (λ l. HasTwoCopies o l (slice_set views id w)) (sym kept) (looked o ws seat s w refl refl refl k (looks o ws seat s w here refl refl)),
          record { same = λ e. absurd (n (e ∙ sym is.word_is)); other = λ q. record { place = place; moment = here; view = refl; word_is = stands o ws seat s } },
        )

    pub take_step : Writes 0 (either (slice_index ws 0 == noted) 6 (slice_index ws 0)) (TellsTake xs v (slice_index ws 0))
    take_step = exchanged (slice_index ws 0) noted 6 (λ x. Writes 0 x (TellsTake xs v (slice_index ws 0))) (λ e. ⊎_elim (taken_at e) (λ r. absurd (omega (arith, e, r.word, is.word_is))) s.lock) lost

  -- ---- while the seat has the lock

  module _ (i : ℕ) (is : IsStoring i v) where
    abbrev going : Storing
    going = storing_of v

    storing : v.storing ≡ Some going
    storing = some_value (pair [] []) v.storing is.storing

    noted_is : v.note ≡ Some (note_of v)
    noted_is = some_value 0 v.note is.noted

    under_way : IsUnderWay o s.history (copy_at o ws) v.note going
    under_way = if_some (IsUnderWay o s.history (copy_at o ws) v.note) v.storing going storing mine.storing

    count_is : note_of v ≡ last_count o s.history
    count_is = same_some (sym noted_is ∙ under_way.note_is)

    held_by : IsLetGo o s.history ws views ⊎ IsHeldByWrite ws views → IsHeldByWrite ws views
    held_by (inl r) = let most = at_most storing_count views id v at in let one = is_storing v going storing in absurd (omega (arith, most, one, r.nobody))
    held_by (inr h) = h

    held : IsHeldByWrite ws views
    held = held_by s.lock

    no_other : (j : ℕ) (u : View) → j ≢ id → get_elem? views j ≡ some u → u.storing ≡ None
    no_other j u n g = not_storing u (others_none storing_count views id j v u at (let one = is_storing v going storing in omega (arith, one, held.one)) n g)

    still_one : (w : View) → storing_count w ≡ 1 → sum_by storing_count (slice_set views id w) ≡ 1
    still_one w e = let sum = sum_set storing_count views id v w at in let one = is_storing v going storing in omega (arith, sum, one, e, held.one)

    -- ---- a value store, into the copy of the next count

    pub store_step : (x start : ℕ) → start ≡ copy_start (length o.values) (note_of v + 1) → slice_get going.left 0 ≡ Some x → Writes (start + i) x (λ w. w ≡ has_stored going v)
    store_step x start from first = subst (λ k. Writes (k + i) x (λ w. w ≡ has_stored going v)) (sym (from ∙ ap (λ c. copy_start (length o.values) (c + 1)) count_is)) stored_there
      where
        c : ℕ
        c = last_count o s.history

        ws' : List ℕ
        ws' = slice_set ws (copy_start (length o.values) (c + 1) + i) x

        w : View
        w = has_stored going v

        short : length going.left ≡ suc (length (drop 1 going.left))
        short = shorter x going.left first

        within : i < length o.values
        within = omega (arith, under_way.long, is.stored, short)

        count : latch_count ws' ≡ latch_count ws
        count = words_kept (length o.values) ws (c + 1) i x 1 (omega arith)

        lock : slice_index ws' 0 ≡ slice_index ws 0
        lock = words_kept (length o.values) ws (c + 1) i x 0 (omega arith)

        copy : copy_at o ws' c ≡ copy_at o ws c
        copy = other_kept (length o.values) ws c i x within

        left : (d : ℕ) → latch_count ws' ≡ d → (latch_count ws ≡ d) × (copy_at o ws d ≡ copy_at o ws' d)
        left d e =
            let same : latch_count ws ≡ d = sym count ∙ e in
            let is_c : c ≡ d = sym s.count ∙ same in
            (same, subst (λ k. copy_at o ws k ≡ copy_at o ws' k) is_c (sym copy))

        n : length (going.stored ++ x ∷ []) ≡ suc i
        n = omega (arith, length-append going.stored (x ∷ []), is.stored)

        at_now : going.stored ++ x ∷ [] ≡ take (length (going.stored ++ x ∷ [])) (copy_at o ws' (c + 1))
        at_now =
            let so_far : going.stored ≡ take i (copy_at o ws (c + 1)) = under_way.stored ∙ ap (λ k. take k (copy_at o ws (c + 1))) is.stored in
            ap (λ l. l ++ x ∷ []) so_far ∙ sym (copy_set (length o.values) ws (c + 1) i x within s.long) ∙ ap (λ k. take k (copy_at o ws' (c + 1))) (sym n)

        k : LatchKnowledge o s.history ws' w
        k = record {
          opening_is = mine.opening_is;
          own = record { writes = mine.own.writes; latest = mine.own.latest };
          note = mine.note;
          loaded = nothing_loaded (copies o ws') v.note v.loaded is.loaded;
          storing = subst (IsUnderWay o s.history (copy_at o ws') v.note) (sym (one_stored_as x going.left first going.stored)) (record { note_is = under_way.note_is; stored = at_now; long = omega (arith, n, short, under_way.long, is.stored) });
          joining = mine.joining;
        }

        stored_there : Writes (copy_start (length o.values) (c + 1) + i) x (λ u. u ≡ has_stored going v)
        stored_there = (
          w,
          record {
            history = s.history;
            long = length-set ws (copy_start (length o.values) (c + 1) + i) x ∙ s.long;
            count = count ∙ s.count;
            values = values_kept ws' copy;
            lock = inr (record { word = lock ∙ held.word; one = still_one w refl });
            seats = seats_kept o s.history (LatchKnowledge o s.history ws) count_of here seat s.seats w refl (LatchKnowledge o s.history ws') (moment_now o s.history (slice_index ws' 0)) refl k
                (λ j u m g q. still_knows o s.history (copies o ws) (copies o ws') u (no_other j u m g) (λ d le e. left d e) q)
                (looks_kept count_of (AtRest o.count) here (moment_now o s.history (slice_index ws' 0)) seat w s.seats.looks (ap (moment_now o s.history) lock) refl);
          },
          refl,
        )

    -- ---- the store of the count

    pub publish_step : i ≡ length o.values → Writes 1 (note_of v + 1) (HasPublished v)
    publish_step all = published
      where
        h' : History
        h' = s.history ++ going.stored ∷ []

        r : Record
        r = record_of (note_of v + 1) going.stored

        m : Moment
        m = UnderWay (note_of v + 1)

        w : View
        w = has_published r (has_looked place m v)

        ws' : List ℕ
        ws' = slice_set ws 1 (note_of v + 1)

        lock : slice_index ws' 0 ≡ 6
        lock = get_or-set_other ws 1 0 (note_of v + 1) 0 (λ e. absurd (omega (arith, e))) ∙ held.word

        count : latch_count ws' ≡ note_of v + 1
        count = get_or-set_same ws 1 (note_of v + 1) 0 (omega (arith, s.long))

        last : IsLast o h' r
        last = new_last o s.history going.stored (note_of v) count_is

        long : length h' ≡ length s.history + 1
        long = length-append s.history (going.stored ∷ [])

        more : last_count o h' ≡ last_count o s.history + 1
        more = omega (arith, long)

        full : length going.stored ≡ length o.values
        full = is.stored ∙ all

        stored : going.stored ≡ copy_at o ws (last_count o s.history + 1)
        stored = all_taken going.stored (copy_at o ws (last_count o s.history + 1)) under_way.stored (full ∙ sym (copy_long (length o.values) ws (last_count o s.history + 1) s.long))

        copy : going.stored ≡ copy_at o ws' (last_count o h')
        copy = stored ∙ ap (copy_at o ws) (sym more) ∙ sym (head_kept (length o.values) ws 1 (note_of v + 1) (last_count o h') (omega arith))

        own : OwnStand o h' v
        own = own_on o s.history going.stored v mine.own

        k : LatchKnowledge o h' ws' w
        k = record {
          opening_is = mine.opening_is;
          own = record { writes = all_both o h' v.writes (r ∷ []) own.writes (last_stands o h' r last, tt); latest = last_stands o h' r last };
          note = omega (arith, last.count);
          loaded = nothing_loaded (copies o ws') (Some (note_of v + 1)) v.loaded is.loaded;
          storing = record { note_is = ap Some last.count; stored = refl; long = omega (arith, full) };
          joining = if_none (RecordStands o h') v.joining is.joining;
        }

        published : Writes 1 (note_of v + 1) (HasPublished v)
        published = (
          w,
          record {
            history = h';
            long = length-set ws 1 (note_of v + 1) ∙ s.long;
            count = count ∙ last.count;
            values = record { count = refl; values = last.values ∙ ap Some copy };
            lock = inr (record { word = lock; one = still_one w refl });
            seats = seats_made o s.history (LatchKnowledge o s.history ws) count_of here seat s.seats w refl h' (LatchKnowledge o h' ws') (moment_now o h' (slice_index ws' 0)) k
                (λ j u d g q. more_knows o s.history (copies o ws) (copies o ws') u (no_other j u d g) (λ e le z. absurd (omega (arith, le, z, count, count_is))) q going.stored)
                (λ n. let push = sum_by_push (λ (q : Record). one_if (q.count == n)) v.writes r in
                let between = one_more n o.count (last_count o s.history) (omega arith) in
                let first : one_if (note_of v + 1 == n) ≡ one_if (last_count o s.history + 1 == n) = ap (λ c. one_if (c + 1 == n)) count_is in
                let there : one_if (is_in_span n o.count (last_count o h')) ≡ one_if (is_in_span n o.count (last_count o s.history + 1)) = ap (λ c. one_if (is_in_span n o.count c)) more in
                omega (arith, push, between, first, there))
                (let push = length-append v.writes (r ∷ []) in omega (arith, push, long))
                (looked_on h' ws' w m (ap UnderWay last.count ∙ sym (held_now o h' (slice_index ws' 0) lock)) (omega (arith, here_is, count_is)) refl);
          },
          record {
            place = place;
            view = refl;
            seen = is_seen o h' v r mine.opening_is own last;
            above = let le' = at_most_last o s.history v.latest mine.own.latest in omega (arith, le', count_is);
          },
        )

    -- ---- the lock is let go

    pub let_go_step : Writes 0 (4 * note_of v) (HasLetGo v)
    let_go_step =
        let m : Moment = AtRest (note_of v) in
        let w : View = has_released (has_looked place m v) in
        let ws' : List ℕ = slice_set ws 0 (4 * note_of v) in
        let lock : slice_index ws' 0 ≡ 4 * note_of v = get_or-set_same ws 0 (4 * note_of v) 0 (omega (arith, s.long)) in
        let sum = sum_set storing_count views id v w at in
        let one = is_storing v going storing in
        let none : storing_count w ≡ 0 = refl in
        let nobody : sum_by storing_count (slice_set views id w) ≡ 0 = omega (arith, sum, one, none, held.one) in
        let k = calm_seat (copies o ws') o s.history w mine.opening_is (record { writes = mine.own.writes; latest = mine.own.latest }) mine.note (nothing_loaded (copies o ws') v.note v.loaded is.loaded) refl is.joining in (
          w,
          record {
            history = s.history;
            long = length-set ws 0 (4 * note_of v) ∙ s.long;
            count = count_kept (4 * note_of v) ∙ s.count;
            values = values_kept ws' (head_kept (length o.values) ws 0 (4 * note_of v) (last_count o s.history) (omega arith));
            lock = inl (record { word = lock ∙ ap (λ c. 4 * c) count_is; nobody = nobody });
            seats = seats_kept o s.history (LatchKnowledge o s.history ws) count_of here seat s.seats w refl (LatchKnowledge o s.history ws') (moment_now o s.history (slice_index ws' 0)) refl k
                (λ j u n g q. still_knows o s.history (copies o ws) (copies o ws') u (no_other j u n g) (λ d le z. left_kept (4 * note_of v) d z) q)
                (looked_on s.history ws' w m (ap AtRest count_is ∙ sym (rests_now o s.history (slice_index ws' 0) (note_of v) lock)) (omega (arith, here_is, count_is)) refl);
          },
          record { place = place; view = refl },
        )
