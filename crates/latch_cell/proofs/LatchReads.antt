-- The steps of a read keep the rule: its loads, and what they tell. And a write's note, and the second load of a join.
use Rattle.std.proofs.Common.{◌≡◌, ◌≢◌, ℕ, suc, ◌+◌, ◌*◌, ◌<◌, ◌≤◌, ⊎_elim, List, [], ◌∷◌, ◌++◌, length, length-append, take, Bool, true, false, Some, None, IfSome, refl, sym, ap, subst, ◌∙◌, arith, slice_index, slice_set}
use Rattle.std.{specs.Prelude.unwrap_or, proofs.Math.Seq.take-suc}
use Rattle.machine_types.specs.{LockWords.{lock_of, is_lock_word}, declared.lock.LockWord.LockWord}
use Rattle.solero_cell.specs.{CellRules.{IsHeldByWrite}, CellViews.{record_of, noted, has_failed, has_loaded, has_looked, forgot, has_read, has_compared, IsStill}, Histories.{last_count, RecordStands, IsLast, OwnStand}}
use Rattle.solero_cell.specs.{Stages.{IsLoading, IsJoining}, Steps.{note_of, joining_of, NotedBy, TellsNote, HasCompared}, declared.views.{Moment.{Moment, TheVariants.{AtRest, UnderWay}}, Record.Record, View.View}}
use Rattle.solero_cell.proofs.{Allowing.{LooksTo, Seat}, Knowing.{calm_seat, nothing_loaded, if_some, some_value, is_not_storing}, Looking.{held_now, looks_kept, rests_now}, Standing.{at_most_last, is_seen, last_stands, newest_stands}, Words.{free_word, free_is_lock, all_taken}}
use Rattle.latch_cell.specs.{Copies.{latch_count, copy_start}, LatchRules.{count_of, LatchKnowledge, IsLetGo, HasTwoCopies}, LatchSteps.{has_counted, HasCounted, copy_attempt_ended, TellsCopyFinish}}
use Rattle.latch_cell.proofs.{CopyWords.{copy_long, copy_index}, Latching.{copies, copy_at, its, next, now, now_is, counted_is, looks, looked}}
use mathlib.Core.{Logic.dite}
use native.Mathlib.Decide.{ℕ_discrete}

module _ (o : Record) {id : ℕ} {v : View} (ws : List ℕ) (seat : Seat id v) (s : HasTwoCopies o ws seat.views) where
  open seat use {views, at, parts}

  abbrev Leads : (View → Type 0) → Type 0
  Leads = LooksTo (HasTwoCopies o) ws views id

  abbrev mine : LatchKnowledge o s.history ws v
  mine = its o ws seat s

  abbrev place : ℕ
  place = next o ws seat s

  abbrev here : Moment
  here = now o ws seat s

  -- what a view in the middle of neither a write nor a join makes of the step
  steps : (w : View) → w.share ≡ v.share → w.writes ≡ v.writes → w.looks ≡ v.looks ++ record { place = place; moment = here } ∷ []
      → LatchKnowledge o s.history ws w → v.storing ≡ None → w.storing ≡ None → HasTwoCopies o ws (slice_set views id w)
  steps w share writes more knows none none' = looked o ws seat s w share writes (is_not_storing w none' ∙ sym (is_not_storing v none)) knows (looks o ws seat s w here refl more)

  -- ---- a load of the count

  pub count_step : IsStill v → Leads (HasCounted v (latch_count ws))
  count_step still =
      let w : View = has_counted place here v in
      let c = now_is o ws seat s in
      let is = counted_is o ws seat s in (
        w,
        steps w refl refl refl (calm_seat (copies o ws) o s.history w mine.opening_is (record { writes = mine.own.writes; latest = mine.own.latest }) (omega (arith, c)) (nothing_loaded (copies o ws) (Some (count_of here)) v.loaded still.loaded) still.storing still.joining) still.storing still.storing,
        record { place = place; moment = here; view = refl; count_is = is; later = let le = at_most_last o s.history v.latest mine.own.latest in omega (arith, le, s.count) },
      )

  -- ---- a value load

  pub load_step : (i start : ℕ) → start ≡ copy_start (length o.values) (note_of v) → IsLoading i v → i < length o.values
      → Leads (λ w. w ≡ has_loaded (slice_index ws (start + i)) v)
  load_step i start from is lt =
      let x : ℕ = slice_index ws (start + i) in
      let w : View = has_loaded x v in (
        w,
        looked o ws seat s w refl refl refl
            (calm_seat (copies o ws) o s.history w mine.opening_is (record { writes = mine.own.writes; latest = mine.own.latest }) mine.note more is.storing is.joining)
            (looks_kept count_of (AtRest o.count) here here seat w s.seats.looks refl refl),
        refl,
      )
    where
      more : (c : ℕ) → v.note ≡ Some c → latch_count ws ≡ c
          → v.loaded ++ slice_index ws (start + i) ∷ [] ≡ take (length (v.loaded ++ slice_index ws (start + i) ∷ [])) (copy_at o ws c)
      more c n w =
          let count : note_of v ≡ c = ap (λ p. unwrap_or p 0) n in
          let x : slice_index (copy_at o ws c) i ≡ slice_index ws (start + i) = copy_index (length o.values) ws c i lt ∙ ap (λ k. slice_index ws (copy_start (length o.values) k + i)) (sym count) ∙ ap (λ k. slice_index ws (k + i)) (sym from) in
          let one : length (v.loaded ++ slice_index ws (start + i) ∷ []) ≡ suc i = omega (arith, length-append v.loaded (slice_index ws (start + i) ∷ []), is.loaded) in
          let so_far : v.loaded ≡ take i (copy_at o ws c) = mine.loaded c n w ∙ ap (λ k. take k (copy_at o ws c)) is.loaded in
          let long = copy_long (length o.values) ws c s.long in
          ap (λ l. l ++ slice_index ws (start + i) ∷ []) so_far
          ∙ ap (λ x. take i (copy_at o ws c) ++ x ∷ []) (sym x)
          ∙ sym (take-suc (copy_at o ws c) i 0 (omega (arith, long, lt)))
          ∙ ap (λ k. take k (copy_at o ws c)) (sym one)

  -- ---- a load of the count again

  pub again_step : (is_last : Bool) → IsLoading (length o.values) v → Leads (TellsCopyFinish is_last v (latch_count ws))
  again_step is_last is = dite (ℕ_discrete (latch_count ws) (note_of v)) same other
    where
      note : v.note ≡ Some (note_of v)
      note = some_value 0 v.note is.noted

      got : Record
      got = record_of (note_of v) v.loaded

      knows : (w : View) → w.opening ≡ o → OwnStand o s.history w → w.note ≡ v.note → w.loaded ≡ [] → w.storing ≡ None → w.joining ≡ None → LatchKnowledge o s.history ws w
      knows w opening own same none storing joining = calm_seat (copies o ws) o s.history w opening own (subst (λ p. IfSome p (λ c. c ≤ last_count o s.history)) (sym same) mine.note) (nothing_loaded (copies o ws) w.note w.loaded none) storing joining

      same : latch_count ws ≡ note_of v → Leads (TellsCopyFinish is_last v (latch_count ws))
      same e =
          let c : note_of v ≡ last_count o s.history = sym e ∙ s.count in
          let all : v.loaded ≡ copy_at o ws (note_of v) = all_taken v.loaded (copy_at o ws (note_of v)) (mine.loaded (note_of v) note e) (is.loaded ∙ sym (copy_long (length o.values) ws (note_of v) s.long)) in
          let last : IsLast o s.history got = record { count = c; values = s.values.values ∙ ap Some (ap (copy_at o ws) (sym c) ∙ sym all) } in
          let w : View = has_read got (has_looked place here (forgot v)) in (
            w,
            steps w refl refl refl (knows w mine.opening_is (record { writes = mine.own.writes; latest = last_stands o s.history got last }) refl refl is.storing is.joining) is.storing is.storing,
            record {
              same = λ e'. record {
                place = place;
                moment = here;
                count_is = sym e ∙ counted_is o ws seat s;
                view = refl;
                seen = is_seen o s.history v got mine.opening_is mine.own last;
              };
              other = λ n. absurd (n e);
            },
          )

      ended : Bool → View
      ended b = copy_attempt_ended b place here (forgot v)

      ended_step : (b : Bool) → HasTwoCopies o ws (slice_set views id (ended b))
      ended_step true = steps (ended true) refl refl refl (knows (ended true) mine.opening_is (record { writes = mine.own.writes; latest = mine.own.latest }) refl refl is.storing is.joining) is.storing is.storing
      ended_step false = steps (ended false) refl refl refl (knows (ended false) mine.opening_is (record { writes = mine.own.writes; latest = mine.own.latest }) refl refl is.storing is.joining) is.storing is.storing

      other : latch_count ws ≢ note_of v → Leads (TellsCopyFinish is_last v (latch_count ws))
      other n =
          let le : note_of v ≤ last_count o s.history = if_some (λ m. m ≤ last_count o s.history) v.note (note_of v) note mine.note in (
            ended is_last,
            ended_step is_last,
            record { same = λ e. absurd (n e); other = λ m. record { place = place; moment = here; view = refl; count_is = counted_is o ws seat s; above = below (note_of v) (latch_count ws) (omega (arith, le, s.count)) m } },
          )
        where
          below : (a b : ℕ) → a ≤ b → b ≢ a → a < b
          below a b le n = grind arith

  -- ---- a write's note

  pub note_step : IsStill v → Leads (TellsNote v (slice_index ws 0))
  note_step still = ⊎_elim at_rest held s.lock
    where
      at_rest : IsLetGo o s.history ws views → Leads (TellsNote v (slice_index ws 0))
      at_rest r =
          let c : ℕ = last_count o s.history in
          let w : View = noted place c v in
          let by : NotedBy (lock_of (4 * c)) (4 * c) v w = subst (λ (l : LockWord). NotedBy l (4 * c) v w) (sym (free_word c)) (record { place = place; view = refl; later = at_most_last o s.history v.latest mine.own.latest }) in (
            w,
            looked o ws seat s w refl refl refl (calm_seat (copies o ws) o s.history w mine.opening_is (record { writes = mine.own.writes; latest = mine.own.latest }) (omega arith) (nothing_loaded (copies o ws) (Some c) v.loaded still.loaded) still.storing still.joining)
                (looks o ws seat s w (AtRest c) (sym (rests_now o s.history (slice_index ws 0) c r.word)) refl),
            record {
              lock = subst (λ x. is_lock_word x ≡ true) (sym r.word) (free_is_lock c);
              noted = subst (λ x. NotedBy (lock_of x) x v w) (sym r.word) by;
            },
          )

      held : IsHeldByWrite ws views → Leads (TellsNote v (slice_index ws 0))
      held r =
          let c : ℕ = last_count o s.history in
          let w : View = has_failed place (UnderWay c) v in
          let by : NotedBy (lock_of 6) 6 v w = record { place = place; count = c; view = refl; word_is = refl } in (
            w,
            looked o ws seat s w refl refl refl (calm_seat (copies o ws) o s.history w mine.opening_is (record { writes = mine.own.writes; latest = mine.own.latest }) mine.note mine.loaded still.storing still.joining)
                (looks o ws seat s w (UnderWay c) (sym (held_now o s.history (slice_index ws 0) r.word)) refl),
            record {
              lock = subst (λ x. is_lock_word x ≡ true) (sym r.word) refl;
              noted = subst (λ x. NotedBy (lock_of x) x v w) (sym r.word) by;
            },
          )

  -- ---- the second load of a join

  pub compare_step : IsJoining v → Leads (HasCompared v)
  compare_step is =
      let r : Record = joining_of v in
      let there : RecordStands o s.history r = if_some (RecordStands o s.history) v.joining r (some_value (record_of 0 []) v.joining is.joining) mine.joining in
      let w : View = has_compared r v in (
        w,
        looked o ws seat s w refl refl refl (calm_seat (copies o ws) o s.history w mine.opening_is (record { writes = mine.own.writes; latest = newest_stands o s.history v.latest r mine.own.latest there }) mine.note (nothing_loaded (copies o ws) v.note v.loaded is.loaded) is.storing refl)
            (looks_kept count_of (AtRest o.count) here here seat w s.seats.looks refl refl),
        record {
          view = refl;
          history = s.history;
          own = subst (λ (q : Record). OwnStand q s.history v) (sym mine.opening_is) mine.own;
          other = subst (λ (q : Record). RecordStands q s.history r) (sym mine.opening_is) there;
        },
      )
