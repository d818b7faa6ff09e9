-- The steps of a read keep the rule: its loads, and what they tell. And the second load of a join.
use Rattle.std.proofs.Common.{◌≡◌, ◌≢◌, ℕ, suc, ◌*◌, ◌<◌, inl, inr, ⊎_elim, List, [], ◌∷◌, ◌++◌, length, length-append, take, Bool, true, false, Some, refl, sym, ap, subst, ◌∙◌, arith, slice_index, slice_set}
use Rattle.std.proofs.Math.Seq.{take-suc}
use Rattle.machine_types.specs.{LockWords.{lock_of, is_lock_word}, declared.lock.LockWord.LockWord}
use Rattle.solero_cell.specs.CellRules.{cell_values, ViewKnowledge, IsAtRest, IsHeldByWrite, HaveLooked, HasOneHistory}
use Rattle.solero_cell.specs.{CellViews.{record_of, noted, has_failed, has_loaded, has_looked, forgot, has_read, has_compared, IsStill}, Histories.{last_count, RecordStands, IsLast, OwnStand}}
use Rattle.solero_cell.specs.{Stages.{IsLoading, IsJoining}, Steps.{note_of, joining_of, NotedBy, TellsNote, attempt_ended, TellsFinish, HasCompared}, Moments.{moment_now, time_of, word_of_moment}, declared.views.{Moment.Moment, Moment.TheVariants.{AtRest, UnderWay}, Record.Record, View.View}}
use Rattle.solero_cell.proofs.Allowing.{LooksTo, Seat}
use Rattle.solero_cell.proofs.{Looking.{held_now, look_of, looks_kept, looks_on, rests_now, time_at, word_now}, Knowing.{calm_seat, knows_of, nothing_loaded, one_place, if_some, some_value}, Made.looked, Standing.{at_most_last, is_seen, last_stands, newest_stands}}
use Rattle.solero_cell.proofs.Words.{free_word, free_is_lock, value_index, values_long, all_taken}
use mathlib.Core.{Logic.dite}
use native.Mathlib.Decide.{ℕ_discrete}

abbrev pub Looks : (o : Record) (ws : List ℕ) (views : List View) (id : ℕ) → (View → Type 0) → Type 0
Looks o = LooksTo (HasOneHistory o)

module _ (o : Record) {id : ℕ} {v : View} (ws : List ℕ) (seat : Seat id v) (s : HasOneHistory o ws seat.views) where
  open seat use {views, at, parts}

  pub its : ViewKnowledge o s.history ws v
  its = knows_of (ViewKnowledge o s.history ws) v parts (s.seats.each id v at)

  -- ---- a look at the lock word, which leaves it

  -- its place, and what it finds
  abbrev pub next : ℕ
  next = length s.seats.looks.moments

  abbrev pub now : Moment
  now = moment_now o s.history (slice_index ws 0)

  pub stands : slice_index ws 0 ≡ word_of_moment now
  stands = word_now o s.history (slice_index ws 0) (⊎_elim (λ (r : IsAtRest o s.history ws views). inl r.word) (λ (r : IsHeldByWrite ws views). inr r.word) s.lock)

  pub looks : (w : View) (m : Moment) → m ≡ now → w.looks ≡ v.looks ++ look_of next m ∷ [] → HaveLooked time_of (AtRest o.count) now (slice_set views id w)
  looks w m e more = looks_on time_of (AtRest o.count) now now seat w s.seats.looks m e (time_at now m m (sym e) (omega arith)) more

  -- ---- a note load

  pub note_step : IsStill v → Looks o ws views id (TellsNote v (slice_index ws 0))
  note_step still = ⊎_elim at_rest held s.lock
    where
      at_rest : IsAtRest o s.history ws views → Looks o ws views id (TellsNote v (slice_index ws 0))
      at_rest r =
          let c : ℕ = last_count o s.history in
          let w : View = noted next c v in
          let by : NotedBy (lock_of (4 * c)) (4 * c) v w = subst (λ (l : LockWord). NotedBy l (4 * c) v w) (sym (free_word c)) (record { place = next; view = refl; later = at_most_last o s.history v.latest its.own.latest }) in (
            w,
            looked o ws seat w s refl refl refl (calm_seat (one_place ws) o s.history w its.opening_is (record { writes = its.own.writes; latest = its.own.latest }) (omega arith) (nothing_loaded (one_place ws) (Some c) v.loaded still.loaded) still.storing still.joining) (looks w (AtRest c) (sym (rests_now o s.history (slice_index ws 0) c r.word)) refl),
            record {
              lock = subst (λ x. is_lock_word x ≡ true) (sym r.word) (free_is_lock c);
              noted = subst (λ x. NotedBy (lock_of x) x v w) (sym r.word) by;
            },
          )

      held : IsHeldByWrite ws views → Looks o ws views id (TellsNote v (slice_index ws 0))
      held r =
          let c : ℕ = last_count o s.history in
          let w : View = has_failed next (UnderWay c) v in
          let by : NotedBy (lock_of 6) 6 v w = record { place = next; count = c; view = refl; word_is = refl } in (
            w,
            looked o ws seat w s refl refl refl (calm_seat (one_place ws) o s.history w its.opening_is (record { writes = its.own.writes; latest = its.own.latest }) its.note its.loaded still.storing still.joining) (looks w (UnderWay c) (sym (held_now o s.history (slice_index ws 0) r.word)) refl),
            record {
              lock = subst (λ x. is_lock_word x ≡ true) (sym r.word) refl;
              noted = subst (λ x. NotedBy (lock_of x) x v w) (sym r.word) by;
            },
          )

  -- ---- a value load

  pub load_step : (i : ℕ) → IsLoading i v → i < length o.values → Looks o ws views id (λ w. w ≡ has_loaded (slice_index ws (suc i)) v)
  load_step i is lt =
      let x : ℕ = slice_index ws (suc i) in (
        has_loaded x v,
        looked o ws seat (has_loaded x v) s refl refl refl (calm_seat (one_place ws) o s.history (has_loaded x v) its.opening_is (record { writes = its.own.writes; latest = its.own.latest }) its.note more is.storing is.joining) (looks_kept time_of (AtRest o.count) now now seat (has_loaded x v) s.seats.looks refl refl),
        refl,
      )
    where
      more : (c : ℕ) → v.note ≡ Some c → slice_index ws 0 ≡ 4 * c
          → v.loaded ++ slice_index ws (suc i) ∷ [] ≡ take (length (v.loaded ++ slice_index ws (suc i) ∷ [])) (cell_values ws)
      more c n w =
          let one : length (v.loaded ++ slice_index ws (suc i) ∷ []) ≡ suc i = omega (arith, length-append v.loaded (slice_index ws (suc i) ∷ []), is.loaded) in
          let so_far : v.loaded ≡ take i (cell_values ws) = its.loaded c n w ∙ ap (λ k. take k (cell_values ws)) is.loaded in
          let long = values_long ws (length o.values) s.long in
          ap (λ l. l ++ slice_index ws (suc i) ∷ []) so_far
          ∙ ap (λ x. take i (cell_values ws) ++ x ∷ []) (sym (value_index ws i))
          ∙ sym (take-suc (cell_values ws) i 0 (omega (arith, long, lt)))
          ∙ ap (λ k. take k (cell_values ws)) (sym one)

  pub load_step_at : (i j : ℕ) → j ≡ suc i → IsLoading i v → i < length o.values → Looks o ws views id (λ w. w ≡ has_loaded (slice_index ws j) v)
  load_step_at i j e is lt = subst (λ k. Looks o ws views id (λ w. w ≡ has_loaded (slice_index ws k) v)) (sym e) (load_step i is lt)

  -- ---- a finish load

  pub finish_step : (is_last : Bool) → IsLoading (length o.values) v → Looks o ws views id (TellsFinish is_last v (slice_index ws 0))
  finish_step is_last is = dite (ℕ_discrete (slice_index ws 0) (4 * note_of v)) (λ e. ⊎_elim (same_at e) (λ r. absurd (omega (arith, e, r.word))) s.lock) other
    where
      note : v.note ≡ Some (note_of v)
      note = some_value 0 v.note is.noted

      got : Record
      got = record_of (note_of v) v.loaded

      same_at : slice_index ws 0 ≡ 4 * note_of v → IsAtRest o s.history ws views → Looks o ws views id (TellsFinish is_last v (slice_index ws 0))
      same_at e r =
          let c : note_of v ≡ last_count o s.history = omega (arith, e, r.word) in
          let all : v.loaded ≡ cell_values ws = all_taken v.loaded (cell_values ws) (its.loaded (note_of v) note e) (is.loaded ∙ sym (values_long ws (length o.values) s.long)) in
          let last : IsLast o s.history got = record { count = c; values = r.values.values ∙ ap Some (sym all) } in
          let w : View = has_read got (has_looked next (AtRest (note_of v)) (forgot v)) in (
            w,
            looked o ws seat w s refl refl refl (calm_seat (one_place ws) o s.history w its.opening_is (record { writes = its.own.writes; latest = last_stands o s.history got last }) its.note (nothing_loaded (one_place ws) v.note [] refl) is.storing is.joining) (looks w (AtRest (note_of v)) (ap AtRest c ∙ sym (rests_now o s.history (slice_index ws 0) (last_count o s.history) r.word)) refl),
            record {
              same = λ e'. record {
                place = next;
                view = refl;
                seen = is_seen o s.history v got its.opening_is its.own last;
              };
              other = λ n. absurd (n e);
            },
          )

      ended : Bool → View
      ended b = attempt_ended b next now (forgot v)

      ended_step : (b : Bool) → HasOneHistory o ws (slice_set views id (ended b))
      ended_step true = looked o ws seat (ended true) s refl refl refl (calm_seat (one_place ws) o s.history (ended true) its.opening_is (record { writes = its.own.writes; latest = its.own.latest }) its.note (nothing_loaded (one_place ws) v.note [] refl) is.storing is.joining) (looks (ended true) now refl refl)
      ended_step false = looked o ws seat (ended false) s refl refl refl (calm_seat (one_place ws) o s.history (ended false) its.opening_is (record { writes = its.own.writes; latest = its.own.latest }) its.note (nothing_loaded (one_place ws) v.note [] refl) is.storing is.joining) (looks (ended false) now refl refl)

      other : slice_index ws 0 ≢ 4 * note_of v → Looks o ws views id (TellsFinish is_last v (slice_index ws 0))
      other n = (ended is_last, ended_step is_last, record { same = λ e. absurd (n e); other = λ m. record { place = next; moment = now; view = refl; word_is = stands } })

  -- ---- the second load of a join

  pub compare_step : IsJoining v → Looks o ws views id (HasCompared v)
  compare_step is =
      let r : Record = joining_of v in
      let there : RecordStands o s.history r = if_some (RecordStands o s.history) v.joining r (some_value (record_of 0 []) v.joining is.joining) its.joining in
      let w : View = has_compared r v in (
        w,
        looked o ws seat w s refl refl refl (calm_seat (one_place ws) o s.history w its.opening_is (record { writes = its.own.writes; latest = newest_stands o s.history v.latest r its.own.latest there }) its.note (nothing_loaded (one_place ws) v.note v.loaded is.loaded) is.storing refl) (looks_kept time_of (AtRest o.count) now now seat w s.seats.looks refl refl),
        record {
          view = refl;
          history = s.history;
          own = subst (λ (q : Record). OwnStand q s.history v) (sym its.opening_is) its.own;
          other = subst (λ (q : Record). RecordStands q s.history r) (sym its.opening_is) there;
        },
      )
