-- What each step of a latch cell's seat begins with, and a step that leaves the words.
use Rattle.std.proofs.Common.{◌≡◌, ℕ, ◌≤◌, ◌==◌, ◌⊎◌, inl, inr, ⊎_elim, List, ◌∷◌, [], ◌++◌, length, Bool, true, false, refl, sym, subst, ◌∙◌, arith, slice_index, slice_set, if◌then◌else◌}
use Rattle.std.specs.List.{sum_by}
use Rattle.solero_cell.specs.{CellRules.{HaveLooked, IsHeldByWrite, storing_count}, Histories.{History, last_count}, Moments.{moment_now, word_of_moment}}
use Rattle.solero_cell.{specs.declared.views.{Moment.{Moment, TheVariants.{AtRest, UnderWay}}, Record.Record, View.View}, proofs.{Allowing.Seat, Knowing.{Layout, knows_of}, Looking.{look_of, looks_on, word_now}, Made.{same_stores, seats_kept}}}
use Rattle.latch_cell.specs.{Copies.{latch_count, copy_of}, LatchRules.{count_of, LatchKnowledge, IsLetGo, HasTwoCopies}}

-- the count of the moment that is now
count_by : (b : Bool) (n : ℕ) → count_of (if b then UnderWay n else AtRest n) ≡ n
count_by true n = refl
count_by false n = refl

pub count_now : (o : Record) (h : History) (x : ℕ) → count_of (moment_now o h x) ≡ last_count o h
count_now o h x = count_by (x == 6) (last_count o h)

pub locks_as : (o : Record) (h : History) (ws : List ℕ) (views views' : List View) → sum_by storing_count views' ≡ sum_by storing_count views
    → IsLetGo o h ws views ⊎ IsHeldByWrite ws views → IsLetGo o h ws views' ⊎ IsHeldByWrite ws views'
locks_as o h ws views views' e (inl r) = inl (record { word = r.word; nobody = e ∙ r.nobody })
locks_as o h ws views views' e (inr r) = inr (record { word = r.word; one = e ∙ r.one })

abbrev pub copy_at : (o : Record) (words : List ℕ) → ℕ → List ℕ
copy_at o ws = copy_of (length o.values) ws

-- where the counts and the copies stand
abbrev pub copies : (o : Record) (words : List ℕ) → Layout
copies o ws = record { IsLeft = λ c. latch_count ws ≡ c; place = copy_at o ws }

module _ (o : Record) {id : ℕ} {v : View} (ws : List ℕ) (seat : Seat id v) (s : HasTwoCopies o ws seat.views) where
  open seat use {views, at, parts}

  pub its : LatchKnowledge o s.history ws v
  its = knows_of (LatchKnowledge o s.history ws) v parts (s.seats.each id v at)

  abbrev pub next : ℕ
  next = length s.seats.looks.moments

  abbrev pub now : Moment
  now = moment_now o s.history (slice_index ws 0)

  pub now_is : count_of now ≡ last_count o s.history
  now_is = count_now o s.history (slice_index ws 0)

  pub counted_is : latch_count ws ≡ count_of now
  counted_is = s.count ∙ sym now_is

  pub stands : slice_index ws 0 ≡ word_of_moment now
  stands = word_now o s.history (slice_index ws 0) (⊎_elim (λ (r : IsLetGo o s.history ws views). inl r.word) (λ (r : IsHeldByWrite ws views). inr r.word) s.lock)

  pub looks : (w : View) (m : Moment) → m ≡ now → w.looks ≡ v.looks ++ look_of next m ∷ [] → HaveLooked count_of (AtRest o.count) now (slice_set views id w)
  looks w m e more = looks_on count_of (AtRest o.count) now now seat w s.seats.looks m e (subst (λ (x : Moment). count_of now ≤ count_of x) (sym e) (omega arith)) more

  -- a step that leaves the words and the writes
  pub looked : (w : View) → w.share ≡ v.share → w.writes ≡ v.writes → storing_count w ≡ storing_count v → LatchKnowledge o s.history ws w
      → HaveLooked count_of (AtRest o.count) now (slice_set views id w) → HasTwoCopies o ws (slice_set views id w)
  looked w share writes e mine looks = record {
    history = s.history;
    long = s.long;
    count = s.count;
    values = s.values;
    lock = locks_as o s.history ws views (slice_set views id w) (same_stores views id v w at e) s.lock;
    seats = seats_kept o s.history (LatchKnowledge o s.history ws) count_of now seat s.seats w share (LatchKnowledge o s.history ws) now writes mine (λ i u n g k. k) looks;
  }
