-- A step of one seat keeps the rule, where it keeps what the rule says of each view, of the lock and of the counts.
use Rattle.std.{proofs.Common.{◌≡◌, ◌≢◌, ℕ, ◌+◌, ◌<◌, ◌⊎◌, inl, inr, ⊎_elim, List, length, sym, ap, subst, ◌∙◌, arith, slice_set, ◌==◌, slice_index}, specs.List.sum_by}
use Rattle.atomic_table.proofs.Lists.{at_set}
use Rattle.solero_cell.specs.{CellRules.{ViewKnowledge, SeatFits, one_if, times, storing_count, written_count, is_in_span, IsAtRest, IsHeldByWrite, HaveLooked, ShareHistory, HasOneHistory}, Histories.{History, last_count}}
use Rattle.solero_cell.{specs.{Moments.{time_of, moment_now}, declared.views.{Moment.{Moment, TheVariants.AtRest}, Record.Record, View.View}}, proofs.{Allowing.Seat, Shares.whole_same, Sums.sum_set}}
use lib.ListN.{get_elem?}
use mathlib.Core.Option.{some}

module _ (Knows Knows' : View → Type 0) (views : List View) (id : ℕ) (w : View) where
  -- the fact of each view, where the view id alone is another one
  pub each_set : ((i : ℕ) (u : View) → get_elem? views i ≡ some u → SeatFits Knows u)
      → ((i : ℕ) (u : View) → i ≢ id → get_elem? views i ≡ some u → Knows u → Knows' u)
      → SeatFits Knows' w
      → (i : ℕ) (u : View) → get_elem? (slice_set views id w) i ≡ some u → SeatFits Knows' u
  each_set each others mine i u g =
      ⊎_elim (λ k. subst (SeatFits Knows') k.1 mine) (λ k. ⊎_elim (λ e. inl e) (λ f. inr (f.0, others i u k.0 k.1 f.1)) (each i u k.1)) (at_set views id i w u g)

-- so many writes are under way as before
pub same_stores : (views : List View) (id : ℕ) (v w : View) → get_elem? views id ≡ some v → storing_count w ≡ storing_count v
    → sum_by storing_count (slice_set views id w) ≡ sum_by storing_count views
same_stores views id v w at e = let sum = sum_set storing_count views id v w at in omega arith

-- the lock is as it was where as many writes are under way
pub lock_as : (o : Record) (h : History) (ws : List ℕ) (views views' : List View) → sum_by storing_count views' ≡ sum_by storing_count views
    → IsAtRest o h ws views ⊎ IsHeldByWrite ws views → IsAtRest o h ws views' ⊎ IsHeldByWrite ws views'
lock_as o h ws views views' e (inl r) = inl (record { word = r.word; values = r.values; nobody = e ∙ r.nobody })
lock_as o h ws views views' e (inr r) = inr (record { word = r.word; one = e ∙ r.one })

-- ---- the seats of any cell

module _ (o : Record) (h : History) (Knows : View → Type 0) (time : Moment → ℕ) (now : Moment) {id : ℕ} {v : View} (seat : Seat id v)
    (s : ShareHistory o h Knows time now seat.views) where
  open seat use {views, at, parts}

  pub seats_made : (w : View) → w.share ≡ v.share → (h' : History) (Knows' : View → Type 0) (now' : Moment) → Knows' w
      → ((i : ℕ) (u : View) → i ≢ id → get_elem? views i ≡ some u → Knows u → Knows' u)
      → ((n : ℕ) → times n w + one_if (is_in_span n o.count (last_count o h)) ≡ times n v + one_if (is_in_span n o.count (last_count o h')))
      → written_count w + length h ≡ written_count v + length h'
      → HaveLooked time (AtRest o.count) now' (slice_set views id w)
      → ShareHistory o h' Knows' time now' (slice_set views id w)
  seats_made w share h' Knows' now' mine others once count looks = record {
    each = each_set Knows Knows' views id w s.each others (inr (subst (λ z. 0 < z) (ap (λ z. z.parts) (sym share)) parts, mine));
    once = λ n. let sum = sum_set (times n) views id v w at in let before = s.once n in let now = once n in omega arith;
    count = let sum = sum_set written_count views id v w at in let before = s.count in omega arith;
    whole = whole_same views id v w at share s.whole;
    looks = looks;
  }

  -- a step that leaves the writes
  pub seats_kept : (w : View) → w.share ≡ v.share → (Knows' : View → Type 0) (now' : Moment) → w.writes ≡ v.writes → Knows' w
      → ((i : ℕ) (u : View) → i ≢ id → get_elem? views i ≡ some u → Knows u → Knows' u)
      → HaveLooked time (AtRest o.count) now' (slice_set views id w)
      → ShareHistory o h Knows' time now' (slice_set views id w)
  seats_kept w share Knows' now' writes mine others looks = seats_made w share h Knows' now' mine others
      (λ n. ap (λ (rs : List Record). sum_by (λ r. one_if (r.count == n)) rs + one_if (is_in_span n o.count (last_count o h))) writes)
      (ap (λ (rs : List Record). length rs + length h) writes) looks

-- ---- of this cell

module _ (o : Record) (ws : List ℕ) {id : ℕ} {v : View} (seat : Seat id v) (w : View) (s : HasOneHistory o ws seat.views) (share : w.share ≡ v.share) where
  open seat use {views, at}

  abbrev pub now_in : (h : History) (words : List ℕ) → Moment
  now_in h words = moment_now o h (slice_index words 0)

  pub made : (ws' : List ℕ) (h' : History) → length ws' ≡ length ws
      → IsAtRest o h' ws' (slice_set views id w) ⊎ IsHeldByWrite ws' (slice_set views id w)
      → ViewKnowledge o h' ws' w
      → ((i : ℕ) (u : View) → i ≢ id → get_elem? views i ≡ some u → ViewKnowledge o s.history ws u → ViewKnowledge o h' ws' u)
      → ((n : ℕ) → times n w + one_if (is_in_span n o.count (last_count o s.history)) ≡ times n v + one_if (is_in_span n o.count (last_count o h')))
      → written_count w + length s.history ≡ written_count v + length h'
      → HaveLooked time_of (AtRest o.count) (now_in h' ws') (slice_set views id w)
      → HasOneHistory o ws' (slice_set views id w)
  made ws' h' long lock mine others once count looks = record {
    history = h';
    long = long ∙ s.long;
    lock = lock;
    seats = seats_made o s.history (ViewKnowledge o s.history ws) time_of (now_in s.history ws) seat s.seats w share h' (ViewKnowledge o h' ws') (now_in h' ws') mine others once count looks;
  }

  -- a step that leaves the words and the writes
  pub looked : w.writes ≡ v.writes → storing_count w ≡ storing_count v → ViewKnowledge o s.history ws w → HaveLooked time_of (AtRest o.count) (now_in s.history ws) (slice_set views id w)
      → HasOneHistory o ws (slice_set views id w)
  looked writes e mine looks = record {
    history = s.history;
    long = s.long;
    lock = lock_as o s.history ws views (slice_set views id w) (same_stores views id v w at e) s.lock;
    seats = seats_kept o s.history (ViewKnowledge o s.history ws) time_of (now_in s.history ws) seat s.seats w share (ViewKnowledge o s.history ws) (now_in s.history ws) writes mine (λ i u n g k. k) looks;
  }
