-- A seat that is split, and two that are joined, keep the rule. And a new cell meets it.
use Rattle.std.proofs.Common.{◌≡◌, ◌≢◌, ℕ, zero, suc, ◌+◌, ◌*◌, ◌-◌, ◌^◌, ◌<◌, inl, inr, ⊎_elim, List, [], ◌∷◌, ◌++◌, length-append, None, refl, sym, ap, subst, ◌∙◌, arith, slice_index, slice_set, ◌==◌}
use Rattle.std.{specs.List.sum_by, proofs.lemmas.{Bool.Decides.nat_tests, List.Sums.{sum_by_push, sum_by-append}}}
use Rattle.atomic_table.{specs.Table.{Splits, Joins}, proofs.Lists.{at_set, at_snoc, set_else}}
use Rattle.solero_cell.specs.CellRules.{ViewKnowledge, SeatFits, one_if, times, storing_count, written_count, is_in_span, ShareHistory, HasOneHistory}
use Rattle.solero_cell.specs.{CellViews.{first_view, halved, newcomer, taken_in, spent, IsStill}, Histories.History, Moments.{AllFound, moment_now, time_of}, declared.views.{Moment.{Moment, TheVariants.AtRest}, Record.Record, View.View}}
use Rattle.solero_cell.proofs.{Allowing.{Seat, by_words}, Made.lock_as, Looking.{looks_cut, looks_joined, none_below, rests_now}, Knowing.{Knows, Layout, one_place, calm_seat, nothing_loaded, is_not_storing}, ReadSteps.its, Shares.{whole_cut, whole_joined, sum_pos}, Standing.{all_both, opening_stands}, Sums.sum_set}
use lib.ListN.{get_elem?}
use mathlib.Core.Option.{some, some-injective, some-ne-none}

-- ---- a split

module _ {id : ℕ} {v : View} (seat : Seat id v) where
  open seat use {views, at, parts}

  abbrev pub cut_views : List View
  cut_views = slice_set views id (halved v) ++ newcomer v ∷ []

  -- what both views have 0 of, or one of them has
  pub cut_sum : (f : View → ℕ) → f (halved v) ≡ f v → f (newcomer v) ≡ 0 → sum_by f cut_views ≡ sum_by f views
  cut_sum f e z = let set = sum_set f views id v (halved v) at in let push = sum_by_push f (slice_set views id (halved v)) (newcomer v) in omega arith

  -- the seats of any cell
  pub seats_cut : (o : Record) (h : History) (Knows : View → Type 0) (time : Moment → ℕ) (now : Moment)
      → ShareHistory o h Knows time now views → Knows (halved v) → Knows (newcomer v) → ShareHistory o h Knows time now cut_views
  seats_cut o h Knows time now s left right = record {
    each = λ i u g. ⊎_elim
        (λ k. ⊎_elim (λ m. subst (SeatFits Knows) m.1 (inr (parts, left))) (λ m. s.each i u m.1) (at_set views id i (halved v) u k))
        (λ k. subst (SeatFits Knows) k (inr (parts, right))) (at_snoc (slice_set views id (halved v)) (newcomer v) u i g);
    once = λ n. cut_sum (times n) refl refl ∙ s.once n;
    count = cut_sum written_count refl refl ∙ s.count;
    whole = whole_cut views id v (halved v) (newcomer v) at refl refl s.whole;
    looks = looks_cut time (AtRest o.count) now seat s.looks;
  }

-- what a view that is in the middle of nothing knows, both know
module _ (layout : Layout) (o : Record) (h : History) (v : View) (still : IsStill v) (k : Knows o h layout v) where
  pub halved_knows : Knows o h layout (halved v)
  halved_knows = calm_seat layout o h (halved v) k.opening_is (record { writes = k.own.writes; latest = k.own.latest }) k.note k.loaded still.storing still.joining

  pub newcomer_knows : Knows o h layout (newcomer v)
  newcomer_knows = calm_seat layout o h (newcomer v) k.opening_is (record { writes = tt; latest = k.own.latest }) tt (nothing_loaded layout None [] refl) refl refl

pub splits : {S : Type 0} (o : Record) (id : ℕ) (v : View) → 0 < v.share.parts → IsStill v
    → Splits {S = S} (by_words (HasOneHistory o)) id v (halved v) (newcomer v)
splits o id v parts still s run at =
    let ws = s.words in
    let seat : Seat id v = record { views = s.views; at = at; parts = parts } in
    let mine = its o ws seat run in record {
      history = run.history;
      long = run.long;
      lock = lock_as o run.history ws s.views (cut_views seat) (cut_sum seat storing_count refl refl) run.lock;
      seats = seats_cut seat o run.history (ViewKnowledge o run.history ws) time_of (moment_now o run.history (slice_index ws 0)) run.seats
          (halved_knows (one_place ws) o run.history v still mine) (newcomer_knows (one_place ws) o run.history v still mine);
    }

-- ---- a join

module _ {id : ℕ} {v : View} (seat : Seat id v) (other : ℕ) (w : View) (apart : other ≢ id) (at_other : get_elem? seat.views other ≡ some w) where
  open seat use {views, at, parts}

  abbrev pub joined_of : List View
  joined_of = slice_set (slice_set views id (taken_in v w)) other spent

  pub joined_sum : (f : View → ℕ) → f (taken_in v w) ≡ f v + f w → f spent ≡ 0 → sum_by f joined_of ≡ sum_by f views
  joined_sum f e z =
      let there : get_elem? (slice_set views id (taken_in v w)) other ≡ some w = set_else views id other (taken_in v w) apart ∙ at_other in
      let first = sum_set f views id v (taken_in v w) at in let second = sum_set f (slice_set views id (taken_in v w)) other w spent there in omega arith

  -- no write of either is under way
  pub joined_stores : IsStill v → IsStill w → sum_by storing_count joined_of ≡ sum_by storing_count views
  joined_stores still still' =
      let none : storing_count v ≡ 0 = is_not_storing v still.storing in
      let none' : storing_count w ≡ 0 = is_not_storing w still'.storing in
      let of_both : storing_count (taken_in v w) ≡ storing_count v = refl in
      joined_sum storing_count (omega (arith, none, none', of_both)) refl

  -- the seats of any cell
  pub seats_joined : (o : Record) (h : History) (Knows : View → Type 0) (time : Moment → ℕ) (now : Moment)
      → ShareHistory o h Knows time now views → Knows (taken_in v w) → ShareHistory o h Knows time now joined_of
  seats_joined o h Knows time now s both = record {
    each = λ i u g. ⊎_elim (λ k. inl (sym k.1))
        (λ k. ⊎_elim (λ m. subst (SeatFits Knows) m.1 (inr (sum_pos v.share w.share parts, both))) (λ m. s.each i u m.1) (at_set views id i (taken_in v w) u k.1))
        (at_set (slice_set views id (taken_in v w)) other i spent u g);
    once = λ n. joined_sum (times n) (sum_by-append (λ (r : Record). one_if (r.count == n)) v.writes w.writes) refl ∙ s.once n;
    count = joined_sum written_count (length-append v.writes w.writes) refl ∙ s.count;
    whole = whole_joined views id other v w (taken_in v w) at apart at_other refl s.whole;
    looks = looks_joined time (AtRest o.count) now seat s.looks other w apart at_other;
  }

-- what two views know, the one that takes in the other knows
pub both_know : (layout : Layout) (o : Record) (h : History) (v w : View) → Knows o h layout v → Knows o h layout w
    → Knows o h layout (taken_in v w)
both_know layout o h v w one two = record {
  opening_is = one.opening_is;
  own = record { writes = all_both o h v.writes w.writes one.own.writes two.own.writes; latest = one.own.latest };
  note = one.note;
  loaded = one.loaded;
  storing = one.storing;
  joining = two.own.latest;
}

pub joins : {S : Type 0} (o : Record) (id other : ℕ) (v w : View) → 0 < v.share.parts → 0 < w.share.parts → IsStill v → IsStill w
    → Joins {S = S} (by_words (HasOneHistory o)) id v other w (taken_in v w) spent
joins o id other v w parts parts' still still' s run at apart g =
    let ws = s.words in
    let at_other : get_elem? s.views other ≡ some w = sym (set_else s.views id other (taken_in v w) apart) ∙ g in
    let seat : Seat id v = record { views = s.views; at = at; parts = parts } in
    let seat' : Seat other w = record { views = s.views; at = at_other; parts = parts' } in record {
      history = run.history;
      long = run.long;
      lock = lock_as o run.history ws s.views (joined_of seat other w apart at_other) (joined_stores seat other w apart at_other still still') run.lock;
      seats = seats_joined seat other w apart at_other o run.history (ViewKnowledge o run.history ws) time_of (moment_now o run.history (slice_index ws 0)) run.seats
          (both_know (one_place ws) o run.history v w (its o ws seat run) (its o ws seat' run));
    }

-- ---- a new cell

nothing_between : (n m : ℕ) → one_if (is_in_span n m (m + 0)) ≡ 0
nothing_between n m = grind (arith, nat_tests)

once_is : (n : ℕ) → 0 + 1 * n ≡ n
once_is n = omega arith

first_depth : (depth : ℕ) → 0 + 1 * 2 ^ (depth - 0) ≡ 2 ^ depth
first_depth depth = once_is (2 ^ (depth - 0)) ∙ ap (λ k. 2 ^ k) (omega arith)

-- the seats of any cell
pub seats_opened : (o : Record) (Knows : View → Type 0) (time : Moment → ℕ) (now : Moment) → Knows (first_view o) → AtRest o.count ≡ now
    → ShareHistory o [] Knows time now (first_view o ∷ [])
seats_opened o Knows time now knows way = record {
  each = only;
  once = λ n. sym (nothing_between n o.count);
  count = refl;
  whole = λ depth have. first_depth depth;
  looks = record {
    moments = [];
    way = way;
    found = λ i v g. none_found i v g;
    once = λ n. sym (none_below n);
  };
}
  where
    none_found : (i : ℕ) (u : View) → get_elem? (first_view o ∷ []) i ≡ some u → AllFound [] u.looks
    none_found zero u g = subst (λ (y : View). AllFound [] y.looks) (some-injective (first_view o) u g) tt
    none_found (suc i) u g = absurd (some-ne-none u (sym g))

    only : (i : ℕ) (u : View) → get_elem? (first_view o ∷ []) i ≡ some u → SeatFits Knows u
    only zero u g = subst (SeatFits Knows) (some-injective (first_view o) u g) (inr (omega arith, knows))
    only (suc i) u g = absurd (some-ne-none u (sym g))

-- what the first seat knows
pub first_knows : (layout : Layout) (o : Record) → Knows o [] layout (first_view o)
first_knows layout o = calm_seat layout o [] (first_view o) refl (record { writes = tt; latest = opening_stands o }) tt (nothing_loaded layout None [] refl) refl refl

pub opening_shows : (o : Record) → HasOneHistory o (4 * o.count ∷ o.values) (first_view o ∷ [])
opening_shows o = record {
  history = [];
  long = refl;
  lock = inl (record { word = omega arith; values = record { count = refl; values = refl }; nobody = refl });
  seats = seats_opened o (ViewKnowledge o [] (4 * o.count ∷ o.values)) time_of (moment_now o [] (4 * o.count)) (first_knows (one_place (4 * o.count ∷ o.values)) o)
      (sym (rests_now o [] (4 * o.count) o.count refl ∙ ap AtRest (omega arith)));
}
