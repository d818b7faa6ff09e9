-- The looks of all seats at the lock word, when one seat looks once more or none does.
use Rattle.std.proofs.Common.{◌≡◌, ◌≢◌, ℕ, ◌+◌, ◌*◌, ◌≤◌, ◌==◌, ◌⊎◌, inl, inr, ⊎_elim, List, [], ◌∷◌, ◌++◌, length, length-append, false, refl, sym, ap, subst, ◌∙◌, arith, slice_set, nat_lt, if◌then◌else◌}
use Rattle.std.{specs.List.sum_by, proofs.lemmas.{Bool.Decides.nat_tests, List.Sums.{sum_by_push, sum_by-append}}}
use Rattle.atomic_table.proofs.Lists.{at_set, at_snoc, set_else}
use Rattle.solero_cell.specs.{CellRules.{HaveLooked, looks_at, one_if}, CellViews.{halved, newcomer, taken_in, spent}, Histories.{History, last_count}}
use Rattle.solero_cell.specs.{Moments.{AllFound, IsRowOfMoments, moment_now, time_of, word_of_moment}, declared.views.{Look.Look, Moment.Moment, Moment.TheVariants.{AtRest, UnderWay}, Record.Record, View.View}}
use Rattle.solero_cell.proofs.{Allowing.Seat, Standing.{got_last, got_longer}, Sums.sum_set}
use lib.ListN.{get_elem?}
use mathlib.Core.Option.{some}

-- ---- moments

way_on : (time : Moment → ℕ) (a : Moment) (ms : List Moment) (b c : Moment) → IsRowOfMoments time a ms b → time b ≤ time c → IsRowOfMoments time a (ms ++ c ∷ []) c
way_on time a [] b c e le = (subst (λ (x : Moment). time x ≤ time c) (sym e) le, refl)
way_on time a (m ∷ ms) b c w le = (w.0, way_on time m ms b c w.1 le)

-- the lock word is free
is_not_held : (x c : ℕ) → x ≡ 4 * c → (x == 6) ≡ false
is_not_held x c e = grind (arith, nat_tests)

pub rests_now : (o : Record) (h : History) (x c : ℕ) → x ≡ 4 * c → moment_now o h x ≡ AtRest (last_count o h)
rests_now o h x c e = ap (λ b. if b then UnderWay (last_count o h) else AtRest (last_count o h)) (is_not_held x c e)

pub held_now : (o : Record) (h : History) (x : ℕ) → x ≡ 6 → moment_now o h x ≡ UnderWay (last_count o h)
held_now o h x e = ap (moment_now o h) e

-- the word of the moment is the word
pub word_now : (o : Record) (h : History) (x : ℕ) → (x ≡ 4 * last_count o h) ⊎ (x ≡ 6) → x ≡ word_of_moment (moment_now o h x)
word_now o h x (inl e) = e ∙ ap word_of_moment (sym (rests_now o h x (last_count o h) e))
word_now o h x (inr e) = e ∙ ap word_of_moment (sym (held_now o h x e))

pub time_at : (m n k : Moment) → m ≡ n → time_of n ≤ time_of k → time_of m ≤ time_of k
time_at m n k e le = subst (λ (x : Moment). time_of x ≤ time_of k) (sym e) le

-- ---- looks of one seat

found_on : (ms : List Moment) (m : Moment) (ls : List Look) → AllFound ms ls → AllFound (ms ++ m ∷ []) ls
found_on ms m [] f = tt
found_on ms m (l ∷ ls) f = (got_longer ms (m ∷ []) l.place l.moment f.0, found_on ms m ls f.1)

found_both : (ms : List Moment) (ls ks : List Look) → AllFound ms ls → AllFound ms ks → AllFound ms (ls ++ ks)
found_both ms [] ks f g = g
found_both ms (l ∷ ls) ks f g = (f.0, found_both ms ls ks f.1 g)

pub none_below : (n : ℕ) → one_if (nat_lt n 0) ≡ 0
none_below n = grind (arith, nat_tests)

one_place_more : (n l : ℕ) → one_if (nat_lt n (l + 1)) ≡ one_if (nat_lt n l) + one_if (l == n)
one_place_more n l = grind (arith, nat_tests)

-- ---- the views of all seats

abbrev pub look_of : ℕ → Moment → Look
look_of n m = record { place = n; moment = m }

module _ (time : Moment → ℕ) (from before after : Moment) {id : ℕ} {v : View} (seat : Seat id v) (w : View) (s : HaveLooked time from before seat.views) where
  open seat use {views, at}

  -- the seat does not look
  pub looks_kept : after ≡ before → w.looks ≡ v.looks → HaveLooked time from after (slice_set views id w)
  looks_kept now same = record {
    moments = s.moments;
    way = subst (IsRowOfMoments time from s.moments) (sym now) s.way;
    found = λ i u g. ⊎_elim
        (λ k. subst (λ (y : View). AllFound s.moments y.looks) k.1 (subst (AllFound s.moments) (sym same) (s.found id v at)))
        (λ k. s.found i u k.1) (at_set views id i w u g);
    once = λ n.
        let sum = sum_set (looks_at n) views id v w at in
        let one : looks_at n w ≡ looks_at n v = ap (λ (ls : List Look). sum_by (λ l. one_if (l.place == n)) ls) same in
        let first = s.once n in omega arith;
  }

  -- it looks once
  pub looks_on : (m : Moment) → m ≡ after → time before ≤ time m → w.looks ≡ v.looks ++ look_of (length s.moments) m ∷ []
      → HaveLooked time from after (slice_set views id w)
  looks_on m now le more = record {
    moments = s.moments ++ m ∷ [];
    way = subst (IsRowOfMoments time from (s.moments ++ m ∷ [])) now (way_on time from s.moments before m s.way le);
    found = λ i u g. ⊎_elim
        (λ k. subst (λ (y : View). AllFound (s.moments ++ m ∷ []) y.looks) k.1 mine)
        (λ k. found_on s.moments m u.looks (s.found i u k.1)) (at_set views id i w u g);
    once = λ n.
        let sum = sum_set (looks_at n) views id v w at in
        let push = sum_by_push (λ (l : Look). one_if (l.place == n)) v.looks (look_of (length s.moments) m) in
        let one : looks_at n w ≡ sum_by (λ (l : Look). one_if (l.place == n)) (v.looks ++ look_of (length s.moments) m ∷ []) = ap (λ (ls : List Look). sum_by (λ l. one_if (l.place == n)) ls) more in
        let first = s.once n in
        let here = one_place_more n (length s.moments) in
        let long : one_if (nat_lt n (length (s.moments ++ m ∷ []))) ≡ one_if (nat_lt n (length s.moments + 1)) = ap (λ k. one_if (nat_lt n k)) (length-append s.moments (m ∷ [])) in
        omega arith;
  }
    where
      mine : AllFound (s.moments ++ m ∷ []) w.looks
      mine = subst (AllFound (s.moments ++ m ∷ [])) (sym more) (found_both (s.moments ++ m ∷ []) v.looks (look_of (length s.moments) m ∷ []) (found_on s.moments m v.looks (s.found id v at)) (got_last s.moments m, tt))

-- ---- a split, and a join

module _ (time : Moment → ℕ) (from now : Moment) {id : ℕ} {v : View} (seat : Seat id v) (s : HaveLooked time from now seat.views) where
  open seat use {views, at}

  pub looks_cut : HaveLooked time from now (slice_set views id (halved v) ++ newcomer v ∷ [])
  unfolding looks_kept
  looks_cut =
      let kept : HaveLooked time from now (slice_set views id (halved v)) = looks_kept time from now now seat (halved v) s refl refl in record {
        moments = s.moments;
        way = s.way;
        found = λ i u g. ⊎_elim (λ k. kept.found i u k) (λ k. subst (λ (y : View). AllFound s.moments y.looks) k tt) (at_snoc (slice_set views id (halved v)) (newcomer v) u i g);
        once = λ n. let push = sum_by_push (looks_at n) (slice_set views id (halved v)) (newcomer v) in let before = kept.once n in omega arith;
      }

  pub looks_joined : (other : ℕ) (w : View) → other ≢ id → get_elem? views other ≡ some w
      → HaveLooked time from now (slice_set (slice_set views id (taken_in v w)) other spent)
  looks_joined other w apart at_other = record {
    moments = s.moments;
    way = s.way;
    found = λ i u g. ⊎_elim
        (λ k. subst (λ (y : View). AllFound s.moments y.looks) k.1 tt)
        (λ k. ⊎_elim
        (λ m. subst (λ (y : View). AllFound s.moments y.looks) m.1 (found_both s.moments v.looks w.looks (s.found id v at) (s.found other w at_other)))
        (λ m. s.found i u m.1) (at_set views id i (taken_in v w) u k.1))
        (at_set (slice_set views id (taken_in v w)) other i spent u g);
    once = λ n.
        let first = sum_set (looks_at n) views id v (taken_in v w) at in
        let second = sum_set (looks_at n) (slice_set views id (taken_in v w)) other w spent (set_else views id other (taken_in v w) apart ∙ at_other) in
        let both = sum_by-append (λ (l : Look). one_if (l.place == n)) v.looks w.looks in
        let before = s.once n in omega arith;
  }
