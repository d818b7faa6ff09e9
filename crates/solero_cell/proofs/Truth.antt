-- A look that a step adds has found what the lock word is behind the step.
use Rattle.std.proofs.Common.{◌≡◌, ℕ, zero, suc, ◌+◌, ◌==◌, inl, inr, ⊎_elim, List, [], ◌∷◌, ◌++◌, length, Some, sym, ap, subst, ◌∙◌, arith, slice_index, slice_set, slice_get, nat_lt}
use Rattle.std.{specs.List.sum_by, proofs.lemmas.{Bool.Decides.nat_tests, List.Sums.sum_by_push}}
use Rattle.atomic_table.proofs.Lists.{set_here}
use Rattle.solero_cell.specs.{CellRules.{HaveLooked, IsAtRest, IsHeldByWrite, looks_at, one_if}, Looks.AddedLooksAreTrue, Moments.{AllFound, IsRowOfMoments, moment_now, time_of, word_of_moment}}
use Rattle.solero_cell.{specs.declared.views.{Look.Look, Moment.Moment, Moment.TheVariants.AtRest, View.View}, proofs.{Looking.{look_of, word_now}, Sums.{sum_set, within}}}
use lib.ListN.{get_elem?}
use mathlib.Core.Option.{some}

-- of two numbers of places, where one place more is taken
next_place : (place few more : ℕ) → one_if (nat_lt few more) ≡ one_if (nat_lt few few) + one_if (place == few)
    → one_if (nat_lt place more) ≡ one_if (nat_lt place few) + one_if (place == place) → place ≡ few
next_place place few more a b = grind (arith, nat_tests)

one_more_place : (few more : ℕ) → one_if (nat_lt few more) ≡ one_if (nat_lt few few) + one_if (few == few)
    → one_if (nat_lt (suc few) more) ≡ one_if (nat_lt (suc few) few) + one_if (few == suc few) → more ≡ suc few
one_more_place few more a b = grind (arith, nat_tests)

none_there : (few : ℕ) → one_if (nat_lt few few) ≡ 0
none_there few = grind (arith, nat_tests)

way_end : (time : Moment → ℕ) (a : Moment) (ms : List Moment) (b m : Moment) (n : ℕ) → IsRowOfMoments time a ms b → length ms ≡ suc n → slice_get ms n ≡ Some m → m ≡ b
way_end time a [] b m n w long got = absurd (omega (arith, long))
way_end time a (x ∷ []) b m zero w long got = let same : x ≡ m = cc in sym same ∙ w.1
way_end time a (x ∷ []) b m (suc n) w long got = absurd (omega (arith, long))
way_end time a (x ∷ y ∷ ms) b m zero w long got = absurd (omega (arith, long))
way_end time a (x ∷ y ∷ ms) b m (suc n) w long got = way_end time x (y ∷ ms) b m n w.1 (omega (arith, long)) got

found_last : (ms : List Moment) (ls : List Look) (l : Look) → AllFound ms (ls ++ l ∷ []) → slice_get ms l.place ≡ Some l.moment
found_last ms [] l f = f.0
found_last ms (k ∷ ls) l f = found_last ms ls l f.1

-- of the looks of any cell: no look had the place of the one that a step adds, and that one is the moment behind the step
pub added : (time : Moment → ℕ) (from now now' : Moment) (views : List View) (seat place : ℕ) (m : Moment) (v w : View) → HaveLooked time from now views
    → get_elem? views seat ≡ some v → w.looks ≡ v.looks ++ look_of place m ∷ [] → HaveLooked time from now' (slice_set views seat w)
    → (sum_by (looks_at place) views ≡ 0) × (m ≡ now')
added time from now now' views seat place m v w s at more s' =
    let ms : List Moment = s.moments in
    let ms' : List Moment = s'.moments in
    let add : (n : ℕ) → one_if (nat_lt n (length ms')) ≡ one_if (nat_lt n (length ms)) + one_if (place == n) = λ n.
    let sum = sum_set (looks_at n) views seat v w at in
    let push = sum_by_push (λ (l : Look). one_if (l.place == n)) v.looks (look_of place m) in
    let one : looks_at n w ≡ sum_by (λ (l : Look). one_if (l.place == n)) (v.looks ++ look_of place m ∷ []) = ap (λ (ls : List Look). sum_by (λ l. one_if (l.place == n)) ls) more in
    let before = s.once n in
    let after = s'.once n in omega arith in
    let next : place ≡ length ms = next_place place (length ms) (length ms') (add (length ms)) (add place) in
    let long : length ms' ≡ suc (length ms) = one_more_place (length ms) (length ms') (subst (λ k. one_if (nat_lt (length ms) (length ms')) ≡ one_if (nat_lt (length ms) (length ms)) + one_if (k == length ms)) next (add (length ms))) (subst (λ k. one_if (nat_lt (suc (length ms)) (length ms')) ≡ one_if (nat_lt (suc (length ms)) (length ms)) + one_if (k == suc (length ms))) next (add (suc (length ms)))) in
    let found : AllFound ms' (v.looks ++ look_of place m ∷ []) = subst (AllFound ms') more (s'.found seat w (set_here views seat w (within views seat v at))) in
    let got : slice_get ms' (length ms) ≡ Some m = ap (slice_get ms') (sym next) ∙ found_last ms' v.looks (look_of place m) found in (
      ap (λ n. sum_by (looks_at n) views) next ∙ s.once (length ms) ∙ none_there (length ms),
      way_end time from ms' now' m (length ms) s'.way long got,
    )

pub added_is_true : AddedLooksAreTrue
added_is_true o ws ws' views seat place m v w s at more s' =
    let now : Moment = moment_now o s'.history (slice_index ws' 0) in
    let one = added time_of (AtRest o.count) (moment_now o s.history (slice_index ws 0)) now views seat place m v w s.seats.looks at more s'.seats.looks in
    let word = word_now o s'.history (slice_index ws' 0) (⊎_elim (λ (r : IsAtRest o s'.history ws' (slice_set views seat w)). inl r.word) (λ (r : IsHeldByWrite ws' (slice_set views seat w)). inr r.word) s'.lock) in
    (one.0, word ∙ ap word_of_moment (sym one.1))
