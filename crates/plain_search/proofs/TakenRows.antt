-- What the search keeps as it takes up one row more.
use Rattle.std.proofs.Common.{◌≡◌, ◌≢◌, ◌<◌, ◌≤◌, ◌+◌, ℕ, zero, suc, ⊎_elim, List, [], ◌∷◌, ◌++◌, Option, Some, None, length, refl, sym, ap, ◌∙◌, subst, arith, slice_get}
use Rattle.std.specs.Prelude.{Contains}
use Rattle.std.specs.List.{AllByRecursion}
use Rattle.std.proofs.lemmas.List.Elements.{Contains-append_left, Contains-append_right, Contains-append_cases}
use mathlib.Core.Logic.{dite}
use native.Mathlib.Decide.{ℕ_discrete}
use Rattle.checked_program.specs.MarkedProgram.{MarkedProgram}
use Rattle.machine_types.specs.PlainState.{Plain, plain_start}
use Rattle.machine_types.specs.PlainSteps.{plain_step}
use Rattle.plain_orders.specs.Orders.{HasNoStep}
use Rattle.plain_search.specs.declared.row.Row.{Row}
use Rattle.plain_search.specs.declared.row.Gathered.{Gathered}
use Rattle.plain_search.specs.Nexts.{IsNextRow, HasNexts}
use Rattle.plain_search.specs.Rows.{IsLonger, IsSearchRow, IsStateIn, AreStatesIn}
use Rattle.plain_search.specs.Searched.{IsSoundSearch, AreTaken}
use Rattle.plain_search.proofs.RowLists.{still_got, still_in, got_before, all_longer, within}
use Rattle.plain_search.proofs.NextLists.{still_next, next_among}

one_row : (rows : List Row) (k i : ℕ) (r x : Row) → k ≡ i → slice_get rows i ≡ Some r → slice_get rows k ≡ Some x → r ≡ x
one_row rows k i r x e f g = same (slice_get rows i) f (ap (slice_get rows) (sym e) ∙ g)
  where
    same : (o : Option Row) → o ≡ Some r → o ≡ Some x → r ≡ x
    same o a b = cc

only : (i k : ℕ) → Contains (i ∷ []) k → k ≡ i
only i k (zero, l, e) = sym e
only i k (suc j, l, e) = absurd (omega (arith, l))

here : (xs : List ℕ) (i : ℕ) → Contains (xs ++ i ∷ []) i
here xs i = Contains-append_right xs (i ∷ []) i (0, omega arith, refl)

-- a row without a next one has no step
pub none_left : (c : MarkedProgram) (r : Row) → r.plain.program ≡ c → HasNexts r.plain [] → HasNoStep (plain_step c.program) r.plain.state
none_left c r own nexts step = subst (λ (d : MarkedProgram). plain_step d.program r.plain.state step ≡ None) own (by_step (plain_step r.plain.program.program r.plain.state step) refl)
  where
    by_step : (o : Option Plain) → plain_step r.plain.program.program r.plain.state step ≡ o → o ≡ None
    by_step None e = refl
    by_step (Some y) e = absurd (no (nexts step y e).2)
      where
        no : {q : Plain} → IsStateIn [] q → ⊥
        no v = nothing v.1 v.2
          where
            nothing : (x : Row) → None ≡ Some x → ⊥
            nothing x g = cc

-- one with a next one has a step
some_left : (c : MarkedProgram) (r : Row) (more : List Row) → r.plain.program ≡ c → AllByRecursion (IsNextRow r.plain) more → more ≢ []
    → HasNoStep (plain_step c.program) r.plain.state → ⊥
some_left c r [] own v n rest = n refl
some_left c r (x ∷ xs) own v n rest =
    let b = v.0.behind in
    no (plain_step c.program r.plain.state x.step) b.0 (rest x.step) (subst (λ (d : MarkedProgram). plain_step d.program r.plain.state x.step ≡ Some b.0) own b.1)
  where
    no : (o : Option Plain) (y : Plain) → o ≡ None → o ≡ Some y → ⊥
    no o y e f = cc

module _ (c : MarkedProgram) (old new : Gathered) (i : ℕ) (r : Row) (at : slice_get old.rows.items i ≡ Some r) (own : r.plain.program ≡ c) where
  -- it has no step, and is noted
  module _ (nexts : HasNexts r.plain []) (rows : new.rows ≡ old.rows) (rests : new.rests.items ≡ old.rests.items ++ i ∷ []) where
    items : new.rows.items ≡ old.rows.items
    items = ap (λ v. v.items) rows

    pub noted_sound : IsSoundSearch c old → IsSoundSearch c new
    noted_sound s = record {
      rows = subst (AllByRecursion (IsSearchRow c)) (sym items) s.rows;
      rest = λ k v. ⊎_elim
          (λ (w : Contains old.rests.items k). let f = s.rest k w in (f.0, ap (λ (xs : List Row). slice_get xs k) items ∙ f.1, f.2))
          (λ (w : Contains (i ∷ []) k). (r, ap (λ (xs : List Row). slice_get xs k) items ∙ ap (slice_get old.rows.items) (only i k w) ∙ at, none_left c r own nexts))
          (Contains-append_cases old.rests.items (i ∷ []) k (subst (λ (xs : List ℕ). Contains xs k) rests v));
    }

    pub noted_taken : AreTaken c old i → AreTaken c new (i + 1)
    noted_taken t = record {
      first = subst (λ (xs : List Row). IsStateIn xs (plain_start c.program)) (sym items) t.first;
      nexts = λ k x l e. subst (HasNexts x.plain) (sym items) (nexts_at k x l (ap (λ (xs : List Row). slice_get xs k) (sym items) ∙ e));
      rests = λ k x l e rest. subst (λ (xs : List ℕ). Contains xs k) (sym rests) (rests_at k x l (ap (λ (xs : List Row). slice_get xs k) (sym items) ∙ e) rest);
    }
      where
        nexts_at : (k : ℕ) (x : Row) → k < i + 1 → slice_get old.rows.items k ≡ Some x → HasNexts x.plain old.rows.items
        nexts_at k x l e = dite (ℕ_discrete k i)
            (λ (s : k ≡ i). subst (λ (z : Row). HasNexts z.plain old.rows.items) (one_row old.rows.items k i r x s at e) (next_among r.plain old.rows.items [] nexts (λ j z f. cc)))
            (λ (s : k ≢ i). t.nexts k x (omega (arith, l, s)) e)

        rests_at : (k : ℕ) (x : Row) → k < i + 1 → slice_get old.rows.items k ≡ Some x → HasNoStep (plain_step c.program) x.plain.state → Contains (old.rests.items ++ i ∷ []) k
        rests_at k x l e rest = dite (ℕ_discrete k i)
            (λ (s : k ≡ i). subst (Contains (old.rests.items ++ i ∷ [])) (sym s) (here old.rests.items i))
            (λ (s : k ≢ i). Contains-append_left old.rests.items (i ∷ []) k (t.rests k x (omega (arith, l, s)) e rest))

  -- what comes next is added
  module _ (longer : IsLonger (IsSearchRow c) old.rows.items new.rows.items) (rests : new.rests ≡ old.rests) where
    pub more_sound : IsSoundSearch c old → IsSoundSearch c new
    more_sound s = record {
      rows = all_longer (IsSearchRow c) old.rows.items new.rows.items s.rows longer;
      rest = λ k v. let f = s.rest k (subst (λ w. Contains w.items k) rests v) in (f.0, still_got (IsSearchRow c) old.rows.items new.rows.items k f.0 longer f.1, f.2);
    }

    pub more_taken : (more : List Row) → HasNexts r.plain more → AllByRecursion (IsNextRow r.plain) more → more ≢ [] → AreStatesIn new.rows.items more
        → AreTaken c old i → AreTaken c new (i + 1)
    more_taken more nexts all some there t = record {
      first = still_in (IsSearchRow c) old.rows.items new.rows.items (plain_start c.program) longer t.first;
      nexts = λ k x l e. dite (ℕ_discrete k i)
          (λ (s : k ≡ i). subst (λ (z : Row). HasNexts z.plain new.rows.items) (one_row new.rows.items k i r x s at_new e) (next_among r.plain new.rows.items more nexts there))
          (λ (s : k ≢ i). let b = before k x (omega (arith, l, s)) e in λ step. still_next (IsSearchRow c) x.plain old.rows.items new.rows.items step longer (t.nexts k x (omega (arith, l, s)) b step));
      rests = λ k x l e rest. dite (ℕ_discrete k i)
          (λ (s : k ≡ i). absurd (some_left c r more own all some (subst (λ (z : Row). HasNoStep (plain_step c.program) z.plain.state) (sym (one_row new.rows.items k i r x s at_new e)) rest)))
          (λ (s : k ≢ i). subst (λ w. Contains w.items k) (sym rests) (t.rests k x (omega (arith, l, s)) (before k x (omega (arith, l, s)) e) rest));
    }
      where
        at_new : slice_get new.rows.items i ≡ Some r
        at_new = still_got (IsSearchRow c) old.rows.items new.rows.items i r longer at

        before : (k : ℕ) (x : Row) → k < i → slice_get new.rows.items k ≡ Some x → slice_get old.rows.items k ≡ Some x
        before k x l e = got_before (IsSearchRow c) old.rows.items new.rows.items k x longer (let w = within old.rows.items i r at in omega (arith, l, w)) e

-- ---- at the start, and where there is no other row

pub begun_sound : (c : MarkedProgram) (s : Gathered) → IsLonger (IsSearchRow c) [] s.rows.items → s.rests.items ≡ [] → IsSoundSearch c s
begun_sound c s longer none = record {
  rows = all_longer (IsSearchRow c) [] s.rows.items tt longer;
  rest = λ k v. absurd (nothing k (subst (λ (xs : List ℕ). Contains xs k) none v));
}
  where
    nothing : (k : ℕ) → Contains [] k → ⊥
    nothing k v = let l = v.1 in omega (arith, l)

pub begun_taken : (c : MarkedProgram) (s : Gathered) (r : Row) → r.plain.state ≡ plain_start c.program → IsStateIn s.rows.items r.plain.state → AreTaken c s 0
begun_taken c s r e there = record {
  first = subst (IsStateIn s.rows.items) e there;
  nexts = λ k x l f. absurd (omega (arith, l));
  rests = λ k x l f rest. absurd (omega (arith, l));
}

pub all_taken : (c : MarkedProgram) (s : Gathered) (n : ℕ) → length s.rows.items ≤ n → AreTaken c s n → AreTaken c s (length s.rows.items)
all_taken c s n m t = record {
  first = t.first;
  nexts = λ k x l f. t.nexts k x (omega (arith, l, m)) f;
  rests = λ k x l f rest. t.rests k x (omega (arith, l, m)) f rest;
}
