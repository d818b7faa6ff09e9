-- States that were found, one by one, and lists of what they come to, which grow.
use Rattle.std.proofs.Common.{◌≡◌, ◌≢◌, ◌<◌, ◌+◌, ◌⊎◌, inl, inr, ◌++◌, ℕ, ℤ, true, false, eqb, List, Option, Some, None, IfSome, MatchOption, length, sym, subst, arith, slice_get, slice_index_or}
use Rattle.std.specs.Prelude.{Contains, is_some}
use Rattle.std.proofs.lemmas.Bool.Decides.{eqb_tells}
use Rattle.std.proofs.lemmas.Option.{get_or_from_slice_get, slice_get-get_or, slice_get_within}
use Rattle.jvm_types.specs.declared.program.Program.{Program}
use Rattle.checked_program.specs.MarkedProgram.{MarkedProgram}
use Rattle.machine_types.specs.PlainState.{Plain, plain_start}
use Rattle.machine_types.specs.PlainSteps.{plain_run, plain_step}
use Rattle.plain_orders.specs.CoveredRuns.{AreAllStates}
use Rattle.plain_orders.specs.Orders.{HasNoStep}
use Rattle.plain_orders.specs.UncaughtRuns.{has_uncaught_end}
use Rattle.plain_search.specs.Rows.{IsPlainReached}
use Rattle.plain_search.specs.Searched.{HasNoStepAt, IsSearched, Searched}
use Rattle.plain_search.proofs.RowLists.{got_index, got_longer}
use Rattle.outcomes.specs.Lists.{AreAllOutcomes, HasPrinted, IsListedIn, IsPrintedIn, IsReachedBySteps}
use Rattle.outcomes.specs.declared.all_outcomes.Outcomes.{Outcomes}
use Rattle.outcomes.specs.declared.reached.Reached.{Reached}
use Rattle.outcomes.specs.declared.listing.Listed.{Listed}
use Rattle.outcomes.specs.declared.printing.Printing.{Printing}

-- what holds below a number, and of it, holds below the next one
pub below_next : (P : ℕ → Type 0) (n : ℕ) → ((u : ℕ) → u < n → P u) → P n → (u : ℕ) → u < n + 1 → P u
below_next P n before here u l = by (eqb_tells u n)
  where
    by : ((eqb u n ≡ true) × (u ≡ n)) ⊎ ((eqb u n ≡ false) × (u ≢ n)) → P u
    by (inl same) = subst P (sym same.1) here
    by (inr other) = before u (omega (arith, l, other.1))

pub some_from_match : {A : Type 0} (P Q : A → Type 0) (o : Option A) → ((a : A) → P a → Q a) → MatchOption o (Unit {0}) P → IfSome o Q
some_from_match P Q None f m = tt
some_from_match P Q (Some a) f m = f a m

pub listed_longer : (p : Program) (old more new : List Listed) (q : Plain) → new ≡ old ++ more → IsListedIn p old q → IsListedIn p new q
listed_longer p old more new q made v = subst (λ (xs : List Listed). IsListedIn p xs q) (sym made) (v.0, v.1, got_longer old more v.0 v.1 v.2, v.3)

pub printed_longer : (old more new : List Printing) (value : ℤ) → new ≡ old ++ more → IsPrintedIn old value → IsPrintedIn new value
printed_longer old more new value made v = subst (λ (xs : List Printing). IsPrintedIn xs value) (sym made) (v.0, v.1, got_longer old more v.0 v.1 v.2, v.3)

pub is_there : {A : Type 0} (xs : List A) (k : ℕ) (x : A) → slice_get xs k ≡ Some x → Contains xs x
is_there xs k x e = (k, slice_get_within xs k x e, get_or_from_slice_get xs k x x e)

pub found_reached : (c : MarkedProgram) (f : Searched) (k : ℕ) (r : Reached) → c ≡ f.program → IsSearched f → slice_get f.states k ≡ Some r.plain.state → MatchOption r.steps (Unit {0}) (λ s. (q : Plain) → slice_get f.states k ≡ Some q → plain_run c.program (plain_start c.program) s ≡ Some q) → IsReachedBySteps c r
found_reached c f k r own searched got steps = record {
  reached = subst (λ (d : MarkedProgram). IsPlainReached d r.plain.state) (sym own) (searched.reached r.plain.state (is_there f.states k r.plain.state got));
  steps = some_from_match _ _ r.steps (λ s h. h r.plain.state got) steps;
}

pub all_outcomes : (c : MarkedProgram) (f : Searched) (o : Outcomes) → c ≡ f.program → IsSearched f → f.is_whole ≡ true → o.states ≡ length f.states
    → ((k : ℕ) (q : Plain) → Contains f.rests k → slice_get f.states k ≡ Some q → IsListedIn c.program o.listed q)
    → ((k : ℕ) (q : Plain) (value : ℤ) → slice_get f.states k ≡ Some q → HasPrinted q value → IsPrintedIn o.printed value)
    → ((k : ℕ) (q : Plain) → slice_get f.states k ≡ Some q → has_uncaught_end q ≡ true → is_some o.uncaught ≡ true)
    → AreAllOutcomes c o
all_outcomes c f o own searched whole many listed printed uncaught = record {
  seen = f.states;
  states = subst (λ (d : MarkedProgram). AreAllStates d f.states) (sym own) (searched.all whole);
  many = sym many;
  rests = λ q v none.
      let e = got_index f.states v.0 q v.1 (sym v.2) in
      listed v.0 q (searched.all_rest whole v.0 (q, e, subst (λ (d : MarkedProgram). HasNoStep (plain_step d.program) q) own none)) e;
  prints = λ q value v h. printed v.0 q value (got_index f.states v.0 q v.1 (sym v.2)) h;
  uncaught = λ q v h. uncaught v.0 q (got_index f.states v.0 q v.1 (sym v.2)) h;
}

pub rest_there : (c : MarkedProgram) (f : Searched) (xs : List ℕ) (i : ℕ) → c ≡ f.program → xs ≡ f.rests → IsSearched f → i < length xs → HasNoStepAt c f.states (slice_index_or xs i 0)
rest_there c f xs i own same searched l =
    let there = is_there xs i (slice_index_or xs i 0) (slice_get-get_or xs i 0 l) in
    let rest = searched.rest (slice_index_or xs i 0) (subst (λ (ys : List ℕ). Contains ys (slice_index_or xs i 0)) same there) in
    subst (λ (d : MarkedProgram). HasNoStepAt d f.states (slice_index_or xs i 0)) (sym own) rest
