-- The states that a search has found, by its rows.
use Rattle.std.proofs.Common.{◌≡◌, ◌<◌, ℕ, zero, suc, true, false, List, [], ◌∷◌, map, Some, length, refl, sym, ap, ◌∙◌, subst, arith, slice_get, slice_index_or}
use Rattle.std.specs.Prelude.{Contains}
use Rattle.checked_program.specs.MarkedProgram.{MarkedProgram}
use Rattle.machine_types.specs.PlainState.{Plain, plain_start}
use Rattle.machine_types.specs.PlainSteps.{plain_step}
use Rattle.plain_orders.specs.CoveredRuns.{AreAllStates}
use Rattle.plain_orders.specs.LocalSteps.{is_local}
use Rattle.plain_orders.specs.Orders.{HasNoStep, LeadsLocally}
use Rattle.plain_search.specs.declared.row.Row.{Row}
use Rattle.plain_search.specs.declared.row.Gathered.{Gathered}
use Rattle.plain_search.specs.Rows.{IsSearchRow, IsPlainReached, IsStateIn}
use Rattle.plain_search.specs.Searched.{IsSoundSearch, AreTaken, HasNoStepAt, IsSearched}
use Rattle.plain_search.proofs.RowLists.{one_of_all, within}

abbrev states_of : List Row → List Plain
states_of rows = map (λ r. r.plain.state) rows

in_states : (rows : List Row) (k : ℕ) (r : Row) (q : Plain) → slice_get rows k ≡ Some r → r.plain.state ≡ q → Contains (states_of rows) q
in_states [] k r q e f = cc
in_states (x ∷ xs) zero r q e f = (0, omega arith, ap (λ (z : Row). z.plain.state) (same x r e) ∙ f)
  where
    same : (a b : Row) → Some a ≡ Some b → a ≡ b
    same a b g = cc
in_states (x ∷ xs) (suc k) r q e f = let v = in_states xs k r q e f in (suc v.0, (let l = v.1 in omega (arith, l)), v.2)

from_states : (rows : List Row) (q : Plain) (k : ℕ) → k < length (states_of rows) → slice_index_or (states_of rows) k q ≡ q → IsStateIn rows q
from_states [] q k l e = absurd (omega (arith, l))
from_states (x ∷ xs) q zero l e = (0, x, refl, e)
from_states (x ∷ xs) q (suc k) l e = let v = from_states xs q k (omega (arith, l)) e in (suc v.0, v.1, v.2, v.3)

pub got_state : (rows : List Row) (k : ℕ) (r : Row) → slice_get rows k ≡ Some r → slice_get (states_of rows) k ≡ Some r.plain.state
got_state [] k r e = cc
got_state (x ∷ xs) zero r e = ap (λ (z : Row). Some z.plain.state) (same x r e)
  where
    same : (a b : Row) → Some a ≡ Some b → a ≡ b
    same a b g = cc
got_state (x ∷ xs) (suc k) r e = got_state xs k r e

from_state : (rows : List Row) (k : ℕ) (q : Plain) → slice_get (states_of rows) k ≡ Some q → (r : Row) × (slice_get rows k ≡ Some r) × (r.plain.state ≡ q)
from_state [] k q e = cc
from_state (x ∷ xs) zero q e = (x, refl, same x.plain.state q e)
  where
    same : (a b : Plain) → Some a ≡ Some b → a ≡ b
    same a b g = cc
from_state (x ∷ xs) (suc k) q e = from_state xs k q e

reached : (c : MarkedProgram) (s : Gathered) (q : Plain) → IsSoundSearch c s → Contains (states_of s.rows.items) q → IsPlainReached c q
reached c s q sound v =
    let w = from_states s.rows.items q v.0 v.1 v.2 in
    subst (IsPlainReached c) w.3 (one_of_all (IsSearchRow c) s.rows.items w.0 w.1 sound.rows w.2).reached

rest : (c : MarkedProgram) (s : Gathered) (k : ℕ) → IsSoundSearch c s → Contains s.rests.items k → HasNoStepAt c (states_of s.rows.items) k
rest c s k sound v = let f = sound.rest k v in (f.0.plain.state, got_state s.rows.items k f.0 f.1, f.2)

pub found_part : (c : MarkedProgram) (s : Gathered) → IsSoundSearch c s
    → IsSearched (record { program = c; states = states_of s.rows.items; rests = s.rests.items; is_whole = false })
found_part c s sound = record {
  reached = λ q v. reached c s q sound v;
  rest = λ k v. rest c s k sound v;
  all = λ e. absurd (no e);
  all_rest = λ e. absurd (no e);
}
  where
    no : false ≡ true → ⊥
    no e = cc

pub found_whole : (c : MarkedProgram) (s : Gathered) → IsSoundSearch c s → AreTaken c s (length s.rows.items)
    → IsSearched (record { program = c; states = states_of s.rows.items; rests = s.rests.items; is_whole = true })
found_whole c s sound taken = record {
  reached = λ q v. reached c s q sound v;
  rest = λ k v. rest c s k sound v;
  all = λ e. all;
  all_rest = λ e k v.
      let f = from_state s.rows.items k v.0 v.1 in
      taken.rests k f.0 (within s.rows.items k f.0 f.1) f.1 (subst (λ (q : Plain). HasNoStep (plain_step c.program) q) (sym f.2) v.2);
}
  where
    there : (q : Plain) → IsStateIn s.rows.items q → Contains (states_of s.rows.items) q
    there q v = in_states s.rows.items v.0 v.1 q v.2 v.3

    all : AreAllStates c (states_of s.rows.items)
    all = record {
      begins = (plain_start c.program, ([], refl), there (plain_start c.program) taken.first);
      goes_on = λ r y a v e.
          let w = from_states s.rows.items r v.0 v.1 v.2 in
          let own = (one_of_all (IsSearchRow c) s.rows.items w.0 w.1 sound.rows w.2).own in
          let nexts = taken.nexts w.0 w.1 (within s.rows.items w.0 w.1 w.2) w.2 in
          let step : plain_step w.1.plain.program.program w.1.plain.state a ≡ Some y =
          subst (λ (q : Plain). plain_step w.1.plain.program.program q a ≡ Some y) (sym w.3) (subst (λ (d : MarkedProgram). plain_step d.program r a ≡ Some y) (sym own) e) in
          let z = nexts a y step in
          (z.0, subst (λ (d : MarkedProgram). LeadsLocally (plain_step d.program) (is_local d.program) y z.0) own z.1, there z.0 z.2);
    }

pub told_part : (c d : MarkedProgram) (s : Gathered) → d ≡ c → IsSoundSearch c s
    → IsSearched (record { program = d; states = states_of s.rows.items; rests = s.rests.items; is_whole = false })
told_part c d s e sound = subst (λ (x : MarkedProgram). IsSearched (record { program = x; states = states_of s.rows.items; rests = s.rests.items; is_whole = false })) (sym e) (found_part c s sound)

pub told_whole : (c d : MarkedProgram) (s : Gathered) → d ≡ c → IsSoundSearch c s → AreTaken c s (length s.rows.items)
    → IsSearched (record { program = d; states = states_of s.rows.items; rests = s.rests.items; is_whole = true })
told_whole c d s e sound taken = subst (λ (x : MarkedProgram). IsSearched (record { program = x; states = states_of s.rows.items; rests = s.rests.items; is_whole = true })) (sym e) (found_whole c s sound taken)
