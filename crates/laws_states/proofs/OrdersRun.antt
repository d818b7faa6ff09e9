-- Every order has its run: whatever the stage, the work of the threads falls with each event, and behind the last one comes the
-- next part, or nothing.
use Rattle.std.proofs.Common.{◌≡◌, ℕ, zero, suc, ◌+◌, ◌<◌, Bool, true, false, List, [], ◌∷◌, length, Option, Some, None, refl, subst, ◌∙◌, arith, ◌&&◌, nat_le, nat_lt, find, if◌then◌else◌}
use Rattle.std.{specs.{List.range_with_len, Option.option_or}, proofs.lemmas.Bool.and_parts}
use Rattle.checked_program.specs.MarkedProgram.{MarkedProgram}
use Rattle.machine_types.specs.Core.{Core, Happening, Of, NextPart, happened, event, next, lives, may_begin, start}
use Rattle.machine_types.specs.Schedules.{IsSchedule, Stage, First, Ordered, Rounds, Last, turn_of, turn_at, part_turn, round_turn, live_from, is_live_worker}
use Rattle.laws_states.{specs.{EveryOrder.EveryOrderHasRun, StateLaws.{ProgramsKeepThreads, StartHasState, EventsKeepState, NextKeepsState, IsInState}}, proofs.States.{state_at_start, state_goes_on}}
use Rattle.laws_states.specs.WorkLeft.{all_work, EventsLessenAllWork}

-- ---- who lives

finds_passing : (test : ℕ → Bool) (xs : List ℕ) (t : ℕ) → find test xs ≡ Some t → test t ≡ true
finds_passing test [] t e = absurd (cc)
finds_passing test (x ∷ xs) t e = (elim (test x) as (λ (b : Bool). test x ≡ b → (if b then Some x else find test xs) ≡ Some t → (find test xs ≡ Some t → test t ≡ true) → test t ≡ true)
    [ true ↦ λ k e more. let same : x ≡ t = cc in subst (λ (n : ℕ). test n ≡ true) same k | false ↦ λ k e more. more e ]) refl e (λ e. finds_passing test xs t e)

from_lives : (s : Core) (from t : ℕ) → live_from s from ≡ Some t → lives s t ≡ true
from_lives s from t e = (and_parts (nat_le from t) (lives s t) (finds_passing (λ k. nat_le from k && lives s k) (range_with_len 1 (length s.threads)) t e)).1

one_of : (s : Core) (a b : Option ℕ) (t : ℕ) → (a ≡ Some t → lives s t ≡ true) → (b ≡ Some t → lives s t ≡ true) → option_or a b ≡ Some t → lives s t ≡ true
one_of s None b t h k e = k e
one_of s (Some u) b t h k e = h e

-- ---- schedules

-- by what comes first
goes_on : (c : MarkedProgram) (stage after : Stage) (s : Core) (h : Happening) → turn_at stage s ≡ turn_of h after → (hs : List Happening) × IsSchedule c after (happened c s h) hs → (hs : List Happening) × IsSchedule c stage s hs
goes_on c stage after s h e rest = (h ∷ rest.0, (after, e, rest.1))

stops : (c : MarkedProgram) (stage : Stage) (s : Core) → turn_at stage s ≡ None → (hs : List Happening) × IsSchedule c stage s hs
stops c stage s e = ([], e)

as_at : (c : MarkedProgram) (one other : Stage) (s : Core) → turn_at one s ≡ turn_at other s → (hs : List Happening) × IsSchedule c other s hs → (hs : List Happening) × IsSchedule c one s hs
as_at c one other s e ([], last) = ([], e ∙ last)
as_at c one other s e (h ∷ hs, turns) = (h ∷ hs, (turns.0, e ∙ turns.1, turns.2))

-- ---- runs

-- states that events and begins of parts keep, and of which each event takes work
record KeptStates (c : MarkedProgram) : Type 1 where
  Good : Core → Type 0
  by_event : (s : Core) (t : ℕ) → Good s → Good (event c s t)
  by_part : (s : Core) → Good s → Good (next c s)
  takes : (s : Core) (t : ℕ) → Good s → lives s t ≡ true → all_work (event c s t) < all_work s

module _ (c : MarkedProgram) (states : KeptStates c) where
  open states use {Good, by_event, by_part, takes}

  abbrev Runs : Stage → Core → Type 0
  Runs stage s = (hs : List Happening) × IsSchedule c stage s hs

  -- by what an event leaves to do
  event_next : (n : ℕ) (stage after : Stage) (s : Core) (t : ℕ) → Good s → lives s t ≡ true → all_work s < suc n → turn_at stage s ≡ turn_of (Of t) after
      → ((r : Core) → Good r → all_work r < n → Runs after r) → Runs stage s
  event_next n stage after s t good live h e more = goes_on c stage after s (Of t) e (more (event c s t) (by_event s t good) (omega (arith, h, takes s t good live)))

  -- the next part, where it may begin
  part_next : (stage after : Stage) (s : Core) → turn_at stage s ≡ part_turn s after → Good s → ((r : Core) → Good r → Runs after r) → Runs stage s
  part_next stage after s e good more = (elim (may_begin s.threads) as (λ (b : Bool). turn_at stage s ≡ (if b then turn_of NextPart after else None) → Runs stage s)
      [ true ↦ λ e. goes_on c stage after s NextPart e (more (next c s) (by_part s good)) | false ↦ λ e. stops c stage s e ]) e

  last_runs : (n : ℕ) (s : Core) → Good s → all_work s < n → Runs Last s
  last_runs zero s good h = absurd (omega (arith, h))
  last_runs (suc n) s good h = (elim (lives s 0) as
      (λ (b : Bool). lives s 0 ≡ b → turn_at Last s ≡ (if b then turn_of (Of 0) Last else None) → ((r : Core) → Good r → all_work r < n → Runs Last r) → Runs Last s)
      [ true ↦ λ live e more. event_next n Last Last s 0 good live h e more | false ↦ λ live e more. stops c Last s e ]) refl refl (λ r g l. last_runs n r g l)

  rounds_run : (n : ℕ) (s : Core) (from : ℕ) → Good s → all_work s < n → Runs (Rounds from) s
  rounds_run zero s from good h = absurd (omega (arith, h))
  rounds_run (suc n) s from good h = by_worker (option_or (live_from s from) (live_from s 1)) refl refl (λ to r g l. rounds_run n r to g l)
    where
      by_worker : (o : Option ℕ) → option_or (live_from s from) (live_from s 1) ≡ o → turn_at (Rounds from) s ≡ round_turn s o → ((to : ℕ) (r : Core) → Good r → all_work r < n → Runs (Rounds to) r) → Runs (Rounds from) s
      by_worker None is e more = part_next (Rounds from) Last s e good (λ r g. last_runs (suc (all_work r)) r g (omega arith))
      by_worker (Some t) is e more =
          event_next n (Rounds from) (Rounds (t + 1)) s t good (one_of s (live_from s from) (live_from s 1) t (from_lives s from t) (from_lives s 1 t) is) h e (more (t + 1))

  ordered_by : (n : ℕ) (s : Core) → Good s → all_work s < suc n → ((order : List ℕ) (r : Core) → Good r → all_work r < n → Runs (Ordered order) r) → (order : List ℕ) → Runs (Ordered order) s
  ordered_by n s good h more [] = as_at c (Ordered []) (Rounds 1) s refl (rounds_run (suc n) s 1 good h)
  ordered_by n s good h more (t ∷ order) = by_live (is_live_worker s t) refl refl (ordered_by n s good h more order)
    where
      by_live : (b : Bool) → is_live_worker s t ≡ b → turn_at (Ordered (t ∷ order)) s ≡ (if b then turn_of (Of t) (Ordered order) else turn_at (Ordered order) s) → Runs (Ordered order) s → Runs (Ordered (t ∷ order)) s
      by_live true live e skipped = event_next n (Ordered (t ∷ order)) (Ordered order) s t good (and_parts (nat_lt 0 t) (lives s t) live).1 h e (more order)
      by_live false live e skipped = as_at c (Ordered (t ∷ order)) (Ordered order) s e skipped

  ordered_run : (n : ℕ) (order : List ℕ) (s : Core) → Good s → all_work s < n → Runs (Ordered order) s
  ordered_run zero order s good h = absurd (omega (arith, h))
  ordered_run (suc n) order s good h = ordered_by n s good h (λ rest r g l. ordered_run n rest r g l) order

  first_run : (n : ℕ) (order : List ℕ) (s : Core) → Good s → all_work s < n → Runs (First order) s
  first_run zero order s good h = absurd (omega (arith, h))
  first_run (suc n) order s good h = by_live (lives s 0) refl refl (λ r g l. first_run n order r g l)
    where
      by_live : (b : Bool) → lives s 0 ≡ b → turn_at (First order) s ≡ (if b then turn_of (Of 0) (First order) else part_turn s (Ordered order)) → ((r : Core) → Good r → all_work r < n → Runs (First order) r) → Runs (First order) s
      by_live true live e more = event_next n (First order) (First order) s 0 good live h e more
      by_live false live e more = part_next (First order) (Ordered order) s e good (λ r g. ordered_run (suc (all_work r)) order r g (omega arith))

-- ---- every order

pub every_order_has_run : ProgramsKeepThreads → StartHasState → EventsKeepState → NextKeepsState → EventsLessenAllWork → EveryOrderHasRun
every_order_has_run parts begin keeps next_keeps takes c cfg order marked width set =
    let keep = parts c cfg marked set in
    let goes = state_goes_on keeps next_keeps c cfg marked width keep in
    let states : KeptStates c = record {
      Good = IsInState c cfg;
      by_event = λ s t. goes s (Of t);
      by_part = λ s. goes s NextPart;
      takes = λ s t k live. takes c cfg s t marked k.facts.threads live;
    } in
    first_run c states (suc (all_work (start c cfg))) order (start c cfg) (state_at_start begin c cfg marked keep) (omega arith)
