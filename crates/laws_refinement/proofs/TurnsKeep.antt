-- Each turn of a stage keeps what holds there, or comes to the next stage; and where no turn comes, the run is over.
use Rattle.std.proofs.Common.{◌≡◌, inl, inr, ◌≤◌, ◌<◌, ℕ, zero, suc, ◌+◌, Bool, true, false, List, [], ◌∷◌, length, Option, Some, None, refl, sym, ap, subst, ◌∙◌, arith, nat_le, nat_lt, ◌&&◌, if◌then◌else◌, find, slice_get}
use Rattle.std.{specs.{List.range_with_len, Option.option_or}, proofs.lemmas.{Bool.{cases_Bool, Decides.nat_tests}, Option.slice_get_past}}
use Rattle.jvm_types.specs.declared.program.Program.{Program}
use Rattle.checked_program.specs.MarkedProgram.{MarkedProgram}
use Rattle.machine_types.specs.{Core.{Core, Of, NextPart, event, is_live_thread, lives, may_begin, may_begin_by, next, next_threads, part_begins}, Faithful.IsOver}
use Rattle.machine_types.specs.{Schedules.{Stage, First, Ordered, Rounds, Last, turn_of, turn_at, part_turn, ordered, round_turn_from, round_turn, is_live_worker, live_from}, Threads.Thread}
use Rattle.laws_threads.specs.GivenThread.{GivenIsKept}
use Rattle.laws_refinement.proofs.{EventsKeep.{none_wakes, keeps_part}, StageFits.{PartIs, NoWorkerLives, IsAlone, IsWaiting, StageFits, TurnFits}}

-- ---- an event

event_alone : GivenIsKept → (P : ℕ → Type 0) (c : MarkedProgram) (s : Core) (t : ℕ) → IsAlone P s → IsAlone P (event c s t)
event_alone given P c s t h = record { part = keeps_part given P c s t h.part; workers = λ u. none_wakes c s t (suc u) (h.workers u) }

event_waits : GivenIsKept → (c : MarkedProgram) (s : Core) (t : ℕ) → IsWaiting s → IsWaiting (event c s t)
event_waits given c s t h = record { part = keeps_part given (λ n. n ≡ 1) c s t h.part; first = none_wakes c s t 0 h.first }

-- ---- the begin of a part

abbrev part_of : Option Thread → ℕ
part_of None = 0
part_of (Some x) = x.part

abbrev with_threads : Core → List Thread → Core
with_threads s xs = record s { threads = xs }

-- the threads behind it, where the number of the part is known
begun : (p : Program) (x : Thread) (workers : List Thread) (n : ℕ) → may_begin (x ∷ workers) ≡ true → x.part ≡ n → part_begins p n x workers ≡ next_threads p (x ∷ workers)
begun p x workers n may e = ap (λ (k : ℕ). part_begins p k x workers) (sym e) ∙ sym (ap (λ (b : Bool). if b then part_begins p x.part x workers else x ∷ workers) may)

workers_begin : (c : MarkedProgram) (s : Core) → IsAlone (λ n. n ≡ 0) s → lives s 0 ≡ false → may_begin s.threads ≡ true → IsWaiting (next c s)
workers_begin c s h dead may = (elim s.threads as (λ (xs : List Thread). PartIs (λ n. n ≡ 0) (with_threads s xs) → lives (with_threads s xs) 0 ≡ false → may_begin xs ≡ true → IsWaiting (next c (with_threads s xs))) [
  | [] ↦ λ part dead may. absurd (cc)
  | x ∷ workers ↦ λ part dead may.
      subst (λ (ys : List Thread). IsWaiting (with_threads s ys)) (begun c.program x workers 0 may (part x refl)) (record { part = λ y e. ap part_of (sym e); first = dead })
]) h.part dead may

done_begins : (c : MarkedProgram) (s : Core) → IsWaiting s → NoWorkerLives s → may_begin s.threads ≡ true → IsAlone (λ n. 2 ≤ n) (next c s)
done_begins c s h dead may = (elim s.threads as (λ (xs : List Thread). PartIs (λ n. n ≡ 1) (with_threads s xs) → NoWorkerLives (with_threads s xs) → may_begin xs ≡ true → IsAlone (λ n. 2 ≤ n) (next c (with_threads s xs))) [
  | [] ↦ λ part dead may. absurd (cc)
  | x ∷ workers ↦ λ part dead may.
      subst (λ (ys : List Thread). IsAlone (λ n. 2 ≤ n) (with_threads s ys)) (begun c.program x workers 1 may (part x refl))
      (record { part = λ y e. let two : y.part ≡ 2 = ap part_of (sym e) in omega (arith, two); workers = dead })
]) h.part dead may

-- ---- workers of whom none lives

none_passes : (test : ℕ → Bool) (from n i : ℕ) → find test (range_with_len from n) ≡ None → i < n → test (from + i) ≡ false
none_passes test from zero i e h = absurd (omega (arith, h))
none_passes test from (suc n) i e h = by_test (test from) refl e (λ k rest room. none_passes test (from + 1) n k rest room)
  where
    by_test : (b : Bool) → test from ≡ b → (if b then Some from else find test (range_with_len (from + 1) n)) ≡ None
        → ((k : ℕ) → find test (range_with_len (from + 1) n) ≡ None → k < n → test ((from + 1) + k) ≡ false) → test (from + i) ≡ false
    by_test true g e on = absurd (cc)
    by_test false g e on = (elim i as (λ (i : ℕ). i < suc n → test from ≡ false → ((k : ℕ) → k < n → test ((from + 1) + k) ≡ false) → test (from + i) ≡ false) [
      | zero ↦ λ h fails on. let same : from + 0 ≡ from = omega arith in ap test same ∙ fails
      | suc i ↦ λ h fails on. let same : from + suc i ≡ (from + 1) + i = omega arith in ap test same ∙ on i (omega (arith, h))
    ]) h g (λ k room. on k e room)

none_live : (s : Core) → live_from s 1 ≡ None → NoWorkerLives s
none_live s e u = elim (cases_Bool (nat_lt u (length s.threads))) [
  | inl h ↦
      let one : nat_le 1 (suc u) ≡ true = grind (arith, nat_tests) in
      let next : 1 + u ≡ suc u = omega arith in
      ap (λ (b : Bool). b && lives s (suc u)) (sym one)
      ∙ ap (λ (t : ℕ). nat_le 1 t && lives s t) (sym next) ∙ none_passes (λ t. nat_le 1 t && lives s t) 1 (length s.threads) u e (grind (arith, nat_tests, h))
  | inr h ↦ ap is_live_thread (slice_get_past s.threads (suc u) (grind (arith, nat_tests, h)))
]

-- ---- where no part may begin

over : (s : Core) → lives s 0 ≡ false → NoWorkerLives s → may_begin s.threads ≡ false → IsOver s
over s first workers last = record { dead = λ t. elim t as (λ (n : ℕ). lives s n ≡ false) [ zero ↦ first | suc u ↦ workers u ]; last = last }

-- behind `done` comes no part
none_after : (xs : List Thread) → ((x : Thread) → slice_get xs 0 ≡ Some x → 2 ≤ x.part) → may_begin xs ≡ false
none_after [] part = refl
none_after (x ∷ workers) part = by_part x.part (part x refl)
  where
    by_part : (n : ℕ) → 2 ≤ n → may_begin_by n x.phase workers ≡ false
    by_part (suc (suc n)) two = refl
    by_part n two = absurd (omega (arith, two))

-- ---- the turns of each stage

module _ (given : GivenIsKept) (c : MarkedProgram) (s : Core) where
  round_fits : (from : ℕ) → IsWaiting s → TurnFits c s (round_turn_from s from)
  round_fits from h = (elim (option_or (live_from s from) (live_from s 1)) as (λ (o : Option ℕ). option_or (live_from s from) (live_from s 1) ≡ o → TurnFits c s (round_turn s o)) [
    | None ↦ λ e. (elim (may_begin s.threads) as (λ (b : Bool). NoWorkerLives s → may_begin s.threads ≡ b → TurnFits c s (if b then turn_of NextPart Last else None))
        [ true ↦ λ dead may. done_begins c s h dead may | false ↦ λ dead may. over s h.first dead may ])
        (none_live s ((elim (live_from s from) as (λ (o : Option ℕ). option_or o (live_from s 1) ≡ None → live_from s 1 ≡ None) [ None ↦ λ e. e | Some u ↦ λ e. absurd (cc) ]) e)) refl
    | Some t ↦ λ e. event_waits given c s t h
  ]) refl

  ordered_fits : (order : List ℕ) → IsWaiting s → TurnFits c s (ordered s order)
  ordered_fits [] h = round_fits 1 h
  ordered_fits (t ∷ order) h = (elim (is_live_worker s t) as (λ (b : Bool). TurnFits c s (ordered s order) → TurnFits c s (if b then turn_of (Of t) (Ordered order) else ordered s order))
      [ true ↦ λ rest. event_waits given c s t h | false ↦ λ rest. rest ]) (ordered_fits order h)

  pub turn_fits : (stage : Stage) → StageFits stage s → TurnFits c s (turn_at stage s)
  turn_fits (First order) h = (elim (lives s 0) as (λ (b : Bool). lives s 0 ≡ b → TurnFits c s (if b then turn_of (Of 0) (First order) else part_turn s (Ordered order))) [
    | true ↦ λ live. event_alone given (λ n. n ≡ 0) c s 0 h
    | false ↦ λ dead. (elim (may_begin s.threads) as (λ (b : Bool). lives s 0 ≡ false → may_begin s.threads ≡ b → TurnFits c s (if b then turn_of NextPart (Ordered order) else None))
        [ true ↦ λ dead may. workers_begin c s h dead may | false ↦ λ dead may. over s dead h.workers may ]) dead refl
  ]) refl
  turn_fits (Ordered order) h = ordered_fits order h
  turn_fits (Rounds from) h = round_fits from h
  turn_fits Last h = (elim (lives s 0) as (λ (b : Bool). lives s 0 ≡ b → TurnFits c s (if b then turn_of (Of 0) Last else None))
      [ true ↦ λ live. event_alone given (λ n. 2 ≤ n) c s 0 h | false ↦ λ dead. over s dead h.workers (none_after s.threads h.part) ]) refl
