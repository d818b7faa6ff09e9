-- The run in which two threads lock each other out until the limit of turns. Its 2,046 events are too many to be computed at
-- once, so it is played by parts: the first 200 and the last 46 are computed; in the 900 rounds between them each worker fails
-- one turn, nothing else changes, and they go by induction.
use Rattle.std.proofs.Common.{◌≡◌, ℕ, Bool, true, false, zero, suc, ◌+◌, List, [], ◌∷◌, Option, Some, None, refl, sym, ap, ◌∙◌, ◌<◌, ◌≤◌, arith, is_some, length, nat_lt, slice_index, slice_index_or, slice_set}
use Rattle.std.proofs.lemmas.Bool.{lt-ltb, ltb-true}
use Rattle.jvm_types.specs.ClassTree.{is_subclass}
use Rattle.checked_program.specs.MarkedProgram.{MarkedProgram}
use Rattle.machine_types.specs.{History.{Past, no_past}, LockWords.lock_of, Schedules.{Stage, First, Rounds, Turn, turn_at}, Threads.{Thread, fresh}, declared.phase.Phase.Phase}
use Rattle.machine_plays.{specs.WorkedRuns.Run, proofs.{Agreeing.counts_fit, Playing.{Beside, first_beside, Plays, Play, Played, Over, on, play, first_play, first_told}}}
use Rattle.machine_types.specs.declared.lock.LockWord.TheVariants as locks
use Rattle.machine_types.specs.declared.phase.Phase.TheVariants as phases
use Rattle.machine_plays.specs.WorkedRuns as runs

abbrev here : Run
here = runs.locked_out

-- ---- a play by parts

-- a play with the stage of its schedule
record Point : Type 0 where
  play : Play
  stage : Stage

abbrev point : Play → Stage → Point
point x stage = record { play = x; stage = stage }

-- what is played from a point on
unfoldable rest : MarkedProgram → (most : ℕ) → Point → Played
rest c most at = play most c at.play at.stage

-- so many events later; where it is over before, it stays there
abbrev after : (events : ℕ) → MarkedProgram → Point → Point
after zero c at = at
after (suc n) c at = by_turn (after n c) (turn_at at.stage at.play.told.core)
  where
    by_turn : (Point → Point) → Option Turn → Point
    by_turn more None = at
    by_turn more (Some t) = more (point (on c at.play t) t.stage)

one_more : (n m : ℕ) (c : MarkedProgram) (at : Point) (turn : Option Turn) → turn_at at.stage at.play.told.core ≡ turn
    → ((y : Point) → rest c (n + suc m) y ≡ rest c (suc m) (after n c y))
    → rest c (suc (n + suc m)) at ≡ rest c (suc m) (after (suc n) c at)
unfolding rest
one_more n m c at None e more = rw (e, e) refl
one_more n m c at (Some t) e more = rw e (more (point (on c at.play t) t.stage))

-- a play is what is played on from a point of it
parts : (n m : ℕ) (c : MarkedProgram) (at : Point) → rest c (n + suc m) at ≡ rest c (suc m) (after n c at)
parts zero m c at = ap (λ k. rest c k at) (omega arith)
parts (suc n) m c at = ap (λ k. rest c k at) (omega arith) ∙ one_more n m c at (turn_at at.stage at.play.told.core) refl (parts n m c)

-- ---- two workers whose turns fail at flagged locks

abbrev with_turns : ℕ → Thread → Thread
with_turns n s = record s { turns = s.turns + n }

-- threads 1 and 2 with n failed turns more each, and thread 1 is next
abbrev turning : List ℕ → (x0 x1 x2 : Thread) (p0 p1 p2 : Past) → Beside → (events steps n : ℕ) → Point
turning ws x0 x1 x2 p0 p1 p2 b events steps n = point (record {
  told = record { core = record { words = ws; threads = x0 ∷ with_turns n x1 ∷ with_turns n x2 ∷ [] }; pasts = p0 ∷ p1 ∷ p2 ∷ [] };
  beside = Some b;
  looks = false;
  agrees = true;
  counted = true;
  events = events;
  steps = steps;
}) (Rounds 3)

-- an access that loads leaves the words
stays : (ws : List ℕ) (i : ℕ) → slice_set ws i (slice_index ws i) ≡ ws
stays [] i = refl
stays (w ∷ ws) zero = refl
stays (w ∷ ws) (suc i) = ap (λ l. w ∷ l) (stays ws i)

-- outside an attempt, before it looks at a lock
abbrev at_lock : Thread → (m : ℕ) → Thread
at_lock x m = record x { phase = phases.Acquire m; attempt = None }

-- sums that computing leaves as they are
no_more : (n : ℕ) → 0 + n ≡ n
no_more n = omega arith

one_on : (a n : ℕ) → a + suc n ≡ a + n + 1
one_on a n = omega arith

none_on : (a : ℕ) → a + 0 ≡ a
none_on a = omega arith

-- each of the two finds its lock flagged and is below its limit
one_round : (c : MarkedProgram) (ws : List ℕ) (x0 x1 x2 : Thread) (p0 p1 p2 : Past) (b : Beside) (events steps n m1 m2 u1 u2 : ℕ)
    → lock_of (slice_index ws m1) ≡ locks.Flagged u1 → lock_of (slice_index ws m2) ≡ locks.Flagged u2
    → counts_fit 0 b.runs b.takes (p0 ∷ p1 ∷ p2 ∷ []) (x0 ∷ at_lock x1 m1 ∷ at_lock x2 m2 ∷ []) ≡ true
    → nat_lt (x1.turns + n + 1) x1.cfg.turns ≡ true → nat_lt (x2.turns + n + 1) x2.cfg.turns ≡ true
    → after 2 c (turning ws x0 (at_lock x1 m1) (at_lock x2 m2) p0 p1 p2 b events steps n) ≡ turning ws x0 (at_lock x1 m1) (at_lock x2 m2) p0 p1 p2 b (suc (suc events)) steps (suc n)
one_round c ws x0 x1 x2 p0 p1 p2 b events steps n m1 m2 u1 u2 a1 a2 k l1 l2 = rw (stays ws m1, stays ws m2, a1, a2, l1, l2, k, no_more steps, no_more steps, one_on x1.turns n, one_on x2.turns n) refl

-- ---- the same from any point where they do, told by what can be computed of it without a comparison of its words

abbrev thread_at : Point → ℕ → Thread
thread_at at i = slice_index_or at.play.told.core.threads i (fresh here.program here.cfg 0 phases.Idle [])

abbrev past_of : Point → ℕ → Past
past_of at i = slice_index_or at.play.told.pasts i no_past

abbrev or_this : {A : Type 0} → Option A → A → A
or_this None d = d
or_this (Some a) d = a

abbrev beside_of : Point → Beside
beside_of at = or_this at.play.beside (first_beside here.program)

abbrev monitor_of : Phase → ℕ
monitor_of (phases.Acquire m) = m
monitor_of phase = 0

abbrev is_acquire : Phase → Bool
is_acquire (phases.Acquire m) = true
is_acquire phase = false

acquire_of : (phase : Phase) → is_acquire phase ≡ true → phase ≡ phases.Acquire (monitor_of phase)
acquire_of (phases.Acquire m) e = refl
acquire_of phase e = absurd (cc)

abbrev wanted_by : Point → ℕ → ℕ
wanted_by at i = monitor_of (thread_at at i).phase

abbrev waiter : Point → ℕ → Thread
waiter at i = at_lock (thread_at at i) (wanted_by at i)

-- the point with n failed turns more of each worker, and with a count of events
abbrev turned : Point → (events n : ℕ) → Point
turned at events n = turning at.play.told.core.words (thread_at at 0) (waiter at 1) (waiter at 2) (past_of at 0) (past_of at 1) (past_of at 2) (beside_of at) events at.play.steps n

-- both workers turn at flagged locks, each still 900 turns below its limit
record Settled (at : Point) : Type 0 where
  threads : length at.play.told.core.threads ≡ 3
  pasts : length at.play.told.pasts ≡ 3
  beside : is_some at.play.beside ≡ true
  looks : at.play.looks ≡ false
  agrees : at.play.agrees ≡ true
  counted : at.play.counted ≡ true
  stage : at.stage ≡ Rounds 3
  first : is_acquire (thread_at at 1).phase ≡ true
  second : is_acquire (thread_at at 2).phase ≡ true
  first_attempt : (thread_at at 1).attempt ≡ None
  second_attempt : (thread_at at 2).attempt ≡ None
  first_lock : lock_of (slice_index at.play.told.core.words (wanted_by at 1)) ≡ locks.Flagged 2
  second_lock : lock_of (slice_index at.play.told.core.words (wanted_by at 2)) ≡ locks.Flagged 1
  counts : counts_fit 0 (beside_of at).runs (beside_of at).takes (past_of at 0 ∷ past_of at 1 ∷ past_of at 2 ∷ []) (thread_at at 0 ∷ waiter at 1 ∷ waiter at 2 ∷ []) ≡ true
  first_limit : nat_lt ((thread_at at 1).turns + 900) (thread_at at 1).cfg.turns ≡ true
  second_limit : nat_lt ((thread_at at 2).turns + 900) (thread_at at 2).cfg.turns ≡ true

three : {A : Type 0} (xs : List A) (d : A) → length xs ≡ 3 → xs ≡ slice_index_or xs 0 d ∷ slice_index_or xs 1 d ∷ slice_index_or xs 2 d ∷ []
three [] d e = absurd (omega (arith, e))
three (x ∷ []) d e = absurd (omega (arith, e))
three (x ∷ y ∷ []) d e = absurd (omega (arith, e))
three (x ∷ y ∷ z ∷ []) d e = refl
three (x ∷ y ∷ z ∷ w ∷ xs) d e = absurd (omega (arith, e))

some_is : {A : Type 0} (o : Option A) (d : A) → is_some o ≡ true → o ≡ Some (or_this o d)
some_is None d e = absurd (cc)
some_is (Some a) d e = refl

-- the point itself, field by field
abbrev opened : Point → Point
opened at = point (record {
  told = record { core = record { words = at.play.told.core.words; threads = at.play.told.core.threads }; pasts = at.play.told.pasts };
  beside = at.play.beside;
  looks = at.play.looks;
  agrees = at.play.agrees;
  counted = at.play.counted;
  events = at.play.events;
  steps = at.play.steps;
}) at.stage

waits_so : (x : Thread) (m : ℕ) → x.phase ≡ phases.Acquire m → x.attempt ≡ None → with_turns 0 (at_lock x m) ≡ x
waits_so x m e a = rw (none_on x.turns, sym e, sym a) refl

settled : (at : Point) → Settled at → at ≡ turned at at.play.events 0
settled at s =
    let same : opened at ≡ turned at at.play.events 0 = rw (
      waits_so (thread_at at 1) (wanted_by at 1) (acquire_of _ s.first) s.first_attempt,
      waits_so (thread_at at 2) (wanted_by at 2) (acquire_of _ s.second) s.second_attempt,
      sym (three at.play.told.core.threads (fresh here.program here.cfg 0 phases.Idle []) s.threads),
      sym (three at.play.told.pasts no_past s.pasts),
      sym (some_is at.play.beside (first_beside here.program) s.beside),
      s.looks,
      s.agrees,
      s.counted,
      s.stage,
    ) refl in
    same

-- ---- many rounds

below : (turns n limit : ℕ) → nat_lt (turns + 900) limit ≡ true → n < 900 → nat_lt (turns + n + 1) limit ≡ true
below turns n limit e l = let far : turns + 900 < limit = ltb-true (turns + 900) limit e in lt-ltb (turns + n + 1) limit (omega (arith, far, l))

one_more_round : (c : MarkedProgram) (at : Point) → Settled at → (events n : ℕ) → n < 900 → after 2 c (turned at events n) ≡ turned at (suc (suc events)) (suc n)
one_more_round c at s events n l = one_round c at.play.told.core.words (thread_at at 0) (thread_at at 1) (thread_at at 2) (past_of at 0) (past_of at 1) (past_of at 2) (beside_of at) events at.play.steps n (wanted_by at 1) (wanted_by at 2) 2 1 s.first_lock s.second_lock s.counts
    (below (thread_at at 1).turns n (thread_at at 1).cfg.turns s.first_limit l) (below (thread_at at 2).turns n (thread_at at 2).cfg.turns s.second_limit l)

rounds : (c : MarkedProgram) (at : Point) → Settled at → (k m events n : ℕ) → n + k ≤ 900 → rest c (k + k + suc m) (turned at events n) ≡ rest c (suc m) (turned at (k + k + events) (n + k))
rounds c at s zero m events n l =
    let a : 0 + 0 + suc m ≡ suc m = omega arith in
    let b : 0 + 0 + events ≡ events = omega arith in
    let d : n + 0 ≡ n = omega arith in
    rw (a, b, d) refl
rounds c at s (suc k) m events n l =
    let a : suc k + suc k + suc m ≡ 2 + suc (k + k + m) = omega arith in
    let b : suc (k + k + m) ≡ k + k + suc m = omega arith in
    let d : k + k + suc (suc events) ≡ suc k + suc k + events = omega arith in
    let e : suc n + k ≡ n + suc k = omega arith in
    ap (λ j. rest c j (turned at events n)) a ∙ parts 2 (k + k + m) c (turned at events n)
    ∙ ap (λ y. rest c (suc (k + k + m)) y) (one_more_round c at s events n (omega (arith, l)))
    ∙ ap (λ j. rest c j (turned at (suc (suc events)) (suc n))) b ∙ rounds c at s k m (suc (suc events)) (suc n) (omega (arith, l))
    ∙ ap (λ j. rest c (suc m) (turned at j (suc n + k))) d ∙ ap (λ j. rest c (suc m) (turned at (suc k + suc k + events) j)) e

-- ---- this run

unfoldable start : Point
start = point (first_play here.looks here.program (first_told here)) (First here.order)

-- both have flagged the lock that they want
unfoldable both_turn : Point
both_turn = after 200 here.program start

both_settled : Settled both_turn
unfolding is_subclass start both_turn
both_settled = record {
  threads = refl;
  pasts = refl;
  beside = refl;
  looks = refl;
  agrees = refl;
  counted = refl;
  stage = refl;
  first = refl;
  second = refl;
  first_attempt = refl;
  second_attempt = refl;
  first_lock = refl;
  second_lock = refl;
  counts = refl;
  first_limit = refl;
  second_limit = refl;
}

begins : rest here.program 3000 start ≡ rest here.program 2800 both_turn
unfolding both_turn
begins = parts 200 2799 here.program start

last_turns : rest here.program 1000 (turned both_turn (900 + 900 + both_turn.play.events) (0 + 900)) ≡ Over here.result.outcome (Some here.result.prints) true true here.result.events here.result.steps
unfolding is_subclass start both_turn rest
last_turns = refl

whole : rest here.program 3000 start ≡ Over here.result.outcome (Some here.result.prints) true true here.result.events here.result.steps
whole = begins ∙ ap (λ y. rest here.program 2800 y) (settled both_turn both_settled) ∙ rounds here.program both_turn both_settled 900 999 both_turn.play.events 0 (omega arith) ∙ last_turns

pub locked_out : Plays runs.locked_out
unfolding rest start
locked_out = whole
