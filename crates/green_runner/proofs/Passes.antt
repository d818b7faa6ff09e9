-- Turns of the threads of hands.
use Rattle.std.proofs.Common.{◌≡◌, ◌≢◌, ℕ, zero, suc, ◌+◌, ◌<◌, ◌≤◌, Bool, true, false, List, [], ◌∷◌, ◌++◌, is_some, Some, None, refl, sym, ap, subst, ◌∙◌, arith, nat_lt, slice_set, ◌||◌}
use Rattle.std.{specs.List.range_with_len, proofs.lemmas.Bool.Decides.nat_tests}
use Rattle.atomic_table.specs.Seated.{TableId}
use Rattle.checked_program.specs.MarkedProgram.{MarkedProgram}
use Rattle.machine_types.specs.{Core.is_live_thread, Threads.Thread, declared.config.Config.Config}
use Rattle.table_rule.{specs.Views.held_in, proofs.Entries.{held_else, held_here}}
use Rattle.table_runner.{specs.{Accessing.made_by_event, Handed.{Handed, IsEventOf, IsTableOf, event_at}, Running.AreSame}, proofs.SameHands.same_itself}
use Rattle.green_runner.specs.Passes.{HasTakenTurn, HaveTurns, MakeEvents}
use mathlib.Core.Logic.{dite}
use native.Mathlib.Decide.{ℕ_discrete}

-- ---- one event

pub same_both : (h k l : Handed) → AreSame h k → AreSame k l → AreSame h l
same_both h k l a b = record { program = b.program ∙ a.program; cfg = b.cfg ∙ a.cfg; table = b.table ∙ a.table; numbers = λ u. b.numbers u ∙ a.numbers u }

event_same : (h : Handed) (t : ℕ) (after : Handed) → IsEventOf h t after → AreSame h after
event_same h t after e = subst (AreSame h) (sym e.leaves) (record { program = refl; cfg = refl; table = refl; numbers = at })
  where
    now : Thread
    now = made_by_event (event_at h t e.state) e.got

    here : (u : ℕ) → u ≡ t → is_some (held_in (slice_set h.threads t (Some now)) u) ≡ is_some (held_in h.threads u)
    here u same =
        ap (λ m. is_some (held_in (slice_set h.threads t (Some now)) m)) same
        ∙ ap is_some (held_here h.threads t e.state now e.held) ∙ ap is_some (sym e.held)
        ∙ ap (λ m. is_some (held_in h.threads m)) (sym same)

    at : (u : ℕ) → is_some (held_in (slice_set h.threads t (Some now)) u) ≡ is_some (held_in h.threads u)
    at u = dite (ℕ_discrete u t) (here u) (λ n. ap is_some (held_else h.threads t u (Some now) n))

event_else : (h : Handed) (t u : ℕ) (after : Handed) → IsEventOf h t after → u ≢ t → held_in after.threads u ≡ held_in h.threads u
event_else h t u after e n = ap (λ (k : Handed). held_in k.threads u) e.leaves ∙ held_else h.threads t u (Some (made_by_event (event_at h t e.state) e.got)) n

-- ---- events of one thread

pub one_more : (t n : ℕ) (h k after : Handed) → MakeEvents t n h k → is_live_thread (held_in k.threads t) ≡ true → IsEventOf k t after → MakeEvents t (suc n) h after
one_more t zero h k after m live e =
    let same : k ≡ h = m in
    (subst (λ (z : Handed). is_live_thread (held_in z.threads t) ≡ true) same live, (after, subst (λ (z : Handed). IsEventOf z t after) same e, refl))
one_more t (suc n) h k after m live e = (m.0, (m.1.0, m.1.1, one_more t n m.1.0 k after m.1.2 live e))

pub made_same : (t n : ℕ) (h after : Handed) → MakeEvents t n h after → AreSame h after
made_same t zero h after m = subst (AreSame h) (sym m) (same_itself h)
made_same t (suc n) h after m = same_both h m.1.0 after (event_same h t m.1.0 m.1.1) (made_same t n m.1.0 after m.1.2)

made_else : (t n u : ℕ) (h after : Handed) → MakeEvents t n h after → u ≢ t → held_in after.threads u ≡ held_in h.threads u
made_else t zero u h after m n = ap (λ (k : Handed). held_in k.threads u) m
made_else t (suc k) u h after m n = made_else t k u m.1.0 after m.1.2 n ∙ event_else h t u m.1.0 m.1.1 n

-- some were made
pub was_live : (t n : ℕ) (h after : Handed) → 0 < n → MakeEvents t n h after → is_live_thread (held_in h.threads t) ≡ true
was_live t zero h after some m = absurd (omega (arith, some))
was_live t (suc n) h after some m = m.0

-- ---- turns

pub turn_same : (turn t : ℕ) (h after : Handed) → HasTakenTurn turn t h after → AreSame h after
turn_same turn t h after k = made_same t k.events h after k.made

pub turn_else : (turn t u : ℕ) (h after : Handed) → HasTakenTurn turn t h after → u ≢ t → held_in after.threads u ≡ held_in h.threads u
turn_else turn t u h after k n = made_else t k.events u h after k.made n

-- of a thread that is not live, or not here
pub no_turn : (turn t : ℕ) (h : Handed) → is_live_thread (held_in h.threads t) ≡ false → HasTakenTurn turn t h h
no_turn turn t h dead = record { events = 0; few = omega arith; made = refl; over = λ less. dead }

pub turns_same : (turn : ℕ) (ts : List ℕ) (h after : Handed) → HaveTurns turn ts h after → AreSame h after
turns_same turn [] h after k = subst (AreSame h) (sym k) (same_itself h)
turns_same turn (t ∷ ts) h after k = same_both h k.0 after (turn_same turn t h k.0 k.1) (turns_same turn ts k.0 after k.2)

pub turns_more : (turn : ℕ) (ts : List ℕ) (t : ℕ) (h k after : Handed) → HaveTurns turn ts h k → HasTakenTurn turn t k after → HaveTurns turn (ts ++ t ∷ []) h after
turns_more turn [] t h k after m e = (after, subst (λ (z : Handed). HasTakenTurn turn t z after) m e, refl)
turns_more turn (u ∷ ts) t h k after m e = (m.0, m.1, turns_more turn ts t m.0 k after m.2 e)

pub numbers_more : (a n : ℕ) → range_with_len a n ++ (a + n) ∷ [] ≡ range_with_len a (suc n)
numbers_more a zero = let e : a + 0 ≡ a = omega arith in ap (λ m. m ∷ []) e
numbers_more a (suc n) =
    let e : a + suc n ≡ (a + 1) + n = omega arith in
    ap (λ m. a ∷ (range_with_len (a + 1) n ++ m ∷ [])) e ∙ ap (λ o. a ∷ o) (numbers_more (a + 1) n)

-- ---- the loops over events and over threads

-- a turn: whether the thread was live
pub record IsTurn (h : Handed) (turn t : ℕ) (live : Bool) (after : Handed) : Type 0 where
  pub live_is : live ≡ is_live_thread (held_in h.threads t)
  pub still : live ≡ false → after ≡ h
  pub turn_is : HasTakenTurn turn t h after

pub turn_full : (h after : Handed) (turn t made : ℕ) → 0 < turn → made ≡ turn → MakeEvents t made h after → IsTurn h turn t true after
turn_full h after turn t made some is m = record {
  live_is = sym (was_live t made h after (omega (arith, some, is)) m);
  still = λ e. absurd (let bad : true ≡ false = e in cc);
  turn_is = record { events = made; few = omega (arith, is); made = m; over = λ less. absurd (omega (arith, is, less)) };
}

pub turn_over : (h k after : Handed) (turn t made : ℕ) → made < turn → MakeEvents t made h k → is_live_thread (held_in k.threads t) ≡ false → after ≡ k
    → IsTurn h turn t (nat_lt 0 made) after
turn_over h k after turn t made lt m dead e = subst (IsTurn h turn t (nat_lt 0 made)) (sym e) (by_made made lt m)
  where
    above : (i : ℕ) → nat_lt 0 (suc i) ≡ true
    above i = grind (arith, nat_tests)

    by_made : (i : ℕ) → i < turn → MakeEvents t i h k → IsTurn h turn t (nat_lt 0 i) k
    by_made zero less n = record {
      live_is = sym (ap (λ (z : Handed). is_live_thread (held_in z.threads t)) (sym n) ∙ dead);
      still = λ e. n;
      turn_is = record { events = 0; few = omega arith; made = n; over = λ fewer. dead };
    }
    by_made (suc i) less n = record {
      live_is = above i ∙ sym (was_live t (suc i) h k (omega arith) n);
      still = λ e. absurd (let bad : true ≡ false = sym (above i) ∙ e in cc);
      turn_is = record { events = suc i; few = omega (arith, less); made = n; over = λ fewer. dead };
    }

-- behind the turns of the threads below a number
pub record MidPass (h : Handed) (turn n : ℕ) (some : Bool) (now : Handed) : Type 0 where
  pub turns : HaveTurns turn (range_with_len 0 n) h now
  pub rest : (u : ℕ) → n ≤ u → held_in now.threads u ≡ held_in h.threads u
  pub still : some ≡ false → now ≡ h
  pub dead : some ≡ false → (u : ℕ) → u < n → is_live_thread (held_in h.threads u) ≡ false
  pub live : some ≡ true → (u : ℕ) × (is_live_thread (held_in h.threads u) ≡ true)

pub pass_begins : (h : Handed) (turn : ℕ) → MidPass h turn 0 false h
pass_begins h turn = record { turns = refl; rest = λ u le. refl; still = λ e. refl; dead = λ e u lt. absurd (omega (arith, lt)); live = λ e. absurd (let bad : false ≡ true = e in cc) }

pub pass_on : (h k after : Handed) (turn n : ℕ) (some live : Bool) → MidPass h turn n some k → IsTurn k turn n live after → MidPass h turn (n + 1) (some || live) after
pass_on h k after turn n some live m l = record {
  turns = subst (λ ns. HaveTurns turn ns h after) (ap (λ m. range_with_len 0 n ++ m ∷ []) here ∙ numbers_more 0 n ∙ ap (range_with_len 0) next) (turns_more turn (range_with_len 0 n) n h k after m.turns l.turn_is);
  rest = λ u le. turn_else turn n u k after l.turn_is (λ e. absurd (omega (arith, le, e))) ∙ m.rest u (omega (arith, le));
  still = λ e. l.still (neither some live e).1 ∙ m.still (neither some live e).0;
  dead = λ e u lt. dite (ℕ_discrete u n)
      (λ same. ap (λ j. is_live_thread (held_in h.threads j)) same ∙ was ∙ (neither some live e).1)
      (λ other. m.dead (neither some live e).0 u (omega (arith, lt, other)));
  live = alive some live refl refl;
}
  where
    next : suc n ≡ n + 1
    next = omega arith

    here : n ≡ 0 + n
    here = omega arith

    was : is_live_thread (held_in h.threads n) ≡ live
    was = ap is_live_thread (sym (m.rest n (omega arith))) ∙ sym l.live_is

    neither : (a b : Bool) → (a || b) ≡ false → (a ≡ false) × (b ≡ false)
    neither true b e = absurd (let bad : true ≡ false = e in cc)
    neither false b e = (refl, e)

    alive : (a b : Bool) → some ≡ a → live ≡ b → (a || b) ≡ true → (u : ℕ) × (is_live_thread (held_in h.threads u) ≡ true)
    alive true b e f some_is = m.live e
    alive false true e f some_is = (n, was ∙ f)
    alive false false e f some_is = absurd (let bad : false ≡ true = some_is in cc)

-- no thread beyond the last one
pub pass_dead : (h now : Handed) (turn n : ℕ) → MidPass h turn n false now → ((t : ℕ) → n ≤ t → held_in h.threads t ≡ None) → (t : ℕ) → is_live_thread (held_in h.threads t) ≡ false
pass_dead h now turn n m none t = by_place (nat_lt t n) refl
  where
    by_place : (b : Bool) → nat_lt t n ≡ b → is_live_thread (held_in h.threads t) ≡ false
    by_place true e = m.dead refl t (grind (arith, nat_tests, e))
    by_place false e = ap is_live_thread (none t (grind (arith, nat_tests, e)))
