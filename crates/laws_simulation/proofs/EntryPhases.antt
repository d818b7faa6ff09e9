-- A thread enters a monitor: it has it already, it takes its lock, or it goes on to wait for it.
use Rattle.std.proofs.Common.{◌≡◌, inl, ℕ, ◌+◌, ◌-◌, ◌<◌, nat_lt, Bool, true, false, cond, List, [], ◌∷◌, length, drop, Option, Some, None, refl, sym, ap, ◌∙◌, subst, arith, slice_index, slice_set, ◌==◌}
use Rattle.std.proofs.lemmas.Bool.{ne_eqb, Decides.{nat_tests, Decides-eqb}}
use Rattle.jvm_types.specs.declared.{fixed_words.TheConstants.MONITOR_RECORDS, limits.TheConstants.FLAG_FROM}
use Rattle.machine_types.specs.{Accesses.{found_by, words_after}, Agreement.{StatusFits, depth_for, has_wait_bit}, Elision.{begins, tries}, Going.{failed_turn, with_phase, runs}}
use Rattle.machine_types.specs.{HeldMonitors.{held_at, with_held, deeper}, History.{act_if, enter_acts}, LockWords.{word_of_lock, lock_of}}
use Rattle.machine_types.specs.{Monitors.{claim_by, enter_wants, enter_moves, acquires, takes}, Owners.{NotHeld, HeldFat, hold_by_word, lock_at, owner_at, references_of}}
use Rattle.machine_types.specs.{PlainState.{Plain, holding_at, with_holding, with_status}, StartLaws.StartLiesApart, Threads.{Attempt, Frame}, Words.owner_word, declared.lock.{Held.Held, Kept.Kept}}
use Rattle.machine_types.specs.declared.{lock.LockWord.LockWord, phase.Phase.Phase}
use Rattle.laws_threads.proofs.HeldLists.{held_monitor}
use Rattle.laws_states.{specs.Sites.HasObject, proofs.{LockViews.not_held, WordViews.{lock_of_word, object_has, set_self}}}
use Rattle.laws_simulation.{specs.StandsBeside.ends_shown, proofs.{GoingOnAlike.{ends_before, none_ends}, HoldingsAlike.{alone, held_depth_is, holds_then, free_then, alike_put, alike_kept}}}
use Rattle.laws_simulation.proofs.{Landing.{WordsStay, Makes, words_stay, stays}, LockPlain.{enters_first, enters_again}}
use Rattle.laws_simulation.proofs.{Moving.{IsCalm, steps_as, to_phase, turned, stays_itself, runs_fits, runs_old}, OwnThread.Moving, Scene.Scene, WordsAround.{low, thin_stays, owner_stays}}
use Rattle.jvm_types.specs.declared.outcome.End.TheVariants as ends
use Rattle.machine_types.specs.PlainState as plain
use Rattle.machine_types.specs.declared.lock.Kept.TheVariants as keeps
use Rattle.machine_types.specs.declared.lock.LockWord.TheVariants as locks
use Rattle.machine_types.specs.declared.phase.Phase.TheVariants as phases
use Rattle.machine_types.specs.declared.plain.Act.TheVariants as acts

module _ (lies : StartLiesApart) (scene : Scene) (k : Moving scene.turn) where
  open scene use {c, objects, s, t, x, q, facts, beside, here}

  -- ---- what the words say

  pub lock_is : (n : ℕ) (l : LockWord) → HasObject objects n → (slice_index s.words n == word_of_lock l) ≡ true → lock_at (references_of objects) s.words n ≡ l
  lock_is n l h e = (ap (λ (b : Bool). cond b (lock_of (slice_index s.words n)) (locks.Free 0)) (object_has objects n h)) ∙ ap lock_of ((Decides-eqb (slice_index s.words n) (word_of_lock l)).0 e) ∙ lock_of_word l

  -- the words are as they were where one was stored as it was
  pub loaded : (w : ℕ) → WordsStay objects s q (slice_set s.words w (slice_index s.words w))
  loaded w = subst (WordsStay objects s q) (sym (set_self s.words w)) (words_stay objects s q)

  -- ---- nobody holds the monitor

  by_words : (m : ℕ) (l : LockWord) → lock_at (references_of objects) s.words m ≡ l → ((u : ℕ) → hold_by_word u l (owner_at s.words) ≡ NotHeld) → holding_at q.holdings m ≡ None
  by_words m l e none = free_then q.holdings s.threads beside.agrees.monitors m
      (λ u y there. let owns = facts.owners.each u y there in not_held (held_at y.held m) (sym (owns.holds m) ∙ ap (λ (j : LockWord). hold_by_word u j (owner_at s.words)) e ∙ none u))

  pub nobody_fat : (m r : ℕ) → lock_at (references_of objects) s.words m ≡ locks.Fat r → owner_at s.words r ≡ 0 → holding_at q.holdings m ≡ None
  nobody_fat m r e none = by_words m (locks.Fat r) e (λ u. not_zero u)
    where
      not_zero : (u : ℕ) → hold_by_word u (locks.Fat r) (owner_at s.words) ≡ NotHeld
      not_zero u = ap (λ (b : Bool). cond b (HeldFat r) NotHeld) (ap (λ (n : ℕ). n == u + 1) none ∙ ne_eqb 0 (u + 1) (λ f. omega (arith, f)))

  -- ---- it takes the lock

  pub takes_it : (words : List ℕ) (m : ℕ) (kept : Kept) → WordsStay objects s q words → k.z.status ≡ plain.Enter m → holding_at q.holdings m ≡ None → Makes k (acts.Enter ∷ []) words (takes x m kept)
  takes_it words m kept stay status none = steps_as k acts.Enter words (takes x m kept) (with_holding (record { monitor = m; holder = t; depth = 1 }) q.holdings) (with_status k.z plain.Run)
      (enters_first c.program q t k.z k.twin m status none)
      stay
      (alike_put q.holdings s.threads beside.agrees.monitors t x (takes x m kept) here m (record { monitor = m; kept = kept; depth = 1 }) refl refl (λ u d. ap (depth_for u) none))
      refl refl (runs_old (nat_lt x.counts.instructions x.cfg.steps)) (runs_fits k (record x { held = with_held (record { monitor = m; kept = kept; depth = 1 }) x.held; counts = record x.counts { locked = x.counts.locked + 1 } }) refl refl refl)

  -- ---- it goes on to wait for it

  pub to_wait : (words : List ℕ) (m : ℕ) (phase : Phase) → WordsStay objects s q words → IsCalm phase → StatusFits (has_wait_bit (references_of q.objects) s.words t) (record x { turns = x.turns + 1; phase = phase }) phase k.z.status → k.z.status ≡ plain.Enter m
      → Makes k [] words (failed_turn x phase)
  to_wait words m phase stay calm fits status = turned k words phase stay calm fits (inl (m, status))

  pub acquires_it : (words : List ℕ) (m : ℕ) (l : LockWord) → WordsStay objects s q words → k.z.status ≡ plain.Enter m → Makes k [] words (acquires x m l)
  acquires_it words m (locks.Free seen) stay status = to_phase k words (phases.Take m seen) stay tt status
  acquires_it words m (locks.Held u) stay status = elim (nat_lt (x.turns + 1) FLAG_FROM) as (λ (b : Bool). Makes k [] words (failed_turn x (cond b (phases.Acquire m) (phases.Flag m u))))
      [ true ↦ to_wait words m (phases.Acquire m) stay tt status status | false ↦ to_wait words m (phases.Flag m u) stay tt status status ]
  acquires_it words m (locks.Flagged u) stay status = to_wait words m (phases.Acquire m) stay tt status status
  acquires_it words m (locks.Fat r) stay status = to_phase k words (phases.TakeFat m r) stay tt status

  -- ---- it tries the section without its lock

  put_back_same : (f : Frame) (below : List Frame) → f ∷ drop (length (f ∷ below) - length below) (f ∷ below) ≡ f ∷ below
  put_back_same f below = let one : length (f ∷ below) - length below ≡ 1 = omega arith in ap (λ (n : ℕ). f ∷ drop n (f ∷ below)) one

  no_end : (b : Bool) → ends_shown c.program x.part (cond b phases.Run (phases.Ending ends.Steps)) ≡ ends_before x.part
  no_end true = none_ends c.program x.part x.roots phases.Run k.under_way.runs refl
  no_end false = none_ends c.program x.part x.roots (phases.Ending ends.Steps) k.under_way.runs refl

  begins_it : (words : List ℕ) (m seen n : ℕ) (fs : List Frame) → WordsStay objects s q words → k.z.status ≡ plain.Enter m → x.frames ≡ fs → Makes k [] words (begins x fs m seen n)
  begins_it words m seen n [] stay status e = stays_itself k words stay
  begins_it words m seen n (f ∷ below) stay status e = stays k words (begins x (f ∷ below) m seen n) (record {
    stay = stay;
    holds = alike_kept q.holdings s.threads beside.agrees.monitors t x (begins x (f ∷ below) m seen n) here refl;
    fits = record {
      frames = k.frames ∙ e ∙ sym (put_back_same f below) ∙ ap (λ (fs : List Frame). f ∷ drop (length fs - length below) fs) (sym e);
      status = status;
      roots = k.under_way.roots;
    };
    ended = k.under_way.ended ∙ sym (no_end (nat_lt x.counts.instructions x.cfg.steps));
    now = runs_old (nat_lt x.counts.instructions x.cfg.steps);
    part = refl;
  })

  tries_it : (words : List ℕ) (m n : ℕ) (l : LockWord) → WordsStay objects s q words → k.z.status ≡ plain.Enter m → Makes k [] words (tries x m n l)
  tries_it words m n (locks.Free seen) stay status = elim (nat_lt seen x.cfg.range) as (λ (b : Bool). Makes k [] words (cond b (begins x x.frames m seen (n + 1)) (with_phase x (phases.Acquire m))))
      [ true ↦ begins_it words m seen (n + 1) x.frames stay status refl | false ↦ to_phase k words (phases.Acquire m) stay tt status ]
  tries_it words m n (locks.Held u) stay status = to_phase k words (phases.Acquire m) stay tt status
  tries_it words m n (locks.Flagged u) stay status = to_phase k words (phases.Acquire m) stay tt status
  tries_it words m n (locks.Fat r) stay status = to_phase k words (phases.Acquire m) stay tt status

  -- ---- the phases

  pub entered : (m n : ℕ) (may : Bool) (o : Option Held) (a : Option Attempt) → held_at x.held m ≡ o → a ≡ None → k.z.status ≡ plain.Enter m
      → Makes k (enter_acts (claim_by m o a)) (words_after s.words (enter_wants m (claim_by m o a))) (enter_moves x m n may (claim_by m o a) (found_by s.words (enter_wants m (claim_by m o a))))
  entered m n may (Some h) a e none status = steps_as k acts.Enter s.words (runs (record x { held = with_held (deeper h) x.held }))
      (with_holding (record { monitor = m; holder = t; depth = h.depth + 1 }) q.holdings) (with_status k.z plain.Run)
      (enters_again c.program q t k.z k.twin m h.depth status (holds_then q.holdings s.threads beside.agrees.monitors t m x h here e))
      (words_stay objects s q)
      (alike_put q.holdings s.threads beside.agrees.monitors t x (runs (record x { held = with_held (deeper h) x.held })) here m (deeper h) (held_monitor m x.held h e) refl
      (λ u d. alone (holding_at q.holdings m) t u h.depth (held_depth_is q.holdings s.threads beside.agrees.monitors t m x h here e) d))
      refl refl (runs_old (nat_lt x.counts.instructions x.cfg.steps)) (runs_fits k (record x { held = with_held (deeper h) x.held }) refl refl refl)
  entered m n may None (Some a) e none status = absurd (cc)
  entered m n true None None e none status = tries_it (slice_set s.words m (slice_index s.words m)) m n (lock_of (slice_index s.words m)) (loaded m) status
  entered m n false None None e none status = acquires_it (slice_set s.words m (slice_index s.words m)) m (lock_of (slice_index s.words m)) (loaded m) status

  pub took : (m seen : ℕ) → HasObject objects m → k.z.status ≡ plain.Enter m
      → Makes k (act_if (slice_index s.words m == word_of_lock (locks.Free seen)) acts.Enter)
      (slice_set s.words m (cond (slice_index s.words m == word_of_lock (locks.Free seen)) (word_of_lock (locks.Held x.number)) (slice_index s.words m)))
      (cond (slice_index s.words m == word_of_lock (locks.Free seen)) (takes x m (keeps.Flat seen)) (failed_turn x (phases.Acquire m)))
  took m seen object status = (elim (slice_index s.words m == word_of_lock (locks.Free seen)) as (λ (b : Bool). (slice_index s.words m == word_of_lock (locks.Free seen)) ≡ b
      → Makes k (act_if b acts.Enter) (slice_set s.words m (cond b (word_of_lock (locks.Held x.number)) (slice_index s.words m))) (cond b (takes x m (keeps.Flat seen)) (failed_turn x (phases.Acquire m)))) [
        | true ↦ λ e.
            let free : lock_at (references_of objects) s.words m ≡ locks.Free seen = lock_is m (locks.Free seen) object e in
            takes_it (slice_set s.words m (word_of_lock (locks.Held x.number))) m (keeps.Flat seen)
            (thin_stays lies scene m (word_of_lock (locks.Held x.number)) object (λ r f. let bad : locks.Free seen ≡ locks.Fat r = sym free ∙ f in cc)
            (λ r f. let bad : locks.Held x.number ≡ locks.Fat r = sym (lock_of_word (locks.Held x.number)) ∙ f in cc))
            status (by_words m (locks.Free seen) free (λ u. refl))
        | false ↦ λ e. to_wait (slice_set s.words m (slice_index s.words m)) m (phases.Acquire m) (loaded m) tt status status
      ]) refl

  pub flagged : (m u : ℕ) → HasObject objects m → k.z.status ≡ plain.Enter m
      → Makes k [] (slice_set s.words m (cond (slice_index s.words m == word_of_lock (locks.Held u)) (word_of_lock (locks.Flagged u)) (slice_index s.words m))) (with_phase x (phases.Acquire m))
  flagged m u object status = (elim (slice_index s.words m == word_of_lock (locks.Held u)) as (λ (b : Bool). (slice_index s.words m == word_of_lock (locks.Held u)) ≡ b
      → Makes k [] (slice_set s.words m (cond b (word_of_lock (locks.Flagged u)) (slice_index s.words m))) (with_phase x (phases.Acquire m))) [
        | true ↦ λ e.
            let held : lock_at (references_of objects) s.words m ≡ locks.Held u = lock_is m (locks.Held u) object e in
            to_phase k (slice_set s.words m (word_of_lock (locks.Flagged u))) (phases.Acquire m)
            (thin_stays lies scene m (word_of_lock (locks.Flagged u)) object (λ r f. let bad : locks.Held u ≡ locks.Fat r = sym held ∙ f in cc)
            (λ r f. let bad : locks.Flagged u ≡ locks.Fat r = sym (lock_of_word (locks.Flagged u)) ∙ f in cc))
            tt status
        | false ↦ λ e. to_phase k (slice_set s.words m (slice_index s.words m)) (phases.Acquire m) (loaded m) tt status
      ]) refl

  low_record : (r : ℕ) → r < MONITOR_RECORDS → nat_lt r MONITOR_RECORDS ≡ true
  low_record r l = grind (arith, nat_tests, l)

  pub took_fat : (m r : ℕ) → lock_at (references_of objects) s.words m ≡ locks.Fat r → k.z.status ≡ plain.Enter m
      → Makes k (act_if (slice_index s.words (owner_word r) == 0) acts.Enter) (slice_set s.words (owner_word r) (cond (slice_index s.words (owner_word r) == 0) (x.number + 1) (slice_index s.words (owner_word r))))
      (cond (slice_index s.words (owner_word r) == 0) (takes x m (keeps.Fat r)) (failed_turn x (phases.TakeFat m r)))
  took_fat m r fat status = by_test (slice_index s.words (owner_word r) == 0) refl
    where
      by_test : (b : Bool) → (slice_index s.words (owner_word r) == 0) ≡ b
          → Makes k (act_if b acts.Enter) (slice_set s.words (owner_word r) (cond b (x.number + 1) (slice_index s.words (owner_word r)))) (cond b (takes x m (keeps.Fat r)) (failed_turn x (phases.TakeFat m r)))
      by_test true e =
          let none : owner_at s.words r ≡ 0 = ap (λ (b : Bool). cond b (slice_index s.words (owner_word r)) 0) (low_record r (low scene m r fat)) ∙ (Decides-eqb (slice_index s.words (owner_word r)) 0).0 e in
          takes_it (slice_set s.words (owner_word r) (x.number + 1)) m (keeps.Fat r) (owner_stays lies scene r (x.number + 1) (low scene m r fat)) status (nobody_fat m r fat none)
      by_test false e = to_wait (slice_set s.words (owner_word r) (slice_index s.words (owner_word r))) m (phases.TakeFat m r) (loaded (owner_word r)) tt status status
