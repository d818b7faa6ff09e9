-- Phase by phase, what an event owes: of the thread, of the others and of the words.
use Rattle.std.proofs.Common.{◌≡◌, ℕ, ◌+◌, ◌<◌, ◌≤◌, nat_lt, Bool, true, false, cond, List, [], ◌∷◌, Option, Some, None, refl, sym, ap, ◌∙◌, subst, arith, slice_index, slice_set, ◌==◌}
use Rattle.std.proofs.lemmas.Bool.Decides.{nat_tests, Decides-eqb}
use Rattle.jvm_types.specs.declared.{fixed_words.TheConstants.MONITOR_RECORDS, limits.TheConstants.FLAG_FROM, program.Program.Program}
use Rattle.machine_types.specs.{Accesses.{accessed, found_by, words_after}, Core.Core, Elision.{begins, tries}, FoundWords.Lock, HeldMonitors.{held_at, with_held, deeper}}
use Rattle.machine_types.specs.{LockWords.{word_of_lock, lock_of}, Monitors.{Tries, HasNot, claim_by, enter_wants, enter_moves, acquires}}
use Rattle.machine_types.specs.Owners.{Locks, hold_by_kept, hold_by_list, drawn_by, Knows, IsSeen, PhaseSaw, AttemptSawIn, IsKeptIn, lock_at, locks_in, references_of}
use Rattle.machine_types.specs.{PlainMemory.Object, Threads.{Frame, Attempt, Thread}, Words.owner_word, declared.access.Access.{Access, TheVariants.Load}}
use Rattle.machine_types.specs.declared.{config.Config.Config, lock.{Held.Held, Kept.Kept, LockWord.LockWord}, phase.Phase.Phase}
use Rattle.laws_threads.{specs.StructureLaws.counted_by, proofs.HeldLists.{held_monitor, held_put}}
use Rattle.laws_states.{specs.Sites.{Site, LockOf, site_word, HasObject, IsThere, Suits, IsAccessOf, ReachesIf}, proofs.Movers.{LockMover, OwnsAs}}
use Rattle.laws_states.proofs.{CountedPhases.{IsPlain, plain_knows, plain_saw, plain_draws_none, counted_plain}, OwnersEvents.{Became, unwritten, same_held, same_attempt}, OwnersStep.Owes}
use Rattle.laws_states.proofs.{PlainMoves.{LooksBack, same_look, looks_saw, Plainly, runs_plain}, SameTally.{Tally, tally_of}, WordViews.{lock_of_word, object_has, set_self}}
use Rattle.jvm_types.specs.declared.outcome.End.TheVariants as ends
use Rattle.machine_types.specs.declared.lock.LockWord.TheVariants as locks
use Rattle.machine_types.specs.declared.phase.Phase.TheVariants as phases

-- ---- what is reached

pub lock_reached : (p : Program) (objects : List Object) (s : Core) (a : Access) → IsAccessOf p objects s Lock a → HasObject objects (accessed a)
lock_reached p objects s a k = (elim k.site as (λ (site : Site). IsThere p objects s site → accessed a ≡ site_word site → Suits Lock site → HasObject objects (accessed a))
    [ LockOf n ↦ λ there word suits. subst (HasObject objects) (sym word) there | site ↦ λ there word suits. absurd suits ]) k.there k.word k.suits

-- ---- an entry of the held list that is as it was, but for the depth

refit_same : (h k : Held) (hs : List Held) (n m : ℕ) → held_at hs n ≡ Some h → k.monitor ≡ h.monitor → k.kept ≡ h.kept → hold_by_list (held_at (with_held k hs) m) ≡ hold_by_list (held_at hs m)
refit_same h k hs n m e same kept = ap hold_by_list (held_put m k hs) ∙ by_test (k.monitor == m) refl
  where
    by_test : (b : Bool) → (k.monitor == m) ≡ b → hold_by_list (cond b (Some k) (held_at hs m)) ≡ hold_by_list (held_at hs m)
    by_test true g =
        ap hold_by_kept kept ∙ ap hold_by_list (sym e) ∙ ap (λ (i : ℕ). hold_by_list (held_at hs i)) (sym (held_monitor n hs h e) ∙ sym same ∙ (Decides-eqb k.monitor m).0 g)
    by_test false g = refl

refit_keeps : (h k : Held) (hs : List Held) (n m count : ℕ) → held_at hs n ≡ Some h → k.monitor ≡ h.monitor → k.kept ≡ h.kept → IsKeptIn (held_at hs m) count → IsKeptIn (held_at (with_held k hs) m) count
refit_keeps h k hs n m count e same kept had = subst (λ (q : Option Held). IsKeptIn q count) (sym (held_put m k hs)) (by_test (k.monitor == m) refl)
  where
    by_test : (b : Bool) → (k.monitor == m) ≡ b → IsKeptIn (cond b (Some k) (held_at hs m)) count
    by_test true g =
        let here : IsKeptIn (Some h) count = subst (λ (q : Option Held). IsKeptIn q count) (ap (held_at hs) (sym (sym (held_monitor n hs h e) ∙ sym same ∙ (Decides-eqb k.monitor m).0 g)) ∙ e) had in
        subst (λ (q : Kept). IsKeptIn (Some (record k { kept = q })) count) (sym kept) here
    by_test false g = had

-- ---- one phase

module _ (mover : LockMover) (was : Phase) (o : OwnsAs mover was) where
  open mover use {t, x, state.{owners.{count, locks_are}, base.heap.{c, objects, s}}}

  -- an event that leaves words and made y
  abbrev pub Result : (words : List ℕ) → Thread → Type 0
  Result words y = (more : ℕ → ℕ) × Owes (locks_in (references_of objects) s.words) (locks_in (references_of objects) words) count more t was (counted_by was y.phase) x y

  pub on_view : (words : List ℕ) (w : Locks) (y : Thread) (more : ℕ → ℕ) → locks_in (references_of objects) words ≡ w → Owes (locks_in (references_of objects) s.words) w count more t was (counted_by was y.phase) x y → Result words y
  on_view words w y more e k = (more, subst (λ (z : Locks). Owes (locks_in (references_of objects) s.words) z count more t was (counted_by was y.phase) x y) (sym e) k)

  pub loaded : (w : ℕ) (y : Thread) → Result s.words y → Result (slice_set s.words w (slice_index s.words w)) y
  loaded w y k = subst (λ (words : List ℕ). Result words y) (sym (set_self s.words w)) k

  -- what the words say
  pub lock_here : (n : ℕ) → HasObject objects n → lock_at (references_of objects) s.words n ≡ lock_of (slice_index s.words n)
  lock_here n k = ap (λ (b : Bool). cond b (lock_of (slice_index s.words n)) (locks.Free 0)) (object_has objects n k)

  pub lock_is : (n : ℕ) (l : LockWord) → HasObject objects n → (slice_index s.words n == word_of_lock l) ≡ true → lock_at (references_of objects) s.words n ≡ l
  lock_is n l k e = lock_here n k ∙ ap lock_of ((Decides-eqb (slice_index s.words n) (word_of_lock l)).0 e) ∙ lock_of_word l

  pub owner_none : (r : ℕ) → r < MONITOR_RECORDS → (slice_index s.words (owner_word r) == 0) ≡ true → (locks_in (references_of objects) s.words).owner r ≡ 0
  owner_none r low e = ap (λ (b : Bool). cond b (slice_index s.words (owner_word r)) 0) (low_record r low) ∙ (Decides-eqb (slice_index s.words (owner_word r)) 0).0 e
    where
      low_record : (r : ℕ) → r < MONITOR_RECORDS → nat_lt r MONITOR_RECORDS ≡ true
      low_record r low = grind (arith, nat_tests, low)

  -- ---- a plain event

  pub plain : (y : Thread) → y.held ≡ x.held → y.cfg ≡ x.cfg → x.counts.locked ≤ y.counts.locked → LooksBack y.attempt x.attempt → IsPlain (counted_by was y.phase) → Result s.words y
  plain y held cfg locked looks is =
      let saw : AttemptSawIn (locks_in (references_of objects) s.words) count y.cfg y.attempt =
      subst (λ (g : Config). AttemptSawIn (locks_in (references_of objects) s.words) count g y.attempt) (sym cfg) (looks_saw (locks_in (references_of objects) s.words) count x.cfg y.attempt x.attempt looks o.attempt) in (
        count,
        same_held mover was o y (counted_by was y.phase) held saw locked
            (plain_knows (locks_in (references_of objects) s.words) t (counted_by was y.phase) is) (plain_saw (locks_in (references_of objects) s.words) count (counted_by was y.phase) is)
            (λ i e. let none : drawn_by (counted_by was y.phase) ≡ None = plain_draws_none (counted_by was y.phase) is in cc),
      )

  pub by_tally : (y : Thread) → tally_of y ≡ tally_of x → y.cfg ≡ x.cfg → Plainly x.attempt y → IsPlain was → Result s.words y
  by_tally y e cfg p old =
      let locked : y.counts.locked ≡ x.counts.locked = ap (λ (g : Tally). g.locked) e in
      plain y (ap (λ (g : Tally). g.held) e) cfg (omega (arith, locked)) p.attempt (counted_plain was y.phase old p.phase)

  -- the lock word says more in the phase that follows
  pub knowing : (y : Thread) → y.held ≡ x.held → y.cfg ≡ x.cfg → y.counts.locked ≡ x.counts.locked → y.attempt ≡ x.attempt → Knows (locks_in (references_of objects) s.words) t (counted_by was y.phase)
      → PhaseSaw (locks_in (references_of objects) s.words) count (counted_by was y.phase) → ((i : ℕ) → drawn_by (counted_by was y.phase) ≡ Some i → drawn_by was ≡ Some i) → Result s.words y
  knowing y held cfg locked attempt knows saw draws = (
    count,
    same_held mover was o y (counted_by was y.phase) held (same_attempt mover was o y (counted_by was y.phase) cfg attempt)
        (omega (arith, locked)) knows saw draws,
  )

  -- ---- an entry

  turns_plain : (m u : ℕ) (b d : Bool) → IsPlain (cond d (cond b (phases.Acquire m) (phases.Flag m u)) (phases.Ending ends.Turns))
  turns_plain m u true true = tt
  turns_plain m u false true = tt
  turns_plain m u b false = tt

  pub acquired : (m : ℕ) (l : LockWord) → IsPlain was → (locks_in (references_of objects) s.words).lock m ≡ l → Result s.words (acquires x m l)
  acquired m (locks.Free seen) old e = knowing (acquires x m (locks.Free seen)) refl refl refl refl tt
      (subst (λ (l : LockWord). IsSeen l seen (count m)) (sym e) (let same : seen ≡ count m = locks_are.free m seen e in omega (arith, same))) (λ i d. absurd (cc))
  acquired m (locks.Held u) old e = plain (acquires x m (locks.Held u)) refl refl (omega arith) (same_look x.attempt) (counted_plain was _ old (turns_plain m u (nat_lt (x.turns + 1) FLAG_FROM) (nat_lt (x.turns + 1) x.cfg.turns)))
  acquired m (locks.Flagged u) old e = plain (acquires x m (locks.Flagged u)) refl refl (omega arith) (same_look x.attempt) (counted_plain was _ old (turns_plain m u true (nat_lt (x.turns + 1) x.cfg.turns)))
  acquired m (locks.Fat r) old e = knowing (acquires x m (locks.Fat r)) refl refl refl refl e tt (λ i d. absurd (cc))

  began : (m seen n : ℕ) (fs : List Frame) → x.frames ≡ fs → IsPlain was → IsPlain x.phase → (locks_in (references_of objects) s.words).lock m ≡ locks.Free seen → nat_lt seen x.cfg.range ≡ true → Result s.words (begins x fs m seen n)
  began m seen n [] f old now e last = plain x refl refl (omega arith) (same_look x.attempt) (counted_plain was x.phase old now)
  began m seen n (f ∷ fs) g old now e last =
      let y : Thread = begins x (f ∷ fs) m seen n in
      let is : IsPlain (counted_by was y.phase) = counted_plain was y.phase old (runs_plain (nat_lt x.counts.instructions x.cfg.steps)) in (
        count,
        same_held mover was o y (counted_by was y.phase) refl
            (record { seen = subst (λ (l : LockWord). IsSeen l seen (count m)) (sym e) (let same : seen ≡ count m = locks_are.free m seen e in omega (arith, same)); not_last = grind (arith, nat_tests, last) })
            (omega arith) (plain_knows (locks_in (references_of objects) s.words) t (counted_by was y.phase) is) (plain_saw (locks_in (references_of objects) s.words) count (counted_by was y.phase) is)
            (λ i d. let none : drawn_by (counted_by was y.phase) ≡ None = plain_draws_none (counted_by was y.phase) is in cc),
      )

  tried : (m n : ℕ) (l : LockWord) → IsPlain was → IsPlain x.phase → (locks_in (references_of objects) s.words).lock m ≡ l → Result s.words (tries x m n l)
  tried m n (locks.Free seen) old now e = (elim (nat_lt seen x.cfg.range) as
      (λ (b : Bool). nat_lt seen x.cfg.range ≡ b → Result s.words (cond b (begins x x.frames m seen (n + 1)) (record x { phase = phases.Acquire m })))
      [ true ↦ λ f. began m seen (n + 1) x.frames refl old now e f | false ↦ λ f. plain _ refl refl (omega arith) (same_look x.attempt) tt ]) refl
  tried m n l old now e = plain _ refl refl (omega arith) (same_look x.attempt) tt

  pub refitted : (h k : Held) (n : ℕ) (y : Thread) → held_at x.held n ≡ Some h → k.monitor ≡ h.monitor → k.kept ≡ h.kept → Became x y (with_held k x.held) 0 → IsPlain (counted_by was y.phase) → Result s.words y
  refitted h k n y e same kept b is = (
    count,
    unwritten mover was o y (counted_by was y.phase)
        (λ m. ap (λ (hs : List Held). hold_by_list (held_at hs m)) b.held_is ∙ refit_same h k x.held n m e same kept)
        (λ m. subst (λ (hs : List Held). IsKeptIn (held_at hs m) (count m)) (sym b.held_is) (refit_keeps h k x.held n m (count m) e same kept (o.keeps_count m)))
        (same_attempt mover was o y (counted_by was y.phase) b.cfg b.attempt)
        (let locked = b.locked in omega (arith, locked))
        (plain_knows (locks_in (references_of objects) s.words) t (counted_by was y.phase) is) (plain_saw (locks_in (references_of objects) s.words) count (counted_by was y.phase) is)
        (λ i d. let none : drawn_by (counted_by was y.phase) ≡ None = plain_draws_none (counted_by was y.phase) is in cc),
  )

  pub entered : (m n : ℕ) (may : Bool) (held : Option Held) (attempt : Option Attempt) → IsPlain was → IsPlain x.phase → held_at x.held m ≡ held → x.attempt ≡ attempt
      → ReachesIf c.program objects s Lock (enter_wants m (claim_by m held attempt))
      → Result (words_after s.words (enter_wants m (claim_by m held attempt))) (enter_moves x m n may (claim_by m held attempt) (found_by s.words (enter_wants m (claim_by m held attempt))))
  entered m n may (Some h) attempt old now e f reach = refitted h (deeper h) m _ e refl refl (record { held_is = refl; attempt = refl; cfg = refl; locked = omega arith }) (counted_plain was _ old (runs_plain (nat_lt x.counts.instructions x.cfg.steps)))
  entered m n may None attempt old now e f reach = not_held may attempt f reach
    where
      lone : (may : Bool) → IsAccessOf c.program objects s Lock (Load m) → Result (slice_set s.words m (slice_index s.words m)) (enter_moves x m n may HasNot (slice_index s.words m))
      lone true k = loaded m _ (tried m n (lock_of (slice_index s.words m)) old now (lock_here m (lock_reached c.program objects s (Load m) k)))
      lone false k = loaded m _ (acquired m (lock_of (slice_index s.words m)) old (lock_here m (lock_reached c.program objects s (Load m) k)))

      by_attempt : (may b : Bool) (q : Attempt) → x.attempt ≡ Some q → ReachesIf c.program objects s Lock (enter_wants m (cond b (Tries q) HasNot))
          → Result (words_after s.words (enter_wants m (cond b (Tries q) HasNot))) (enter_moves x m n may (cond b (Tries q) HasNot) (found_by s.words (enter_wants m (cond b (Tries q) HasNot))))
      by_attempt may true q f k = plain _ refl refl (omega arith) (subst (LooksBack (Some (record q { inner = q.inner + 1 }))) (sym f) (refl, refl)) (counted_plain was _ old (runs_plain (nat_lt x.counts.instructions x.cfg.steps)))
      by_attempt may false q f k = lone may k

      not_held : (may : Bool) (attempt : Option Attempt) → x.attempt ≡ attempt → ReachesIf c.program objects s Lock (enter_wants m (claim_by m None attempt))
          → Result (words_after s.words (enter_wants m (claim_by m None attempt))) (enter_moves x m n may (claim_by m None attempt) (found_by s.words (enter_wants m (claim_by m None attempt))))
      not_held may None f k = lone may k
      not_held may (Some q) f k = by_attempt may (q.monitor == m) q f k
