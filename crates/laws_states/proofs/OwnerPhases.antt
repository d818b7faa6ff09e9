-- What the phases owe in which a lock or a record changes its owner.
use Rattle.std.proofs.Common.{◌≡◌, ℕ, zero, suc, ◌+◌, ◌<◌, nat_lt, Bool, true, false, cond, List, Option, Some, None, refl, sym, ap, ◌∙◌, subst, arith, slice_index, slice_set, ◌==◌}
use Rattle.jvm_types.specs.declared.{fixed_words.TheConstants.{NEXT_RECORD_WORD, MONITOR_RECORDS}, program.Program.Program}
use Rattle.machine_types.specs.{Accesses.{found_by, words_after}, Elision.{is_same, fails, elided}, FoundWords.{Lock, leave_content}, Going.{failed_turn, with_phase, goes_on_if, goes_after}}
use Rattle.machine_types.specs.{HeldMonitors.{held_at, with_held, without_held, shallower}, LockWords.{word_of_lock, next_count}}
use Rattle.machine_types.specs.Monitors.{Has, Tries, HasNot, claim_by, takes, freed, release, leave_wants, leave_moves, released, finish_wants, finishes, lets_go, grows_not, count_kept, fattens, grown, goes_to_wait, retakes}
use Rattle.machine_types.specs.{Onward.{Onward, after}, Owners.{Knows, PhaseSaw, hold_by_kept, hold_by_list, drawn_by, locks_in, references_of}, Structure.{IsFlat, IsFat}, Threads.{Attempt, Thread}}
use Rattle.machine_types.specs.{Words.owner_word, declared.{access.Access.TheVariants.{Store, Cas}, lock.{Held.Held, Kept.Kept, LockWord.LockWord}, phase.{After.After, Phase.Phase, Toward.Toward}}}
use Rattle.laws_threads.{specs.StructureLaws.counted_by, proofs.ThreadMove.{if_either, same_onward}}
use Rattle.laws_states.{specs.Sites.{HasObject, IsAccessOf, ReachesIf}, proofs.CountedPhases.{IsPlain, plain_knows, plain_saw, plain_draws_none, counted_plain}}
use Rattle.laws_states.proofs.{LockPhases.{Result, on_view, loaded, plain, by_tally, knowing, refitted, lock_is, owner_none, lock_reached}, LockViews.{set_lock, set_owner, recounted, fatly}}
use Rattle.laws_states.proofs.{Movers.{KnownSites, LockMover, OwnsAs}, OwnersEvents.{Became, take_won, flag_won, let_go, fat_in, drawn_next, fresh_record, own_stored, record_taken, record_left}}
use Rattle.laws_states.proofs.{PlainMoves.{same_look, finished, goes_if, goes_attempt}, SameTally.{Tally, tally_of}, WordViews.{lock_of_word, lock_view, owner_view, next_view}}
use Rattle.jvm_types.specs.declared.outcome.End.TheVariants as ends
use Rattle.machine_types.specs.declared.lock.Kept.TheVariants as keeps
use Rattle.machine_types.specs.declared.lock.LockWord.TheVariants as locks
use Rattle.machine_types.specs.declared.phase.Phase.TheVariants as phases
use Rattle.machine_types.specs.declared.phase.Toward.TheVariants as towards
use Rattle.laws_states.proofs.SameTally as tallies

-- ---- threads that go on

pub goes_cfg : (s : Thread) (o : Option Onward) → (goes_on_if s o).cfg ≡ s.cfg
goes_cfg = same_onward (λ (s : Thread). s.cfg) (λ s frames phase turns. refl)

finished_cfg : (p : Program) (s : Thread) (a : After) (t : Attempt) (inner got : ℕ) → (finishes p s a t inner got).cfg ≡ s.cfg
finished_cfg p s a t zero got = if_either (λ (y : Thread). y.cfg ≡ s.cfg) (is_same t got) (goes_after p (elided s) a) (fails s t) (goes_cfg (elided s) (after p s.frames a)) refl
finished_cfg p s a t (suc inner) got = goes_cfg (record s { attempt = Some (record t { inner = inner }) }) (after p s.frames a)

-- where it has left a monitor
became_after : (x : Thread) (held : List Held) (o : Option Onward) → Became x (goes_on_if (record x { held = held }) o) held 0
became_after x held o =
    let y : Thread = record x { held = held } in
    let same : tally_of (goes_on_if y o) ≡ tally_of y = tallies.goes_if y o in
    record {
      held_is = ap (λ (g : Tally). g.held) same;
      attempt = goes_attempt y o;
      cfg = goes_cfg y o;
      locked = let locked : (goes_on_if y o).counts.locked ≡ x.counts.locked = ap (λ (g : Tally). g.locked) same in omega (arith, locked);
    }

pub runs_counted : (was : Phase) (b : Bool) → IsPlain (counted_by was (cond b phases.Run (phases.Ending ends.Steps)))
runs_counted was true = tt
runs_counted was false = tt

module _ (sites : KnownSites) (mover : LockMover) where
  open sites use {differ, inside}
  open mover use {t, x, structured, number, state.{owners.{count, locks_are}, base.heap.{c, marked, objects, s, facts}}}

  abbrev pub Makes : (phase : Phase) → OwnsAs mover phase → (words : List ℕ) → Thread → Type 0
  Makes phase o words y = Result mover phase o words y

  goes_plain : (held : List Held) (o : Option Onward) (was : Phase) → IsPlain was → IsPlain x.phase → IsPlain (counted_by was (goes_on_if (record x { held = held }) o).phase)
  goes_plain held o was old now = let p = goes_if x.attempt (record x { held = held }) o now (same_look x.attempt) in counted_plain was (goes_on_if (record x { held = held }) o).phase old p.phase

  -- ---- a free lock

  pub took : (m seen : ℕ) (o : OwnsAs mover (phases.Take m seen)) → IsAccessOf c.program objects s Lock (Cas m (word_of_lock (locks.Free seen)) (word_of_lock (locks.Held x.number)))
      → Makes (phases.Take m seen) o (slice_set s.words m (cond (slice_index s.words m == word_of_lock (locks.Free seen)) (word_of_lock (locks.Held x.number)) (slice_index s.words m)))
      (cond (slice_index s.words m == word_of_lock (locks.Free seen)) (takes x m (keeps.Flat seen)) (failed_turn x (phases.Acquire m)))
  took m seen o reach = by_test (slice_index s.words m == word_of_lock (locks.Free seen)) refl
    where
      there : HasObject objects m
      there = lock_reached c.program objects s (Cas m (word_of_lock (locks.Free seen)) (word_of_lock (locks.Held x.number))) reach

      view : locks_in (references_of objects) (slice_set s.words m (word_of_lock (locks.Held x.number))) ≡ set_lock m (locks.Held t) (locks_in (references_of objects) s.words)
      view = lock_view differ inside c objects s marked facts m (word_of_lock (locks.Held x.number)) there
          ∙ ap (λ (l : LockWord). set_lock m l (locks_in (references_of objects) s.words)) (lock_of_word (locks.Held x.number) ∙ ap locks.Held number)

      by_test : (b : Bool) → (slice_index s.words m == word_of_lock (locks.Free seen)) ≡ b → Makes (phases.Take m seen) o (slice_set s.words m (cond b (word_of_lock (locks.Held x.number)) (slice_index s.words m)))
          (cond b (takes x m (keeps.Flat seen)) (failed_turn x (phases.Acquire m)))
      by_test true e = on_view mover (phases.Take m seen) o _ _ (takes x m (keeps.Flat seen)) (recounted m (count m) count) view
          (take_won mover (phases.Take m seen) o (takes x m (keeps.Flat seen)) (counted_by (phases.Take m seen) (takes x m (keeps.Flat seen)).phase) m seen
          (lock_is mover (phases.Take m seen) o m (locks.Free seen) there e)
          (record { held_is = refl; attempt = refl; cfg = refl; locked = refl }) (runs_counted (phases.Take m seen) (nat_lt x.counts.instructions x.cfg.steps)))
      by_test false e = loaded mover (phases.Take m seen) o m (failed_turn x (phases.Acquire m))
          (plain mover (phases.Take m seen) o (failed_turn x (phases.Acquire m)) refl refl (omega arith) (same_look x.attempt) (elim (nat_lt (x.turns + 1) x.cfg.turns) as
          (λ (b : Bool). IsPlain (counted_by (phases.Take m seen) (cond b (phases.Acquire m) (phases.Ending ends.Turns))))
          [ true ↦ tt | false ↦ tt ]))

  -- ---- a flag

  pub flagged : (m u : ℕ) (o : OwnsAs mover (phases.Flag m u)) → IsAccessOf c.program objects s Lock (Cas m (word_of_lock (locks.Held u)) (word_of_lock (locks.Flagged u)))
      → Makes (phases.Flag m u) o (slice_set s.words m (cond (slice_index s.words m == word_of_lock (locks.Held u)) (word_of_lock (locks.Flagged u)) (slice_index s.words m))) (with_phase x (phases.Acquire m))
  flagged m u o reach = by_test (slice_index s.words m == word_of_lock (locks.Held u)) refl
    where
      there : HasObject objects m
      there = lock_reached c.program objects s (Cas m (word_of_lock (locks.Held u)) (word_of_lock (locks.Flagged u))) reach

      by_test : (b : Bool) → (slice_index s.words m == word_of_lock (locks.Held u)) ≡ b → Makes (phases.Flag m u) o (slice_set s.words m (cond b (word_of_lock (locks.Flagged u)) (slice_index s.words m))) (with_phase x (phases.Acquire m))
      by_test true e = on_view mover (phases.Flag m u) o _ _ (with_phase x (phases.Acquire m)) (recounted m (count m) count)
          (lock_view differ inside c objects s marked facts m (word_of_lock (locks.Flagged u)) there ∙ ap (λ (l : LockWord). set_lock m l (locks_in (references_of objects) s.words)) (lock_of_word (locks.Flagged u)))
          (flag_won mover (phases.Flag m u) o (with_phase x (phases.Acquire m)) (phases.Acquire m) m u
          (lock_is mover (phases.Flag m u) o m (locks.Held u) there e)
          (record { held_is = refl; attempt = refl; cfg = refl; locked = omega arith }) tt)
      by_test false e = loaded mover (phases.Flag m u) o m (with_phase x (phases.Acquire m))
          (plain mover (phases.Flag m u) o (with_phase x (phases.Acquire m)) refl refl (omega arith) (same_look x.attempt) tt)

  -- ---- a record without an owner

  -- it has failed to get it, and tries again
  turned : (was : Phase) (o : OwnsAs mover was) → counted_by was was ≡ was → counted_by was (phases.Ending ends.Turns) ≡ was → Makes was o s.words (failed_turn x was)
  turned was o again over = elim (nat_lt (x.turns + 1) x.cfg.turns) as (λ (b : Bool). Makes was o s.words (record x { turns = x.turns + 1; phase = cond b was (phases.Ending ends.Turns) }))
      [ true ↦ at was again | false ↦ at (phases.Ending ends.Turns) over ]
    where
      at : (now : Phase) → counted_by was now ≡ was → Makes was o s.words (record x { turns = x.turns + 1; phase = now })
      at now e = knowing mover was o (record x { turns = x.turns + 1; phase = now }) refl refl refl refl
          (subst (Knows (locks_in (references_of objects) s.words) t) (sym e) o.knows) (subst (PhaseSaw (locks_in (references_of objects) s.words) count) (sym e) o.take) (λ i d. subst (λ (p : Phase). drawn_by p ≡ Some i) e d)

  -- or it has got it
  got_record : (was : Phase) (m r depth taken : ℕ) (y : Thread) (o : OwnsAs mover was) → (locks_in (references_of objects) s.words).lock m ≡ locks.Fat r
      → Became x y (with_held (record { monitor = m; kept = keeps.Fat r; depth = depth }) x.held) taken → IsPlain (counted_by was y.phase) → Makes was o s.words (failed_turn x was)
      → Makes was o (slice_set s.words (owner_word r) (cond (slice_index s.words (owner_word r) == 0) (x.number + 1) (slice_index s.words (owner_word r)))) (cond (slice_index s.words (owner_word r) == 0) y (failed_turn x was))
  got_record was m r depth taken y o fat became plain failed = by_test (slice_index s.words (owner_word r) == 0) refl
    where
      low : r < MONITOR_RECORDS
      low = (locks_are.below m r fat).1

      by_test : (b : Bool) → (slice_index s.words (owner_word r) == 0) ≡ b → Makes was o (slice_set s.words (owner_word r) (cond b (x.number + 1) (slice_index s.words (owner_word r)))) (cond b y (failed_turn x was))
      by_test true e = on_view mover was o _ _ y count
          (owner_view differ inside c objects s marked facts r (x.number + 1) low ∙ ap (λ (n : ℕ). set_owner r (n + 1) (locks_in (references_of objects) s.words)) number)
          (record_taken mover was o y (counted_by was y.phase) m r depth taken fat (owner_none mover was o r low e) became plain)
      by_test false e = loaded mover was o (owner_word r) (failed_turn x was) failed

  pub took_fat : (m r : ℕ) (o : OwnsAs mover (phases.TakeFat m r))
      → Makes (phases.TakeFat m r) o (slice_set s.words (owner_word r) (cond (slice_index s.words (owner_word r) == 0) (x.number + 1) (slice_index s.words (owner_word r))))
      (cond (slice_index s.words (owner_word r) == 0) (takes x m (keeps.Fat r)) (failed_turn x (phases.TakeFat m r)))
  took_fat m r o = got_record (phases.TakeFat m r) m r 1 1 (takes x m (keeps.Fat r)) o o.knows (record { held_is = refl; attempt = refl; cfg = refl; locked = refl })
      (runs_counted (phases.TakeFat m r) (nat_lt x.counts.instructions x.cfg.steps)) (turned (phases.TakeFat m r) o refl refl)

  pub retook : (m r depth : ℕ) (o : OwnsAs mover (phases.Retake m r depth))
      → Makes (phases.Retake m r depth) o (slice_set s.words (owner_word r) (cond (slice_index s.words (owner_word r) == 0) (x.number + 1) (slice_index s.words (owner_word r))))
      (cond (slice_index s.words (owner_word r) == 0) (retakes x m r depth) (failed_turn x (phases.Retake m r depth)))
  retook m r depth o = got_record (phases.Retake m r depth) m r depth 0 (retakes x m r depth) o o.knows (record { held_is = refl; attempt = refl; cfg = refl; locked = omega arith })
      (runs_counted (phases.Retake m r depth) (nat_lt x.counts.instructions x.cfg.steps)) (turned (phases.Retake m r depth) o refl refl)

  -- ---- a thread that waits looks

  pub waited : (m r depth : ℕ) (flag : Bool) (o : OwnsAs mover (phases.WaitLook m r depth)) → Makes (phases.WaitLook m r depth) o s.words (cond flag (failed_turn x (phases.WaitLook m r depth)) (with_phase x (phases.Retake m r depth)))
  waited m r depth false o = knowing mover (phases.WaitLook m r depth) o (with_phase x (phases.Retake m r depth)) refl refl refl refl o.knows tt (λ i e. e)
  waited m r depth true o = turned (phases.WaitLook m r depth) o refl refl

  -- ---- a monitor is left

  freed_view : (m n : ℕ) → HasObject objects m → locks_in (references_of objects) (slice_set s.words m (freed x n)) ≡ set_lock m (locks.Free (next_count n x.cfg.range)) (locks_in (references_of objects) s.words)
  freed_view m n there = lock_view differ inside c objects s marked facts m (freed x n) there ∙ ap (λ (l : LockWord). set_lock m l (locks_in (references_of objects) s.words)) (lock_of_word (locks.Free (next_count n x.cfg.range)))

  let_flat : (was : Phase) (o : OwnsAs mover was) (m n : ℕ) (h : Held) (after_it : After) → IsPlain was → IsPlain x.phase → held_at x.held m ≡ Some h → h.kept ≡ keeps.Flat n → HasObject objects m
      → Makes was o (slice_set s.words m (freed x n)) (lets_go c.program x m after_it)
  let_flat was o m n h after_it old now e f there = on_view mover was o _ _ (lets_go c.program x m after_it) (recounted m (next_count n x.cfg.range) count) (freed_view m n there)
      (let_go mover was o (lets_go c.program x m after_it) (counted_by was (lets_go c.program x m after_it).phase) m n h e f structured.stands.once
      (became_after x (without_held m x.held) (after c.program x.frames after_it)) (goes_plain (without_held m x.held) (after c.program x.frames after_it) was old now))

  pub left : (m : ℕ) (after_it : After) (held : Option Held) (attempt : Option Attempt) (o : OwnsAs mover (phases.Leave m after_it)) → IsPlain x.phase → held_at x.held m ≡ held → x.attempt ≡ attempt
      → ReachesIf c.program objects s (leave_content (claim_by m held attempt)) (leave_wants x m (claim_by m held attempt))
      → Makes (phases.Leave m after_it) o (words_after s.words (leave_wants x m (claim_by m held attempt))) (leave_moves c.program x m after_it (claim_by m held attempt) (found_by s.words (leave_wants x m (claim_by m held attempt))))
  left m after_it (Some h) attempt o now e f reach = by_depth (nat_lt 1 h.depth) reach
    where
      by_kept : (k : Kept) → h.kept ≡ k → ReachesIf c.program objects s (leave_content (Has (record h { kept = k }))) (Some (release x m k))
          → Makes (phases.Leave m after_it) o (words_after s.words (Some (release x m k))) (released c.program x m after_it k (found_by s.words (Some (release x m k))))
      by_kept (keeps.Flat n) g reach = by_test (slice_index s.words m == word_of_lock (locks.Held x.number)) refl
        where
          there : HasObject objects m
          there = lock_reached c.program objects s (Cas m (word_of_lock (locks.Held x.number)) (freed x n)) reach

          by_test : (b : Bool) → (slice_index s.words m == word_of_lock (locks.Held x.number)) ≡ b
              → Makes (phases.Leave m after_it) o (slice_set s.words m (cond b (freed x n) (slice_index s.words m))) (cond b (lets_go c.program x m after_it) (with_phase x (phases.Grow m (towards.Leave after_it))))
          by_test true i = let_flat (phases.Leave m after_it) o m n h after_it tt now e g there
          by_test false i = loaded mover (phases.Leave m after_it) o m (with_phase x (phases.Grow m (towards.Leave after_it)))
              (plain mover (phases.Leave m after_it) o (with_phase x (phases.Grow m (towards.Leave after_it))) refl refl (omega arith) (same_look x.attempt) tt)
      by_kept (keeps.Fat r) g reach =
          let fat = fatly t ((locks_in (references_of objects) s.words).lock m) (locks_in (references_of objects) s.words).owner r (o.holds m ∙ ap hold_by_list e ∙ ap hold_by_kept g) in
          on_view mover (phases.Leave m after_it) o _ _ (lets_go c.program x m after_it) count
          (owner_view differ inside c objects s marked facts r 0 (locks_are.below m r fat.0).1)
          (record_left mover (phases.Leave m after_it) o (lets_go c.program x m after_it) (counted_by (phases.Leave m after_it) (lets_go c.program x m after_it).phase) m r h e g structured.stands.once
          (became_after x (without_held m x.held) (after c.program x.frames after_it))
          (λ w i. plain_knows w t _ is) (λ w. plain_saw w count _ is) (λ i d. let none : drawn_by (counted_by (phases.Leave m after_it) (lets_go c.program x m after_it).phase) ≡ None = plain_draws_none _ is in cc))
        where
          is : IsPlain (counted_by (phases.Leave m after_it) (lets_go c.program x m after_it).phase)
          is = goes_plain (without_held m x.held) (after c.program x.frames after_it) (phases.Leave m after_it) tt now

      by_depth : (b : Bool) → ReachesIf c.program objects s (leave_content (Has h)) (cond b None (Some (release x m h.kept)))
          → Makes (phases.Leave m after_it) o (words_after s.words (cond b None (Some (release x m h.kept))))
          (cond b (goes_on_if (record x { held = with_held (shallower h) x.held }) (after c.program x.frames after_it)) (released c.program x m after_it h.kept (found_by s.words (cond b None (Some (release x m h.kept))))))
      by_depth true reach = refitted mover (phases.Leave m after_it) o h (shallower h) m _ e refl refl
          (became_after x (with_held (shallower h) x.held) (after c.program x.frames after_it)) (goes_plain (with_held (shallower h) x.held) (after c.program x.frames after_it) (phases.Leave m after_it) tt now)
      by_depth false reach = by_kept h.kept refl reach
  left m after_it None None o now e f reach = plain mover (phases.Leave m after_it) o x refl refl (omega arith) (same_look x.attempt) (counted_plain (phases.Leave m after_it) x.phase tt now)
  left m after_it None (Some q) o now e f reach = elim (q.monitor == m) as
      (λ (b : Bool). Makes (phases.Leave m after_it) o (words_after s.words (leave_wants x m (cond b (Tries q) HasNot))) (leave_moves c.program x m after_it (cond b (Tries q) HasNot) (found_by s.words (leave_wants x m (cond b (Tries q) HasNot)))))
      [ true ↦ by_inner q.inner | false ↦ plain mover (phases.Leave m after_it) o x refl refl (omega arith) (same_look x.attempt) (counted_plain (phases.Leave m after_it) x.phase tt now) ]
    where
      by_inner : (inner : ℕ) → Makes (phases.Leave m after_it) o (words_after s.words (finish_wants m inner)) (finishes c.program x after_it q inner (found_by s.words (finish_wants m inner)))
      by_inner zero = loaded mover (phases.Leave m after_it) o m _
          (by_tally mover (phases.Leave m after_it) o _ (tallies.finished c.program x after_it q zero (slice_index s.words m)) (finished_cfg c.program x after_it q zero (slice_index s.words m))
          (finished c.program x after_it q zero (slice_index s.words m) now f) tt)
      by_inner (suc inner) = by_tally mover (phases.Leave m after_it) o _ (tallies.finished c.program x after_it q (suc inner) 0) (finished_cfg c.program x after_it q (suc inner) 0)
          (finished c.program x after_it q (suc inner) 0 now f) tt

  -- ---- a flat lock that cannot grow is left as it is

  pub flat_out : (m : ℕ) (after_it : After) (held : Option Held) (o : OwnsAs mover (phases.FlatOut m after_it)) → IsPlain x.phase → held_at x.held m ≡ held → IsFlat held
      → IsAccessOf c.program objects s Lock (Store m (freed x (count_kept held))) → Makes (phases.FlatOut m after_it) o (slice_set s.words m (freed x (count_kept held))) (lets_go c.program x m after_it)
  flat_out m after_it None o now e flat reach = absurd flat
  flat_out m after_it (Some h) o now e flat reach =
      let same : count_kept (Some h) ≡ flat.0 = ap (λ (k : Kept). count_kept (Some (record h { kept = k }))) flat.1 in
      subst (λ (n : ℕ). Makes (phases.FlatOut m after_it) o (slice_set s.words m (freed x n)) (lets_go c.program x m after_it)) (sym same)
      (let_flat (phases.FlatOut m after_it) o m flat.0 h after_it tt now e flat.1 (lock_reached c.program objects s (Store m (freed x (count_kept (Some h)))) reach))

  -- ---- a lock grows

  pub drawn : (m : ℕ) (toward : Toward) (o : OwnsAs mover (phases.Grow m toward))
      → Makes (phases.Grow m toward) o (slice_set s.words NEXT_RECORD_WORD (slice_index s.words NEXT_RECORD_WORD + 1)) (cond (nat_lt (slice_index s.words NEXT_RECORD_WORD) MONITOR_RECORDS) (with_phase x (phases.Own m (slice_index s.words NEXT_RECORD_WORD) toward)) (grows_not x m toward))
  drawn m toward o = by_test (nat_lt (slice_index s.words NEXT_RECORD_WORD) MONITOR_RECORDS)
    where
      none_left : (toward : Toward) (o : OwnsAs mover (phases.Grow m toward)) → Makes (phases.Grow m toward) o (slice_set s.words NEXT_RECORD_WORD (slice_index s.words NEXT_RECORD_WORD + 1)) (grows_not x m toward)
      none_left (towards.Leave after_it) o = on_view mover (phases.Grow m (towards.Leave after_it)) o _ _ (grows_not x m (towards.Leave after_it)) count (next_view differ inside c objects s marked facts (slice_index s.words NEXT_RECORD_WORD + 1))
          (drawn_next mover (phases.Grow m (towards.Leave after_it)) o (grows_not x m (towards.Leave after_it)) (phases.FlatOut m after_it)
          (record { held_is = refl; attempt = refl; cfg = refl; locked = omega arith }) tt tt (λ i e. absurd (cc)))
      none_left towards.Wait o = on_view mover (phases.Grow m towards.Wait) o _ _ (grows_not x m towards.Wait) count (next_view differ inside c objects s marked facts (slice_index s.words NEXT_RECORD_WORD + 1))
          (drawn_next mover (phases.Grow m towards.Wait) o (grows_not x m towards.Wait) (phases.Grow m towards.Wait)
          (record { held_is = refl; attempt = refl; cfg = refl; locked = omega arith }) tt tt (λ i e. absurd (cc)))

      by_test : (b : Bool) → Makes (phases.Grow m toward) o (slice_set s.words NEXT_RECORD_WORD (slice_index s.words NEXT_RECORD_WORD + 1)) (cond b (with_phase x (phases.Own m (slice_index s.words NEXT_RECORD_WORD) toward)) (grows_not x m toward))
      by_test true = let y : Thread = with_phase x (phases.Own m (slice_index s.words NEXT_RECORD_WORD) toward) in
          on_view mover (phases.Grow m toward) o _ _ y count (next_view differ inside c objects s marked facts (slice_index s.words NEXT_RECORD_WORD + 1))
          (drawn_next mover (phases.Grow m toward) o y (phases.Own m (slice_index s.words NEXT_RECORD_WORD) toward)
          (record { held_is = refl; attempt = refl; cfg = refl; locked = omega arith })
          (fresh_record mover (phases.Grow m toward) o y (phases.Own m (slice_index s.words NEXT_RECORD_WORD) toward)) tt
          (λ i e. let same : slice_index s.words NEXT_RECORD_WORD ≡ i = cc in omega (arith, same)))
      by_test false = none_left toward o

  pub owned : (m r : ℕ) (toward : Toward) (o : OwnsAs mover (phases.Own m r toward)) → r < MONITOR_RECORDS → Makes (phases.Own m r toward) o (slice_set s.words (owner_word r) (x.number + 1)) (with_phase x (phases.FatIn m r toward))
  owned m r toward o low = on_view mover (phases.Own m r toward) o _ _ (with_phase x (phases.FatIn m r toward)) count
      (owner_view differ inside c objects s marked facts r (x.number + 1) low ∙ ap (λ (n : ℕ). set_owner r (n + 1) (locks_in (references_of objects) s.words)) number)
      (own_stored mover (phases.Own m r toward) o (with_phase x (phases.FatIn m r toward)) (phases.FatIn m r toward) r o.knows refl
      (record { held_is = refl; attempt = refl; cfg = refl; locked = omega arith }) (λ w d e. (d, e)) (λ w. tt) (λ i e. e))

  pub fattened : (m r : ℕ) (toward : Toward) (held : Option Held) (o : OwnsAs mover (phases.FatIn m r toward)) → r < MONITOR_RECORDS → held_at x.held m ≡ held → IsFlat held → IsAccessOf c.program objects s Lock (Store m (word_of_lock (locks.Fat r)))
      → Makes (phases.FatIn m r toward) o (slice_set s.words m (word_of_lock (locks.Fat r))) (fattens x m r toward held)
  fattened m r toward None o low e flat reach = absurd flat
  fattened m r toward (Some h) o low e flat reach = let y : Thread = fattens x m r toward (Some h) in
      on_view mover (phases.FatIn m r toward) o _ _ y (recounted m (count m) count)
      (lock_view differ inside c objects s marked facts m (word_of_lock (locks.Fat r)) (lock_reached c.program objects s (Store m (word_of_lock (locks.Fat r))) reach) ∙ ap (λ (l : LockWord). set_lock m l (locks_in (references_of objects) s.words)) (lock_of_word (locks.Fat r)))
      (fat_in mover (phases.FatIn m r toward) o y (counted_by (phases.FatIn m r toward) (grown m r toward)) m r h o.knows.0 low o.knows.1 refl e (ap hold_by_kept flat.1)
      (record { held_is = refl; attempt = refl; cfg = refl; locked = omega arith }) (elim toward as (λ (toward : Toward). IsPlain (counted_by (phases.FatIn m r toward) (grown m r toward)))
      [ towards.Leave after_it ↦ tt | towards.Wait ↦ tt ]))

  -- ---- a wait gives the monitor up

  pub gone_out : (m r : ℕ) (held : Option Held) (o : OwnsAs mover (phases.WaitOut m r)) → r < MONITOR_RECORDS → held_at x.held m ≡ held → IsFat r held → Makes (phases.WaitOut m r) o (slice_set s.words (owner_word r) 0) (goes_to_wait x m r held)
  gone_out m r None o low e fat = absurd fat
  gone_out m r (Some h) o low e fat = let y : Thread = goes_to_wait x m r (Some h) in
      on_view mover (phases.WaitOut m r) o _ _ y count (owner_view differ inside c objects s marked facts r 0 low)
      (record_left mover (phases.WaitOut m r) o y (phases.WaitLook m r h.depth) m r h e fat structured.stands.once
      (record { held_is = refl; attempt = refl; cfg = refl; locked = omega arith }) (λ w i. i) (λ w. tt) (λ i d. cc))
