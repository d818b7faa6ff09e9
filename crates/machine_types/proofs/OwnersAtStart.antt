-- Owners at the start of a run: the lock word of each object is 0.
use Rattle.std.proofs.Common.{◌≡◌, ℕ, zero, suc, ◌+◌, Bool, true, false, List, [], ◌∷◌, Option, Some, None, refl, ap, subst, arith, map, slice_index, ◌==◌, ◌||◌, if◌then◌else◌, slice_get}
use Rattle.std.{specs.List.range_with_len, proofs.lemmas.Bool.eqb-true}
use Rattle.jvm_types.specs.Numbers.{has_number}
use Rattle.checked_program.specs.MarkedProgram.{MarkedProgram}
use Rattle.machine_types.specs.{Core.{start, start_thread}, HeldMonitors.held_at, LockWords.lock_of}
use Rattle.machine_types.specs.{Owners.{Locks, lock_at, locks_in, NotHeld, hold_by_word, hold_by_list, drawn_by, Owns, flat_holders, one_if_flat, references_of, Owners}, Parts.init_roots}
use Rattle.machine_types.specs.{PlainMemory.{Object, start_objects}, StartLaws.{phase_at_start, StartOwns}, StartWords.start_words, Threads.{Thread, fresh}, declared.config.Config.Config}
use Rattle.machine_types.{specs.declared.{lock.{Held.Held, LockWord.LockWord}, phase.Phase.Phase}, proofs.AtStart.{IsFreshPhase, starts, idles, is_over, is_start_thread, phase_is_fresh}}
use Rattle.machine_types.proofs.WordsAtStart.{lock_is_free}
use Rattle.machine_types.specs.declared.lock.LockWord.TheVariants as locks
use Rattle.machine_types.specs.declared.phase.Phase.TheVariants as phases

-- ---- owners, where the lock word of each object is 0

free_at : (references words : List ℕ) → ((m : ℕ) → has_number references m ≡ true → slice_index words m ≡ 0) → (m : ℕ) → lock_at references words m ≡ locks.Free 0
free_at references words zeros m = by_test (has_number references m) refl
  where
    by_test : (b : Bool) → has_number references m ≡ b → (if b then lock_of (slice_index words m) else locks.Free 0) ≡ locks.Free 0
    by_test true e = ap lock_of (zeros m e)
    by_test false e = refl

not_fat : (r : ℕ) (lock : LockWord) → lock ≡ locks.Free 0 → lock ≡ locks.Fat r → ⊥
not_fat r lock e h = cc

count_of_free : (lock : LockWord) (seen : ℕ) → lock ≡ locks.Free 0 → lock ≡ locks.Free seen → seen ≡ 0
count_of_free lock seen e h = cc

held_at_start : (c : MarkedProgram) (cfg : Config) (t m : ℕ) → held_at (start_thread c cfg t).held m ≡ None
held_at_start c cfg zero m = refl
held_at_start c cfg (suc t) m = refl

none_flat : (c : MarkedProgram) (cfg : Config) (m from n : ℕ) → flat_holders m (map (start_thread c cfg) (range_with_len from n)) ≡ 0
none_flat c cfg m from zero = refl
none_flat c cfg m from (suc n) =
    let h : one_if_flat (hold_by_list (held_at (start_thread c cfg from).held m)) ≡ 0 = ap (λ (o : Option Held). one_if_flat (hold_by_list o)) (held_at_start c cfg from m) in
    let k : flat_holders m (map (start_thread c cfg) (range_with_len (from + 1) n)) ≡ 0 = none_flat c cfg m (from + 1) n in
    grind arith

none_by_word : (t : ℕ) (lock : LockWord) (owner : ℕ → ℕ) → lock ≡ locks.Free 0 → hold_by_word t lock owner ≡ NotHeld
none_by_word t lock owner e = ap (λ (l : LockWord). hold_by_word t l owner) e

none_drawn : (phase : Phase) (r : ℕ) → IsFreshPhase phase → drawn_by phase ≡ Some r → ⊥
none_drawn _ r starts e = cc
none_drawn _ r idles e = cc
none_drawn _ r is_over e = cc

fresh_owns : (v : Locks) (c : MarkedProgram) (cfg : Config) (t i : ℕ) (phase : Phase) (roots : List ℕ) → IsFreshPhase phase → ((m : ℕ) → v.lock m ≡ locks.Free 0) → Owns v (λ m. 0) t phase (fresh c cfg i phase roots)
fresh_owns v c cfg t i _ roots starts free = record { holds = λ m. none_by_word t (v.lock m) v.owner (free m); knows = tt; keeps_count = λ m. tt; take = tt; attempt = tt }
fresh_owns v c cfg t i _ roots idles free = record { holds = λ m. none_by_word t (v.lock m) v.owner (free m); knows = tt; keeps_count = λ m. tt; take = tt; attempt = tt }
fresh_owns v c cfg t i _ roots is_over free = record { holds = λ m. none_by_word t (v.lock m) v.owner (free m); knows = tt; keeps_count = λ m. tt; take = tt; attempt = tt }

start_owns : (v : Locks) (c : MarkedProgram) (cfg : Config) (t : ℕ) → ((m : ℕ) → v.lock m ≡ locks.Free 0) → Owns v (λ m. 0) t (phase_at_start c cfg t) (start_thread c cfg t)
start_owns v c cfg zero free = fresh_owns v c cfg 0 0 (phase_at_start c cfg 0) (init_roots c.program) (phase_is_fresh c cfg 0) free
start_owns v c cfg (suc t) free = fresh_owns v c cfg (suc t) (suc t) phases.Idle [] idles free

owns : (references : List ℕ) (c : MarkedProgram) (cfg : Config) → ((m : ℕ) → has_number references m ≡ true → slice_index (start_words c.program) m ≡ 0) → Owners references (phase_at_start c cfg) (start c cfg)
owns references c cfg zeros = record {
  count = λ m. 0;
  locks_are = record {
    one = λ m n r e h. absurd (not_fat r (lock_at references (start_words c.program) m) (free m) e);
    below = λ m r e. absurd (not_fat r (lock_at references (start_words c.program) m) (free m) e);
    free = λ m seen e. count_of_free (lock_at references (start_words c.program) m) seen (free m) e;
  };
  each = λ t x e. subst (λ (y : Thread). Owns (locks_in references (start_words c.program)) (λ m. 0) t (phase_at_start c cfg t) y) (is_start_thread c cfg t x e) (start_owns (locks_in references (start_words c.program)) c cfg t free);
  apart = λ t u x y e h ne r d g. none_drawn x.phase r (subst (λ (z : Thread). IsFreshPhase z.phase) (is_start_thread c cfg t x e) (phase_is_fresh c cfg t)) d;
  within = λ m t x e. grind arith;
  few = λ m. let k : flat_holders m (start c cfg).threads ≡ 0 = none_flat c cfg m 0 (c.program.workers + 1) in grind arith;
}
  where
    free : (m : ℕ) → lock_at references (start_words c.program) m ≡ locks.Free 0
    free m = free_at references (start_words c.program) zeros m

-- ---- the lock word of each object is 0

among : (objects : List Object) (m : ℕ) → has_number (references_of objects) m ≡ true → (i : ℕ) × (o : Object) × (slice_get objects i ≡ Some o) × (o.reference ≡ m)
among [] m e = cc
among (o ∷ os) m e = by_test (o.reference == m) refl e (among os m)
  where
    by_test : (b : Bool) → (o.reference == m) ≡ b → b || has_number (references_of os) m ≡ true → (has_number (references_of os) m ≡ true → (i : ℕ) × (x : Object) × (slice_get os i ≡ Some x) × (x.reference ≡ m))
        → (i : ℕ) × (x : Object) × (slice_get (o ∷ os) i ≡ Some x) × (x.reference ≡ m)
    by_test true k h more = (0, o, refl, eqb-true o.reference m k)
    by_test false k h more = let x = more h in (suc x.0, x.1, x.2, x.3)

pub start_owns_all : StartOwns
start_owns_all c cfg is = owns (references_of (start_objects c.program)) c cfg (λ m e. let x = among (start_objects c.program) m e in subst (λ (n : ℕ). slice_index (start_words c.program) n ≡ 0) x.3 (lock_is_free c.program is x.0 x.1 x.2))
