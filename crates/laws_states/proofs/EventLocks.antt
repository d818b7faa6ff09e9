-- Whatever event happens, a fat lock stays fat, and a lock gets free by its holder alone.
use Rattle.std.proofs.Common.{⊎_elim, ◌≡◌, ◌⊎◌, inl, inr, ℕ, zero, suc, ◌+◌, ◌<◌, nat_lt, Bool, true, false, cond, List, Option, Some, None, refl, sym, ap, ◌∙◌, subst, ◌==◌, slice_index, slice_set}
use Rattle.std.proofs.lemmas.Bool.Decides.{Decides-eqb}
use Rattle.jvm_types.specs.declared.fixed_words.TheConstants.{NEXT_RECORD_WORD, MONITOR_RECORDS}
use Rattle.machine_types.specs.{Accesses.words_after, Elision.looks, Events.wanted, FoundWords.leave_content, HeldMonitors.held_at, LockWords.{word_of_lock, lock_of, next_count}}
use Rattle.machine_types.specs.Monitors.{Claim, Has, Tries, HasNot, claim, claim_by, enter_wants, freed, count_kept, release, finish_wants, leave_wants}
use Rattle.machine_types.specs.{Owners.{Locks, hold_by_kept, hold_by_list, locks_in, references_of}, Structure.{IsAs, IsFlat}, Threads.Attempt, Words.{owner_word, bits_word}}
use Rattle.machine_types.specs.declared.{access.Access.TheVariants.{Store, Cas}, config.Config.Config, lock.{Held.Held, Kept.Kept, LockWord.LockWord}, phase.Phase.Phase}
use Rattle.laws_states.{specs.{ChangeLaws.{IsFreed, LockGoes, LocksFollow}, HeapFacts.objects_by, Sites.{HasObject, ReachesIf}}, proofs.{LockPhases.lock_reached, LockViews.{set_lock, flatly, fatly}}}
use Rattle.laws_states.proofs.{Movers.{KnownSites, LockMover, on_heap, fits_bounds, phase_shows, phase_reaches}, QuietWords.{IsQuiet, quiet_at}}
use Rattle.laws_states.proofs.WordViews.{lock_of_word, object_has, set_self, lock_view, owner_view, next_view}
use Rattle.machine_types.specs.declared.lock.Kept.TheVariants as keeps
use Rattle.machine_types.specs.declared.lock.LockWord.TheVariants as locks
use Rattle.machine_types.specs.declared.phase.Phase.TheVariants as phases

-- ---- how one lock goes on

stays_fat : (t range : ℕ) (held : Option Held) (was now : LockWord) → (now ≡ was) ⊎ LockGoes t range held was now → (r : ℕ) → was ≡ locks.Fat r → now ≡ locks.Fat r
stays_fat t range held was now (inl e) r f = e ∙ f
stays_fat t range held was now (inr g) r f = absurd (subst (λ (l : LockWord). LockGoes t range held l now) f g)

frees : (t range : ℕ) (held : Option Held) (was : LockWord) (seen : ℕ) → LockGoes t range held was (locks.Free seen) → IsFreed held range seen
frees t range held (locks.Held u) seen g = g.1
frees t range held (locks.Flagged u) seen g = g.1
frees t range held was seen g = absurd g

was_freed : (t range : ℕ) (held : Option Held) (was now : LockWord) → (now ≡ was) ⊎ LockGoes t range held was now → (seen : ℕ) → now ≡ locks.Free seen → (was ≡ locks.Free seen) ⊎ IsFreed held range seen
was_freed t range held was now (inl e) seen f = inl (sym e ∙ f)
was_freed t range held was now (inr g) seen f = inr (frees t range held was seen (subst (λ (l : LockWord). LockGoes t range held was l) f g))

-- ---- all locks

all_follow : (v w : Locks) (t range : ℕ) (held : List Held) → ((m : ℕ) → (w.lock m ≡ v.lock m) ⊎ LockGoes t range (held_at held m) (v.lock m) (w.lock m)) → LocksFollow v w t range held
all_follow v w t range held goes = record {
  goes = goes;
  fat = λ m r. stays_fat t range (held_at held m) (v.lock m) (w.lock m) (goes m) r;
  freed = λ m seen. was_freed t range (held_at held m) (v.lock m) (w.lock m) (goes m) seen;
}

same_locks : (v w : Locks) (t range : ℕ) (held : List Held) → ((m : ℕ) → w.lock m ≡ v.lock m) → LocksFollow v w t range held
same_locks v w t range held same = all_follow v w t range held (λ m. inl (same m))

one_lock : (v : Locks) (t range : ℕ) (held : List Held) (n : ℕ) (l : LockWord) → LockGoes t range (held_at held n) (v.lock n) l → LocksFollow v (set_lock n l v) t range held
one_lock v t range held n l go = all_follow v (set_lock n l v) t range held (λ m. (elim (n == m) as
    (λ (b : Bool). (n == m) ≡ b → (cond b l (v.lock m) ≡ v.lock m) ⊎ LockGoes t range (held_at held m) (v.lock m) (cond b l (v.lock m)))
    [ true ↦ λ e. inr (subst (λ (i : ℕ). LockGoes t range (held_at held i) (v.lock i) l) ((Decides-eqb n m).0 e) go) | false ↦ λ e. inl refl ]) refl)

-- ---- all phases

module _ (sites : KnownSites) (mover : LockMover) where
  open mover use {t, x, there, lawful, structured, number, own, state.{was, owners, base.{cfg, threads, heap.{c, marked, objects, s, facts}}}}
  open sites use {differ, inside, reach}

  -- an event that leaves these words, where no header is stored for the first time
  abbrev Leaves : List ℕ → Type 0
  Leaves words = LocksFollow (locks_in (references_of objects) s.words) (locks_in (references_of objects) words) t cfg.range x.held

  abbrev Done : Phase → Type 0
  Done phase = LocksFollow (locks_in (references_of objects) s.words) (locks_in (references_of (objects_by c.program phase objects)) (words_after s.words (wanted c x phase))) t cfg.range x.held

  unchanged : Leaves s.words
  unchanged = same_locks _ _ t cfg.range x.held (λ m. refl)

  loaded : (w : ℕ) → Leaves (slice_set s.words w (slice_index s.words w))
  loaded w = subst (λ (words : List ℕ). Leaves words) (sym (set_self s.words w)) unchanged

  quietly : (phase : Phase) → x.phase ≡ phase → IsQuiet phase → Done phase
  quietly phase e is = same_locks _ _ t cfg.range x.held (λ m. ap (λ (w : Locks). w.lock m) (quiet_at sites (on_heap mover) phase e is))

  owner_written : (r value : ℕ) → r < MONITOR_RECORDS → Leaves (slice_set s.words (owner_word r) value)
  owner_written r value low = same_locks _ _ t cfg.range x.held (λ m. ap (λ (w : Locks). w.lock m) (owner_view differ inside c objects s marked facts r value low))

  lock_written : (m : ℕ) (l : LockWord) → HasObject objects m → LockGoes t cfg.range (held_at x.held m) ((locks_in (references_of objects) s.words).lock m) l → Leaves (slice_set s.words m (word_of_lock l))
  lock_written m l is go = subst (λ (w : Locks). LocksFollow (locks_in (references_of objects) s.words) w t cfg.range x.held)
      (sym (lock_view differ inside c objects s marked facts m (word_of_lock l) is ∙ ap (λ (k : LockWord). set_lock m k (locks_in (references_of objects) s.words)) (lock_of_word l)))
      (one_lock (locks_in (references_of objects) s.words) t cfg.range x.held m l go)

  -- from what the lock was
  lock_from : (m : ℕ) (was_it l : LockWord) → HasObject objects m → (locks_in (references_of objects) s.words).lock m ≡ was_it → LockGoes t cfg.range (held_at x.held m) was_it l → Leaves (slice_set s.words m (word_of_lock l))
  lock_from m was_it l is e go = lock_written m l is (subst (λ (k : LockWord). LockGoes t cfg.range (held_at x.held m) k l) (sym e) go)

  pub lock_is : (m : ℕ) (l : LockWord) → HasObject objects m → (slice_index s.words m == word_of_lock l) ≡ true → (locks_in (references_of objects) s.words).lock m ≡ l
  lock_is m l is e = ap (λ (b : Bool). cond b (lock_of (slice_index s.words m)) (locks.Free 0)) (object_has objects m is) ∙ ap lock_of ((Decides-eqb (slice_index s.words m) (word_of_lock l)).0 e) ∙ lock_of_word l

  -- ---- a lock is taken or flagged

  exchanged : (m : ℕ) (l k : LockWord) → HasObject objects m → LockGoes t cfg.range (held_at x.held m) l k → (b : Bool) → (slice_index s.words m == word_of_lock l) ≡ b → Leaves (slice_set s.words m (cond b (word_of_lock k) (slice_index s.words m)))
  exchanged m l k is go true e = lock_from m l k is (lock_is m l is e) go
  exchanged m l k is go false e = loaded m

  -- ---- a lock that its thread holds

  module _ (m : ℕ) (h : Held) (at : held_at x.held m ≡ Some h) where
    -- flagged or not
    own_lock : (n : ℕ) → h.kept ≡ keeps.Flat n → ((locks_in (references_of objects) s.words).lock m ≡ locks.Held t) ⊎ ((locks_in (references_of objects) s.words).lock m ≡ locks.Flagged t)
    own_lock n kept = flatly t ((locks_in (references_of objects) s.words).lock m) (locks_in (references_of objects) s.words).owner (own.holds m ∙ ap hold_by_list at ∙ ap hold_by_kept kept)

    let_go : (n : ℕ) → h.kept ≡ keeps.Flat n → HasObject objects m → Leaves (slice_set s.words m (freed x n))
    let_go n kept is = ⊎_elim
        (λ (e : (locks_in (references_of objects) s.words).lock m ≡ locks.Held t). lock_from m (locks.Held t) (locks.Free (next_count n x.cfg.range)) is e (refl, count))
        (λ (e : (locks_in (references_of objects) s.words).lock m ≡ locks.Flagged t). lock_from m (locks.Flagged t) (locks.Free (next_count n x.cfg.range)) is e (refl, count)) (own_lock n kept)
      where
        count : IsFreed (held_at x.held m) cfg.range (next_count n x.cfg.range)
        count = subst (λ (o : Option Held). IsFreed o cfg.range (next_count n x.cfg.range)) (sym at) (n, kept, ap (λ (g : Config). next_count n g.range) ((threads.own t x there).settings))

    grows : (n r : ℕ) → h.kept ≡ keeps.Flat n → HasObject objects m → Leaves (slice_set s.words m (word_of_lock (locks.Fat r)))
    grows n r kept is = ⊎_elim
        (λ (e : (locks_in (references_of objects) s.words).lock m ≡ locks.Held t). lock_from m (locks.Held t) (locks.Fat r) is e refl)
        (λ (e : (locks_in (references_of objects) s.words).lock m ≡ locks.Flagged t). lock_from m (locks.Flagged t) (locks.Fat r) is e refl) (own_lock n kept)

    record_low : (r : ℕ) → h.kept ≡ keeps.Fat r → r < MONITOR_RECORDS
    record_low r kept =
        let fat = fatly t ((locks_in (references_of objects) s.words).lock m) (locks_in (references_of objects) s.words).owner r (own.holds m ∙ ap hold_by_list at ∙ ap hold_by_kept kept) in
        (owners.locks_are.below m r fat.0).1

    by_kept : (k : Kept) → h.kept ≡ k → ReachesIf c.program objects s (leave_content (Has (record h { kept = k }))) (Some (release x m k)) → Leaves (words_after s.words (Some (release x m k)))
    by_kept (keeps.Flat n) kept k = elim (slice_index s.words m == word_of_lock (locks.Held x.number)) as (λ (b : Bool). Leaves (slice_set s.words m (cond b (freed x n) (slice_index s.words m))))
        [ true ↦ let_go n kept (lock_reached c.program objects s (Cas m (word_of_lock (locks.Held x.number)) (freed x n)) k) | false ↦ loaded m ]
    by_kept (keeps.Fat r) kept k = owner_written r 0 (record_low r kept)

    by_depth : (b : Bool) → ReachesIf c.program objects s (leave_content (Has h)) (cond b None (Some (release x m h.kept))) → Leaves (words_after s.words (cond b None (Some (release x m h.kept))))
    by_depth true k = unchanged
    by_depth false k = by_kept h.kept refl k

  finished : (m inner : ℕ) → Leaves (words_after s.words (finish_wants m inner))
  finished m zero = loaded m
  finished m (suc inner) = unchanged

  left : (m : ℕ) (held : Option Held) (attempt : Option Attempt) → held_at x.held m ≡ held → ReachesIf c.program objects s (leave_content (claim_by m held attempt)) (leave_wants x m (claim_by m held attempt))
      → Leaves (words_after s.words (leave_wants x m (claim_by m held attempt)))
  left m (Some h) attempt at k = by_depth m h at (nat_lt 1 h.depth) k
  left m None None at k = unchanged
  left m None (Some q) at k = elim (q.monitor == m) as (λ (b : Bool). Leaves (words_after s.words (leave_wants x m (cond b (Tries q) HasNot))))
      [ true ↦ finished m q.inner | false ↦ unchanged ]

  entered : (m : ℕ) (k : Claim) → Leaves (words_after s.words (enter_wants m k))
  entered m HasNot = loaded m
  entered m k = unchanged

  looked : (a : Option Attempt) → Leaves (words_after s.words (looks a))
  looked None = unchanged
  looked (Some a) = loaded a.monitor

  -- ---- a flat lock is let go, or made fat

  let_out : (m : ℕ) (o : Option Held) → held_at x.held m ≡ o → IsFlat o → HasObject objects m → Leaves (slice_set s.words m (freed x (count_kept o)))
  let_out m None at flat is = absurd flat
  let_out m (Some h) at flat is =
      subst (λ (n : ℕ). Leaves (slice_set s.words m (freed x n))) (sym (ap (λ (k : Kept). count_kept (Some (record h { kept = k }))) flat.1)) (let_go m h at flat.0 flat.1 is)

  made_fat : (m r : ℕ) (o : Option Held) → held_at x.held m ≡ o → IsFlat o → HasObject objects m → Leaves (slice_set s.words m (word_of_lock (locks.Fat r)))
  made_fat m r None at flat is = absurd flat
  made_fat m r (Some h) at flat is = grows m h at flat.0 r flat.1 is

  pub locks_by_phase : (phase : Phase) → x.phase ≡ phase → IsAs phase (was t) → Done phase
  locks_by_phase (phases.Throw z class) e k = looked x.attempt
  locks_by_phase (phases.Enter m n) e k = entered m (claim x m)
  locks_by_phase (phases.Acquire m) e k = loaded m
  locks_by_phase (phases.Take m seen) e k =
      exchanged m (locks.Free seen) (locks.Held x.number) (lock_reached c.program objects s (Cas m (word_of_lock (locks.Free seen)) (word_of_lock (locks.Held x.number))) (phase_reaches mover sites (phases.Take m seen) e)) number _ refl
  locks_by_phase (phases.Flag m u) e k =
      exchanged m (locks.Held u) (locks.Flagged u) (lock_reached c.program objects s (Cas m (word_of_lock (locks.Held u)) (word_of_lock (locks.Flagged u))) (phase_reaches mover sites (phases.Flag m u) e)) refl _ refl
  locks_by_phase (phases.TakeFat m r) e k = owner_written r _ (fits_bounds mover (phases.TakeFat m r) e)
  locks_by_phase (phases.Leave m after) e k = left m (held_at x.held m) x.attempt refl (phase_reaches mover sites (phases.Leave m after) e)
  locks_by_phase (phases.Grow m toward) e k = same_locks _ _ t cfg.range x.held (λ n. ap (λ (w : Locks). w.lock n) (next_view differ inside c objects s marked facts (slice_index s.words NEXT_RECORD_WORD + 1)))
  locks_by_phase (phases.FlatOut m after) e k = let_out m (held_at x.held m) refl (phase_shows mover (phases.FlatOut m after) k).flat
      (lock_reached c.program objects s (Store m (freed x (count_kept (held_at x.held m)))) (phase_reaches mover sites (phases.FlatOut m after) e))
  locks_by_phase (phases.Own m r toward) e k = owner_written r _ (fits_bounds mover (phases.Own m r toward) e)
  locks_by_phase (phases.FatIn m r toward) e k = made_fat m r (held_at x.held m) refl (phase_shows mover (phases.FatIn m r toward) k).flat (lock_reached c.program objects s (Store m (word_of_lock (locks.Fat r))) (phase_reaches mover sites (phases.FatIn m r toward) e))
  locks_by_phase (phases.WaitOut m r) e k = owner_written r 0 (fits_bounds mover (phases.WaitOut m r) e)
  locks_by_phase (phases.WaitLook m r depth) e k = loaded (bits_word r)
  locks_by_phase (phases.Retake m r depth) e k = owner_written r _ (fits_bounds mover (phases.Retake m r depth) e)
  locks_by_phase phase e k = quietly phase e tt
