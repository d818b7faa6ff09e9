-- Whatever event happens, who holds which lock is as the words and the threads say.
use Rattle.std.proofs.Common.{◌≡◌, ℕ, ◌≤◌, Option, Some, None, refl, sym, ap, ◌∙◌, subst, arith, slice_get, slice_index}
use Rattle.jvm_types.specs.{Numbers.has_flag, declared.outcome.End.End}
use Rattle.checked_program.specs.MarkedProgram.{MarkedProgram}
use Rattle.machine_types.specs.{Accesses.{found_by, words_after}, Core.event_of, Elision.{looks, may_try}, Events.{wanted, moved}, Going.with_phase, HeldMonitors.held_at, LockWords.lock_of}
use Rattle.machine_types.specs.{Monitors.bit_of, Owners.{Locks, drawn_by, Knows, PhaseSaw, Owns, locks_in, references_of, Owners}, Structure.IsAs, Threads.{Attempt, Thread}}
use Rattle.machine_types.specs.{Words.bits_word, declared.{access.Access.TheVariants.Load, phase.Phase.Phase}}
use Rattle.laws_threads.{specs.{GivenThread.{Given, GivenIsKept}, StateLaws.counted_phase_at, StructureLaws.counted_by}, proofs.ThreadMove.of_mover}
use Rattle.laws_states.specs.{HeapFacts.{objects_by, objects_of}, OwnersLaws.EventsKeepOwners, SiteLaws.{EventsReachSites, SitesDiffer, SitesLieInside}}
use Rattle.laws_states.proofs.{CountedPhases.{IsPlain, counted_plain}, LockPhases.{plain, knowing, loaded, lock_here, lock_reached, acquired, entered}}
use Rattle.laws_states.proofs.Movers.{KnownSites, LockState, LockMover, OwnsAs, mover_of, on_heap, locks_of, fits_bounds, phase_shows, phase_reaches, known_sites, lawful_state, phase_stays}
use Rattle.laws_states.proofs.{OwnerPhases.{took, flagged, took_fat, retook, waited, left, flat_out, drawn, owned, fattened, gone_out}, OwnersStep.{Owes, owned_on}}
use Rattle.laws_states.proofs.{PlainMoves.{Plainly, moves_plainly}, QuietWords.{IsQuiet, quiet_at}, SameTally.{Tally, tally_of, same_tally}}
use Rattle.jvm_types.specs.declared.outcome.End.TheVariants as ends
use Rattle.machine_types.specs.declared.phase.Phase.TheVariants as phases

-- ---- what an instruction leaves of a thread

record Kept (x y : Thread) : Type 0 where
  held : y.held ≡ x.held
  locked : x.counts.locked ≤ y.counts.locked

ran_keeps : (c : MarkedProgram) (x : Thread) (got : ℕ) → Kept x (moved c x phases.Run got)
ran_keeps c x got =
    let same = same_tally c x phases.Run got tt in
    let locked : (moved c x phases.Run got).counts.locked ≡ x.counts.locked = ap (λ (g : Tally). g.locked) same ∙ of_mover (λ (y : Thread). y.counts.locked ≡ x.counts.locked) c.program phases.Run x refl refl in
    record { held = ap (λ (g : Tally). g.held) same ∙ of_mover (λ (y : Thread). y.held ≡ x.held) c.program phases.Run x refl refl; locked = omega (arith, locked) }

module _ (sites : KnownSites) (given : GivenIsKept) (mover : LockMover) where
  open mover use {t, x, there, lawful, structured, number, own, state.{was, owners, base.{threads, heap.{c, objects, s, facts}}}}

  same_cfg : (phase : Phase) (got : ℕ) → (moved c x phase got).cfg ≡ x.cfg
  same_cfg phase got = ap (λ (g : Given). g.cfg) (given c x phase got)

  abbrev OwesOf : (phase : Phase) (w : Locks) → Thread → Type 0
  OwesOf phase w y = (more : ℕ → ℕ) × Owes (locks_in (references_of objects) s.words) w owners.count more t phase (counted_by phase y.phase) x y

  -- what the event owes in a phase
  abbrev Done : Phase → Type 0
  Done phase = OwesOf (was t) (locks_in (references_of (objects_by c.program phase objects)) (words_after s.words (wanted c x phase))) (moved c x phase (found_by s.words (wanted c x phase)))

  -- in a phase that counts itself
  from : (phase : Phase) (w : Locks) (y : Thread) → was t ≡ phase → OwesOf phase w y → OwesOf (was t) w y
  from phase w y k h = subst (λ (p : Phase). OwesOf p w y) (sym k) h

  own_as : (phase : Phase) → was t ≡ phase → OwnsAs mover phase
  own_as phase k = subst (OwnsAs mover) k own

  now_plain : (phase : Phase) → x.phase ≡ phase → IsPlain phase → IsPlain x.phase
  now_plain phase e is = subst IsPlain (sym e) is

  -- ---- quiet phases

  quietly : (phase : Phase) → x.phase ≡ phase → IsQuiet phase → OwesOf (was t) (locks_in (references_of objects) s.words) (moved c x phase (found_by s.words (wanted c x phase))) → Done phase
  quietly phase e is h = subst (λ (w : Locks). OwesOf (was t) w (moved c x phase (found_by s.words (wanted c x phase)))) (sym (quiet_at sites (on_heap mover) phase e is)) h

  plainly : (phase : Phase) → was t ≡ phase → (got : ℕ) → (moved c x phase got).held ≡ x.held → x.counts.locked ≤ (moved c x phase got).counts.locked → Plainly x.attempt (moved c x phase got) → IsPlain phase
      → OwesOf (was t) (locks_in (references_of objects) s.words) (moved c x phase got)
  plainly phase k got held locked p is = from phase (locks_in (references_of objects) s.words) (moved c x phase got) k
      (plain mover phase (own_as phase k) (moved c x phase got) held (same_cfg phase got) locked p.attempt (counted_plain phase (moved c x phase got).phase is p.phase))

  by_same : (phase : Phase) → was t ≡ phase → (got : ℕ) → tally_of (moved c x phase got) ≡ tally_of x → Plainly x.attempt (moved c x phase got) → IsPlain phase → OwesOf (was t) (locks_in (references_of objects) s.words) (moved c x phase got)
  by_same phase k got same p is =
      let locked : (moved c x phase got).counts.locked ≡ x.counts.locked = ap (λ (g : Tally). g.locked) same in
      plainly phase k got (ap (λ (g : Tally). g.held) same) (omega (arith, locked)) p is

  -- where an attempt's lock word is looked at
  looked : (q : Option Attempt) (y : Thread) → OwesOf (was t) (locks_in (references_of objects) s.words) y → OwesOf (was t) (locks_in (references_of objects) (words_after s.words (looks q))) y
  looked None y h = h
  looked (Some q) y h = loaded mover (was t) own q.monitor y h

  over : (e : End) (y : Thread) → y.phase ≡ phases.Ended e → y.held ≡ x.held → y.cfg ≡ x.cfg → y.counts.locked ≡ x.counts.locked → y.attempt ≡ x.attempt → OwesOf (was t) (locks_in (references_of objects) s.words) y
  over e y ph held cfg_is locked attempt = knowing mover (was t) own y held cfg_is locked attempt
      (at (λ p. Knows (locks_in (references_of objects) s.words) t p) own.knows tt) (at (λ p. PhaseSaw (locks_in (references_of objects) s.words) owners.count p) own.take tt) (at (λ p. (i : ℕ) → drawn_by p ≡ Some i → drawn_by (was t) ≡ Some i) (λ i d. d) (λ i d. absurd (cc)))
    where
      at : (P : Phase → Type 0) → P (was t) → P (phases.Ended e) → P (counted_by (was t) y.phase)
      at P k m = subst (λ (p : Phase). P (counted_by (was t) p)) (sym ph) ((elim e as (λ (e : End). P (phases.Ended e) → P (counted_by (was t) (phases.Ended e)))
          [ ends.Steps ↦ λ m. k | ends.Prints ↦ λ m. k | ends.Turns ↦ λ m. k | ends.Records ↦ λ m. k | e ↦ λ m. m ]) m)

  -- ---- all phases

  by_phase : (phase : Phase) → x.phase ≡ phase → IsAs phase (was t) → Done phase
  by_phase phases.Run e k =
      let got = found_by s.words (wanted c x phases.Run) in
      let keeps = ran_keeps c x got in
      quietly phases.Run e tt (plainly phases.Run k got keeps.held keeps.locked (moves_plainly c x phases.Run got tt (now_plain phases.Run e tt)) tt)
  by_phase (phases.Throw z class) e k =
      let got = found_by s.words (looks x.attempt) in
      looked x.attempt _ (by_same (phases.Throw z class) k got (same_tally c x (phases.Throw z class) got tt) (moves_plainly c x (phases.Throw z class) got tt (now_plain (phases.Throw z class) e tt)) tt)
  by_phase (phases.Enter m n) e k = from (phases.Enter m n) _ _ k
      (entered mover (phases.Enter m n) (own_as (phases.Enter m n) k) m n (may_try c x n) (held_at x.held m) x.attempt tt (now_plain (phases.Enter m n) e tt) refl refl (phase_reaches mover sites (phases.Enter m n) e))
  by_phase (phases.Acquire m) e k = from (phases.Acquire m) _ _ k
      (loaded mover (phases.Acquire m) (own_as (phases.Acquire m) k) m _
      (acquired mover (phases.Acquire m) (own_as (phases.Acquire m) k) m (lock_of (slice_index s.words m)) tt
      (lock_here mover (phases.Acquire m) (own_as (phases.Acquire m) k) m (lock_reached c.program objects s (Load m) (phase_reaches mover sites (phases.Acquire m) e)))))
  by_phase (phases.Take m seen) e k = from (phases.Take m seen) _ _ k (took sites mover m seen (own_as (phases.Take m seen) k) (phase_reaches mover sites (phases.Take m seen) e))
  by_phase (phases.Flag m u) e k = from (phases.Flag m u) _ _ k (flagged sites mover m u (own_as (phases.Flag m u) k) (phase_reaches mover sites (phases.Flag m u) e))
  by_phase (phases.TakeFat m r) e k = from (phases.TakeFat m r) _ _ k (took_fat sites mover m r (own_as (phases.TakeFat m r) k))
  by_phase (phases.Leave m after) e k = from (phases.Leave m after) _ _ k
      (left sites mover m after (held_at x.held m) x.attempt (own_as (phases.Leave m after) k) (now_plain (phases.Leave m after) e tt) refl refl (phase_reaches mover sites (phases.Leave m after) e))
  by_phase (phases.Grow m toward) e k = from (phases.Grow m toward) _ _ k (drawn sites mover m toward (own_as (phases.Grow m toward) k))
  by_phase (phases.FlatOut m after) e k = from (phases.FlatOut m after) _ _ k
      (flat_out sites mover m after (held_at x.held m) (own_as (phases.FlatOut m after) k) (now_plain (phases.FlatOut m after) e tt) refl
      (phase_shows mover (phases.FlatOut m after) k).flat (phase_reaches mover sites (phases.FlatOut m after) e))
  by_phase (phases.Own m r toward) e k = from (phases.Own m r toward) _ _ k (owned sites mover m r toward (own_as (phases.Own m r toward) k) (fits_bounds mover (phases.Own m r toward) e))
  by_phase (phases.FatIn m r toward) e k = from (phases.FatIn m r toward) _ _ k
      (fattened sites mover m r toward (held_at x.held m) (own_as (phases.FatIn m r toward) k) (fits_bounds mover (phases.FatIn m r toward) e) refl
      (phase_shows mover (phases.FatIn m r toward) k).flat (phase_reaches mover sites (phases.FatIn m r toward) e))
  by_phase (phases.WaitOut m r) e k = from (phases.WaitOut m r) _ _ k
      (gone_out sites mover m r (held_at x.held m) (own_as (phases.WaitOut m r) k) (fits_bounds mover (phases.WaitOut m r) e) refl (phase_shows mover (phases.WaitOut m r) k).1)
  by_phase (phases.WaitLook m r depth) e k = from (phases.WaitLook m r depth) _ _ k
      (loaded mover (phases.WaitLook m r depth) (own_as (phases.WaitLook m r depth) k) (bits_word r) _
      (waited sites mover m r depth (has_flag (bit_of x.number) (slice_index s.words (bits_word r))) (own_as (phases.WaitLook m r depth) k)))
  by_phase (phases.Retake m r depth) e k = from (phases.Retake m r depth) _ _ k (retook sites mover m r depth (own_as (phases.Retake m r depth) k))
  by_phase (phases.Ending reason) e k = over reason (with_phase x (phases.Ended reason)) refl refl refl refl refl
  by_phase (phases.Ended reason) e k = over reason x e refl refl refl refl
  by_phase phase e k =
      let got = found_by s.words (wanted c x phase) in
      quietly phase e tt (by_same phase k got (same_tally c x phase got tt) (moves_plainly c x phase got tt (now_plain phase e tt)) tt)

  pub thread_kept : Owners (references_of (objects_of c.program (Some x) objects)) (counted_phase_at was t (event_of c s t (Some x)).threads) (event_of c s t (Some x))
  thread_kept =
      let owes = by_phase x.phase refl structured.is_as in
      owned_on mover (record {
        later = references_of (objects_by c.program x.phase objects);
        after = words_after s.words (wanted c x x.phase);
        y = moved c x x.phase (found_by s.words (wanted c x x.phase));
        same_cfg = same_cfg x.phase (found_by s.words (wanted c x x.phase));
        more = owes.0;
        owes = owes.1;
      })

-- ---- no thread

unmoved : (state : LockState) (t : ℕ) → slice_get state.base.heap.s.threads t ≡ None
    → Owners (references_of state.base.heap.objects) (counted_phase_at state.was t state.base.heap.s.threads) state.base.heap.s
unmoved state t e = record {
  count = state.owners.count;
  locks_are = state.owners.locks_are;
  each = λ u y f. subst (λ p. Owns (locks_of state.base.heap) state.owners.count u p y)
      (sym (phase_stays state.was state.base.heap.s.threads t u y e f)) (state.owners.each u y f);
  apart = state.owners.apart;
  within = state.owners.within;
  few = state.owners.few;
}

pub events_keep_owners : SitesDiffer → SitesLieInside → EventsReachSites → GivenIsKept → EventsKeepOwners
events_keep_owners differ inside reach given c cfg objects was s t marked heap threads structure owners = (elim (slice_get s.threads t) as
    (λ (o : Option Thread). slice_get s.threads t ≡ o → Owners (references_of (objects_of c.program o objects)) (counted_phase_at was t (event_of c s t o).threads) (event_of c s t o))
    [ None ↦ λ e. unmoved state t e | Some x ↦ λ e. thread_kept (known_sites differ inside reach) given (mover_of state t x e) ]) refl
  where
    state : LockState
    state = record { base = lawful_state c cfg objects s marked heap threads; was = was; structure = structure; owners = owners }
