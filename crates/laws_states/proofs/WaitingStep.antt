-- One event of a thread changes the waiting bits of one record: what it has to show of them, and of the thread.
use Rattle.std.proofs.Common.{⊎_elim, ◌≡◌, ◌≢◌, ℕ, zero, suc, ◌+◌, ◌<◌, Bool, true, false, cond, List, ◌∷◌, Option, Some, None, refl, sym, ap, ◌∙◌, subst, arith, ◌==◌, IsSome, slice_get, slice_set}
use Rattle.std.proofs.lemmas.Bool.{eqb-false, Decides.Decides-eqb}
use Rattle.jvm_types.specs.declared.fixed_words.TheConstants.{MONITOR_RECORDS}
use Rattle.machine_types.specs.{HeldMonitors.held_at, Owners.{Locks, HeldFat, hold_by_kept, hold_by_list}, Structure.IsFat}
use Rattle.machine_types.specs.{Threads.Thread, Waiting.{is_bit_set, MustWait, Waits, Waiting}, declared.{lock.Held.Held, phase.Phase.Phase}}
use Rattle.laws_threads.{specs.{StateLaws.{counted_of, counted_phase_at}, StructureLaws.counted_by}, proofs.StateSteps.{set_there, set_other}}
use Rattle.laws_states.proofs.{Lists.same_or_not, LockViews.fatly, Movers.{LockMover, WaitMover, locks_of, mover_of, phase_shows}}
use Rattle.machine_types.specs.declared.phase.Phase.TheVariants as phases

-- ---- who owns a record

-- the record whose owner a thread is, by its phase
abbrev pub record_of : Phase → Option ℕ
record_of (phases.WaitBit m r) = Some r
record_of (phases.WaitOut m r) = Some r
record_of (phases.NotifyLook m r) = Some r
record_of (phases.NotifyOne m r u) = Some r
record_of (phases.NotifyAll m r) = Some r
record_of phase = None

hold_fat : (r : ℕ) (o : Option Held) → IsFat r o → hold_by_list o ≡ HeldFat r
hold_fat r None k = absurd k
hold_fat r (Some h) k = ap hold_by_kept k

pub record OwnsRecord (v : Locks) (u r : ℕ) : Type 0 where
  pub low : r < MONITOR_RECORDS
  pub owner : v.owner r ≡ u + 1

module _ (mover : LockMover) where
  open mover use {t, x, own, state.{was, owners.locks_are, base.heap}}

  of_fat : (m k r : ℕ) → Some k ≡ Some r → IsFat k (held_at x.held m) → OwnsRecord (locks_of heap) t r
  of_fat m k r e fat =
      let same : k ≡ r = cc in
      let at = fatly t ((locks_of heap).lock m) (locks_of heap).owner k (own.holds m ∙ hold_fat k (held_at x.held m) fat) in
      subst (OwnsRecord (locks_of heap) t) same (record { low = (locks_are.below m k at.0).1; owner = at.1 })

  pub owned_record : (phase : Phase) (r : ℕ) → record_of phase ≡ Some r → was t ≡ phase → OwnsRecord (locks_of heap) t r
  owned_record (phases.WaitBit m k) r e at = of_fat m k r e (phase_shows mover (phases.WaitBit m k) at).1
  owned_record (phases.WaitOut m k) r e at = of_fat m k r e (phase_shows mover (phases.WaitOut m k) at).1
  owned_record (phases.NotifyLook m k) r e at = of_fat m k r e (phase_shows mover (phases.NotifyLook m k) at).1
  owned_record (phases.NotifyOne m k w) r e at = of_fat m k r e (phase_shows mover (phases.NotifyOne m k w) at).1
  owned_record (phases.NotifyAll m k) r e at = of_fat m k r e (phase_shows mover (phases.NotifyAll m k) at).1
  owned_record phase r e at = absurd (cc)

pub must_stay : (words after : List ℕ) (u : ℕ) (phase : Phase) → ((r k : ℕ) → record_of phase ≡ Some r → is_bit_set words r k ≡ true → is_bit_set after r k ≡ true) → MustWait words u phase → MustWait after u phase
must_stay words after u (phases.WaitOut m r) stays must = stays r u refl must
must_stay words after u (phases.NotifyOne m r k) stays must = stays r k refl must
must_stay words after u phase stays must = tt

-- ---- what an event of t may do to bits

pub record Changes (v : Locks) (words after : List ℕ) (t : ℕ) : Type 0 where
  -- it sets its own alone
  pub less : (r u : ℕ) → r < MONITOR_RECORDS → u ≢ t → is_bit_set after r u ≡ true → is_bit_set words r u ≡ true
  -- and clears those of a record that it owns
  pub stays : (r k : ℕ) → r < MONITOR_RECORDS → v.owner r ≢ t + 1 → is_bit_set words r k ≡ true → is_bit_set after r k ≡ true

-- ---- all threads

some_stays : {A : Type 0} (xs : List A) (i j : ℕ) (x : A) → IsSome (slice_get xs j) → IsSome (slice_get (slice_set xs i x) j)
some_stays (y ∷ xs) zero zero x k = refl
some_stays (y ∷ xs) (suc i) zero x k = refl
some_stays (y ∷ xs) (suc i) (suc j) x k = some_stays xs i j x k
some_stays xs i j x k = k

-- the words and the thread behind the event, and what it owes of them
pub record BitsBehind (m : LockMover) : Type 0 where
  pub after : List ℕ
  pub y : Thread
  pub changes : Changes (locks_of m.state.base.heap) m.state.base.heap.s.words after m.t
  pub own : Waits after m.t (counted_by (m.state.was m.t) y.phase)

module _ (waiter : WaitMover) (behind : BitsBehind waiter.mover) where
  open waiter use {waiting, mover.{t, x, there, state.{was, base.heap.s}}}
  open behind use {after, y, changes, own}

  others_wait : (u : ℕ) (z : Thread) → u ≢ t → slice_get s.threads u ≡ Some z → Waits after u (was u)
  others_wait u z d e =
      let w : Waits s.words u (was u) = waiting.each u z e in
      record {
        only = λ r low set. w.only r low (changes.less r u low d set);
        must = must_stay s.words after u (was u) (λ r k at set. stays r k (owned_record (mover_of waiter.mover.state u z e) (was u) r at refl) set) w.must;
      }
    where
      stays : (r k : ℕ) → OwnsRecord (locks_of waiter.mover.state.base.heap) u r → is_bit_set s.words r k ≡ true → is_bit_set after r k ≡ true
      stays r k o set = changes.stays r k o.low (λ q. d (omega (arith, q, o.owner))) set

  each_waits : (u : ℕ) (z : Thread) → slice_get (slice_set s.threads t y) u ≡ Some z → Waits after u (counted_phase_at was t (slice_set s.threads t y) u)
  each_waits u z e = by_number (u == t) refl
    where
      by_number : (b : Bool) → (u == t) ≡ b → Waits after u (cond b (counted_of (was t) (slice_get (slice_set s.threads t y) t)) (was u))
      by_number true g =
          let same : u ≡ t = (Decides-eqb u t).0 g in
          let at : slice_get (slice_set s.threads t y) t ≡ Some z = ap (λ (n : ℕ). slice_get (slice_set s.threads t y) n) (sym same) ∙ e in
          subst (λ (o : Option Thread). Waits after u (counted_of (was t) o)) (sym at)
          (subst (λ (n : ℕ). Waits after n (counted_by (was t) z.phase)) (sym same) (subst (λ (q : Thread). Waits after t (counted_by (was t) q.phase)) (set_there s.threads t x y z there at) own))
      by_number false g = others_wait u z (eqb-false u t g) (sym (set_other s.threads t u y g) ∙ e)

  others_there : (r u : ℕ) → r < MONITOR_RECORDS → is_bit_set after r u ≡ true → IsSome (slice_get (slice_set s.threads t y) u)
  others_there r u low set = ⊎_elim
      (λ (same : u ≡ t). some_stays s.threads t u y (subst (λ (n : ℕ). IsSome (slice_get s.threads n)) (sym same) (subst (λ (o : Option Thread). IsSome o) (sym there) refl)))
      (λ (d : u ≢ t). some_stays s.threads t u y (waiting.others r u low (changes.less r u low d set))) (same_or_not u t)

  pub waited_on : Waiting (counted_phase_at was t (slice_set s.threads t y)) (record { words = after; threads = slice_set s.threads t y })
  waited_on = record { each = each_waits; others = others_there }
