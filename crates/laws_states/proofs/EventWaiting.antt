-- Whatever event happens, who waits is as the waiting bits and the threads say.
use Rattle.std.proofs.Common.{⊎_elim, ◌≡◌, ◌≢◌, ◌⊎◌, inl, inr, ℕ, ◌+◌, ◌-◌, ◌^◌, ◌<◌, nat_lt, Bool, true, false, cond, List, length, Option, Some, None, refl, sym, ap, ◌∙◌, subst, arith, ◌==◌, bit_and, bit_or, slice_get, slice_index, slice_set}
use Rattle.std.proofs.lemmas.Bool.{eqb-false}
use Rattle.jvm_types.specs.{Numbers.has_flag, declared.fixed_words.TheConstants.MONITOR_RECORDS}
use Rattle.machine_types.specs.{Accesses.{found_by, words_after}, Core.{Core, event_of}, Events.{wanted, moved}, Going.{runs, failed_turn, with_phase}, HeldMonitors.held_at}
use Rattle.machine_types.specs.{Monitors.{bit_of, goes_to_wait, lowest_of}, Owners.{locks_in, references_of}}
use Rattle.machine_types.specs.{Structure.{IsAs, IsFat}, Threads.Thread, Waiting.{is_bit_set, MayWait, MustWait, Waits, Waiting}, Words.bits_word, declared.{lock.Held.Held, phase.Phase.Phase}}
use Rattle.laws_threads.specs.{StateLaws.counted_phase_at, StructureLaws.counted_by}
use Rattle.laws_states.specs.{SiteLaws.{EventsReachSites, SitesDiffer, SitesLieInside}, Sites.BitsOf, WaitingLaws.EventsKeepWaiting}
use Rattle.laws_states.proofs.{CalmMoves.{IsCalm, GoesCalm, counted_calm, moved_calm, runs_counted}, Lists.{same_or_not, set_here, set_there}, PartWaiting.{counted_waits, ended_waits}}
use Rattle.laws_states.proofs.{Movers.{known_sites, lawful_state, phase_stays}, StillBits.{IsStill, same_changes, still_bits}, WaitingBits.{set_sets, set_keeps, set_other, left_was_set, lowest_set}}
use Rattle.laws_states.proofs.{Movers.{KnownSites, LockState, WaitMover, mover_of, on_heap, fits_bounds, phase_shows}, WaitingStep.{record_of, owned_record, Changes, waited_on}}
use Rattle.jvm_types.specs.declared.outcome.End.TheVariants as ends
use Rattle.machine_types.specs.declared.phase.Phase.TheVariants as phases

-- ---- the bits of one record are written

record Written (words : List ℕ) (r value i : ℕ) : Type 0 where
  is : i ≡ r
  word : slice_index (slice_set words (bits_word r) value) (bits_word i) ≡ value

module _ (words : List ℕ) (r value : ℕ) (inside : bits_word r < length words) where
  bits_at : (i : ℕ) → Written words r value i ⊎ (slice_index (slice_set words (bits_word r) value) (bits_word i) ≡ slice_index words (bits_word i))
  bits_at i = ⊎_elim
      (λ (e : i ≡ r). inl (record { is = e; word = ap (λ (n : ℕ). slice_index (slice_set words (bits_word r) value) (bits_word n)) e ∙ set_here words (bits_word r) value inside }))
      (λ (d : i ≢ r). inr (set_there words (bits_word r) (bits_word i) value (λ e. d (omega (arith, e))))) (same_or_not i r)

  bits_less : (i u : ℕ) → (has_flag (bit_of u) value ≡ true → has_flag (bit_of u) (slice_index words (bits_word r)) ≡ true) → is_bit_set (slice_set words (bits_word r) value) i u ≡ true → is_bit_set words i u ≡ true
  bits_less i u less set = ⊎_elim
      (λ (k : Written words r value i). subst (λ (n : ℕ). is_bit_set words n u ≡ true) (sym k.is) (less (ap (has_flag (bit_of u)) (sym k.word) ∙ set)))
      (λ (e : slice_index (slice_set words (bits_word r) value) (bits_word i) ≡ slice_index words (bits_word i)). ap (has_flag (bit_of u)) (sym e) ∙ set) (bits_at i)

  bits_stay : (i u : ℕ) → (i ≡ r → has_flag (bit_of u) (slice_index words (bits_word r)) ≡ true → has_flag (bit_of u) value ≡ true) → is_bit_set words i u ≡ true → is_bit_set (slice_set words (bits_word r) value) i u ≡ true
  bits_stay i u stay set = ⊎_elim
      (λ (k : Written words r value i). ap (has_flag (bit_of u)) k.word ∙ stay k.is (subst (λ (n : ℕ). is_bit_set words n u ≡ true) k.is set))
      (λ (e : slice_index (slice_set words (bits_word r) value) (bits_word i) ≡ slice_index words (bits_word i)). ap (has_flag (bit_of u)) e ∙ set) (bits_at i)

calm_must : (words : List ℕ) (t : ℕ) (phase : Phase) → IsCalm phase → MustWait words t phase
calm_must words t (phases.WaitOut m r) k = absurd k
calm_must words t phase k = first_of (assumption, grind arith)

module _ (sites : KnownSites) (waiter : WaitMover) where
  open waiter use {records, waiting, mover, mover.{t, x, there, lawful, structured, number, own, state.{was, owners, base.heap.{c, objects, s, facts}}}}

  waits : Waits s.words t (was t)
  waits = waiting.each t x there

  -- what the event owes in a phase
  abbrev Owes : (after : List ℕ) → (now : Phase) → Type 0
  Owes after now = Changes (locks_in (references_of objects) s.words) s.words after t × Waits after t now

  abbrev Done : Phase → Type 0
  Done phase = Owes (words_after s.words (wanted c x phase)) (counted_by (was t) (moved c x phase (found_by s.words (wanted c x phase))).phase)

  -- in a phase that counts itself
  from : (phase : Phase) (after : List ℕ) (now : Phase) → was t ≡ phase → Owes after (counted_by phase now) → Owes after (counted_by (was t) now)
  from phase after now k h = subst (λ (p : Phase). Owes after (counted_by p now)) (sym k) h

  waits_as : (phase : Phase) → was t ≡ phase → Waits s.words t phase
  waits_as phase k = subst (Waits s.words t) k waits

  there_inside : (r : ℕ) → r < MONITOR_RECORDS → bits_word r < length s.words
  there_inside r few = sites.inside c objects s (BitsOf r) mover.state.base.heap.marked facts few

  -- ---- the bits stay

  still : (phase now : Phase) → x.phase ≡ phase → IsStill phase → Waits (words_after s.words (wanted c x phase)) t now → Owes (words_after s.words (wanted c x phase)) now
  still phase now e is h = (same_changes (locks_in (references_of objects) s.words) s.words (words_after s.words (wanted c x phase)) t (still_bits sites (on_heap mover) phase e is), h)

  set_before : (phase : Phase) → x.phase ≡ phase → IsStill phase → (r u : ℕ) → r < MONITOR_RECORDS → is_bit_set (words_after s.words (wanted c x phase)) r u ≡ true → is_bit_set s.words r u ≡ true
  set_before phase e is r u few set = ap (has_flag (bit_of u)) (sym (still_bits sites (on_heap mover) phase e is r few)) ∙ set

  -- a thread that did not wait
  calmly : (phase : Phase) → x.phase ≡ phase → was t ≡ phase → IsStill phase → GoesCalm phase → IsCalm phase → ((r : ℕ) → MayWait phase r → ⊥) → Done phase
  calmly phase e k is goes calm none =
      let got = found_by s.words (wanted c x phase) in
      let now : IsCalm (counted_by phase (moved c x phase got).phase) = counted_calm phase (moved c x phase got).phase calm (moved_calm c x phase got goes (subst IsCalm (sym e) calm)) in
      from phase (words_after s.words (wanted c x phase)) (moved c x phase got).phase k
      (still phase (counted_by phase (moved c x phase got).phase) e is (record {
        only = λ r few set. absurd (none r ((waits_as phase k).only r few (set_before phase e is r t few set)));
        must = calm_must (words_after s.words (wanted c x phase)) t (counted_by phase (moved c x phase got).phase) now;
      }))

  -- ---- a wait

  wait_begins : (m r : ℕ) → x.phase ≡ phases.WaitBit m r → was t ≡ phases.WaitBit m r → Owes (slice_set s.words (bits_word r) (bit_or (slice_index s.words (bits_word r)) (bit_of x.number))) (phases.WaitOut m r)
  wait_begins m r e k = (record { less = less; stays = stays }, record { only = only; must = must })
    where
      few : r < MONITOR_RECORDS
      few = fits_bounds mover (phases.WaitBit m r) e

      less : (i u : ℕ) → i < MONITOR_RECORDS → u ≢ t → is_bit_set (slice_set s.words (bits_word r) (bit_or (slice_index s.words (bits_word r)) (bit_of x.number))) i u ≡ true → is_bit_set s.words i u ≡ true
      less i u small d set = bits_less s.words r (bit_or (slice_index s.words (bits_word r)) (bit_of x.number)) (there_inside r few) i u (set_other (slice_index s.words (bits_word r)) x.number u (λ q. d (q ∙ number))) set

      stays : (i u : ℕ) → i < MONITOR_RECORDS → (locks_in (references_of objects) s.words).owner i ≢ t + 1 → is_bit_set s.words i u ≡ true
          → is_bit_set (slice_set s.words (bits_word r) (bit_or (slice_index s.words (bits_word r)) (bit_of x.number))) i u ≡ true
      stays i u small d set = bits_stay s.words r (bit_or (slice_index s.words (bits_word r)) (bit_of x.number)) (there_inside r few) i u (λ g. set_keeps (slice_index s.words (bits_word r)) x.number u) set

      only : (i : ℕ) → i < MONITOR_RECORDS → is_bit_set (slice_set s.words (bits_word r) (bit_or (slice_index s.words (bits_word r)) (bit_of x.number))) i t ≡ true → i ≡ r
      only i small set = elim (bits_at s.words r (bit_or (slice_index s.words (bits_word r)) (bit_of x.number)) (there_inside r few) i)
          [ inl w ↦ w.is | inr same ↦ absurd ((waits_as (phases.WaitBit m r) k).only i small (ap (has_flag (bit_of t)) (sym same) ∙ set)) ]

      must : is_bit_set (slice_set s.words (bits_word r) (bit_or (slice_index s.words (bits_word r)) (bit_of x.number))) r t ≡ true
      must = ap (has_flag (bit_of t)) (set_here s.words (bits_word r) (bit_or (slice_index s.words (bits_word r)) (bit_of x.number)) (there_inside r few))
          ∙ subst (λ (n : ℕ). has_flag (bit_of n) (bit_or (slice_index s.words (bits_word r)) (bit_of x.number)) ≡ true) number (set_sets (slice_index s.words (bits_word r)) x.number)

  gone_out : (m r : ℕ) (after : List ℕ) (held : Option Held) → was t ≡ phases.WaitOut m r → IsFat r held → ((i : ℕ) → i < MONITOR_RECORDS → is_bit_set after i t ≡ true → is_bit_set s.words i t ≡ true)
      → Waits after t (counted_by (phases.WaitOut m r) (goes_to_wait x m r held).phase)
  gone_out m r after None k fat before = absurd fat
  gone_out m r after (Some h) k fat before = record { only = λ i few set. (waits_as (phases.WaitOut m r) k).only i few (before i few set); must = tt }

  looked : (m r depth : ℕ) (after : List ℕ) (b : Bool) → has_flag (bit_of x.number) (slice_index s.words (bits_word r)) ≡ b → was t ≡ phases.WaitLook m r depth → ((i : ℕ) → i < MONITOR_RECORDS → is_bit_set after i t ≡ true → is_bit_set s.words i t ≡ true)
      → Waits after t (counted_by (phases.WaitLook m r depth) (cond b (failed_turn x (phases.WaitLook m r depth)) (with_phase x (phases.Retake m r depth))).phase)
  looked m r depth after true g k before = by_turns (nat_lt (x.turns + 1) x.cfg.turns)
    where
      by_turns : (b : Bool) → Waits after t (counted_by (phases.WaitLook m r depth) (cond b (phases.WaitLook m r depth) (phases.Ending ends.Turns)))
      by_turns true = record { only = λ i few set. (waits_as (phases.WaitLook m r depth) k).only i few (before i few set); must = tt }
      by_turns false = record { only = λ i few set. (waits_as (phases.WaitLook m r depth) k).only i few (before i few set); must = tt }
  looked m r depth after false g k before = record { only = λ i few set. no_more i few (before i few set); must = tt }
    where
      no_more : (i : ℕ) → i < MONITOR_RECORDS → is_bit_set s.words i t ≡ true → ⊥
      no_more i few set =
          let at : is_bit_set s.words r t ≡ true = subst (λ (n : ℕ). is_bit_set s.words n t ≡ true) ((waits_as (phases.WaitLook m r depth) k).only i few set) set in
          let not_at : is_bit_set s.words r t ≡ false = subst (λ (n : ℕ). is_bit_set s.words r n ≡ false) number g in
          absurd (cc)

  -- ---- a notification

  notify_looks : (m r : ℕ) (after : List ℕ) (b : Bool) → (slice_index s.words (bits_word r) == 0) ≡ b → x.phase ≡ phases.NotifyLook m r → was t ≡ phases.NotifyLook m r
      → ((i u : ℕ) → i < MONITOR_RECORDS → is_bit_set after i u ≡ true → is_bit_set s.words i u ≡ true) → ((i u : ℕ) → i < MONITOR_RECORDS → is_bit_set s.words i u ≡ true → is_bit_set after i u ≡ true)
      → Waits after t (counted_by (phases.NotifyLook m r) (cond b (runs x) (with_phase x (phases.NotifyOne m r (lowest_of (slice_index s.words (bits_word r)))))).phase)
  notify_looks m r after true g e k before behind = record {
    only = λ i few set. absurd ((waits_as (phases.NotifyLook m r) k).only i few (before i t few set));
    must = calm_must after t (counted_by (phases.NotifyLook m r) (runs x).phase) (runs_counted (phases.NotifyLook m r) x);
  }
  notify_looks m r after false g e k before behind = record {
    only = λ i few set. absurd ((waits_as (phases.NotifyLook m r) k).only i few (before i t few set));
    must = behind r (lowest_of (slice_index s.words (bits_word r))) (fits_bounds mover (phases.NotifyLook m r) e)
        (lowest_set (slice_index s.words (bits_word r)) (records.bits r (fits_bounds mover (phases.NotifyLook m r) e)) (eqb-false (slice_index s.words (bits_word r)) 0 g));
  }

  -- a thread that owns the record clears bits
  cleared : (phase : Phase) (r value : ℕ) → was t ≡ phase → record_of phase ≡ Some r → r < MONITOR_RECORDS → ((i : ℕ) → MayWait phase i → ⊥)
      → ((u : ℕ) → has_flag (bit_of u) value ≡ true → has_flag (bit_of u) (slice_index s.words (bits_word r)) ≡ true) → Owes (slice_set s.words (bits_word r) value) (counted_by phase (runs x).phase)
  cleared phase r value k of few none less = (
    record {
      less = λ i u small d set. bits_less s.words r value (there_inside r few) i u (less u) set;
      stays = λ i u small d set. bits_stay s.words r value (there_inside r few) i u (λ g was_set. absurd (d (ap (locks_in (references_of objects) s.words).owner g ∙ owner))) set;
    },
    record {
      only = λ i small set. absurd (none i ((waits_as phase k).only i small (bits_less s.words r value (there_inside r few) i t (less t) set)));
      must = calm_must (slice_set s.words (bits_word r) value) t (counted_by phase (runs x).phase) (runs_counted phase x);
    },
  )
    where
      owner : (locks_in (references_of objects) s.words).owner r ≡ t + 1
      owner = (owned_record mover phase r of k).owner

  -- ---- all phases

  by_phase : (phase : Phase) → x.phase ≡ phase → IsAs phase (was t) → Done phase
  by_phase (phases.WaitBit m r) e k = from (phases.WaitBit m r) _ (phases.WaitOut m r) k (wait_begins m r e k)
  by_phase (phases.WaitOut m r) e k = from (phases.WaitOut m r) _ _ k (still (phases.WaitOut m r) _ e tt
      (gone_out m r (words_after s.words (wanted c x (phases.WaitOut m r))) (held_at x.held m) k (phase_shows mover (phases.WaitOut m r) k).1 (λ i few set. set_before (phases.WaitOut m r) e tt i t few set)))
  by_phase (phases.WaitLook m r depth) e k = from (phases.WaitLook m r depth) _ _ k (still (phases.WaitLook m r depth) _ e tt
      (looked m r depth (words_after s.words (wanted c x (phases.WaitLook m r depth))) (has_flag (bit_of x.number) (slice_index s.words (bits_word r))) refl k (λ i few set. set_before (phases.WaitLook m r depth) e tt i t few set)))
  by_phase (phases.NotifyLook m r) e k = from (phases.NotifyLook m r) _ _ k (still (phases.NotifyLook m r) _ e tt
      (notify_looks m r (words_after s.words (wanted c x (phases.NotifyLook m r))) (slice_index s.words (bits_word r) == 0) refl e k (λ i u few set. set_before (phases.NotifyLook m r) e tt i u few set)
      (λ i u few set. (ap (has_flag (bit_of u)) (still_bits sites (on_heap mover) (phases.NotifyLook m r) e tt i few) ∙ set))))
  by_phase (phases.NotifyOne m r u) e k = from (phases.NotifyOne m r u) _ _ k
      (cleared (phases.NotifyOne m r u) r (bit_and (slice_index s.words (bits_word r)) (2 ^ 64 - 1 - bit_of u)) k refl (fits_bounds mover (phases.NotifyOne m r u) e).0 (λ i h. h) (λ w set. left_was_set (slice_index s.words (bits_word r)) (2 ^ 64 - 1 - bit_of u) w set))
  by_phase (phases.NotifyAll m r) e k = from (phases.NotifyAll m r) _ _ k (cleared (phases.NotifyAll m r) r 0 k refl (fits_bounds mover (phases.NotifyAll m r) e) (λ i h. h) (λ w set. absurd (cc)))
  by_phase (phases.Ending reason) e k = still (phases.Ending reason) _ e tt (ended_waits s.words t (was t) reason k waits)
  by_phase (phases.Ended reason) e k = still (phases.Ended reason) _ e tt (subst (λ (p : Phase). Waits s.words t (counted_by (was t) p)) (sym e) (counted_waits s.words t (was t) (phases.Ended reason) k waits))
  by_phase phase e k = calmly phase e k tt tt tt (λ r h. h)

  pub thread_kept : Waiting (counted_phase_at was t (event_of c s t (Some x)).threads) (event_of c s t (Some x))
  thread_kept =
      let owes = by_phase x.phase refl structured.is_as in
      waited_on waiter (record {
        after = words_after s.words (wanted c x x.phase);
        y = moved c x x.phase (found_by s.words (wanted c x x.phase));
        changes = owes.0;
        own = owes.1;
      })

-- ---- no thread

unmoved : (was : ℕ → Phase) (s : Core) (t : ℕ) → Waiting was s → slice_get s.threads t ≡ None
    → Waiting (counted_phase_at was t s.threads) s
unmoved was s t waiting e = record {
  each = λ u y f. subst (Waits s.words u) (sym (phase_stays was s.threads t u y e f)) (waiting.each u y f);
  others = waiting.others;
}

pub events_keep_waiting : SitesDiffer → SitesLieInside → EventsReachSites → EventsKeepWaiting
events_keep_waiting differ inside reach c cfg objects was s t marked heap threads records structure owners waiting = by_thread (slice_get s.threads t) refl
  where
    state : LockState
    state = record { base = lawful_state c cfg objects s marked heap threads; was = was; structure = structure; owners = owners }

    by_thread : (o : Option Thread) → slice_get s.threads t ≡ o → Waiting (counted_phase_at was t (event_of c s t o).threads) (event_of c s t o)
    by_thread None e = unmoved was s t waiting e
    by_thread (Some x) e = thread_kept (known_sites differ inside reach) (record { mover = mover_of state t x e; records = records; waiting = waiting })
