-- Which word each event accesses, phase by phase.
use Rattle.std.proofs.Common.{◌≡◌, ℕ, zero, suc, ◌+◌, ◌-◌, ◌^◌, Bool, true, false, List, Option, Some, None, refl, subst, nat_lt, if◌then◌else◌, IfSome}
use Rattle.checked_program.specs.MarkedProgram.{MarkedProgram}
use Rattle.machine_types.specs.{Bounds.{KeptFits, PhaseFits}, Events.wanted, FoundWords.{Content, Lock, leave_content, content_at}, HeldMonitors.held_at}
use Rattle.machine_types.specs.{LockWords.word_of_lock, Monitors.{Claim, Has, Tries, HasNot, claim, enter_wants, finish_wants, release, leave_wants, freed, count_kept, bit_of}, PlainMemory.Object}
use Rattle.machine_types.specs.{Structure.{TopIs, is_element_op, IsFlat, IsAs, PhaseShows}, Threads.Frame}
use Rattle.machine_types.specs.{Typed.{HasElementIn, HasClass, IsObject, AttemptHolds, PhaseHolds}, Words.{owner_word, bits_word}, declared.access.Access.Access}
use Rattle.machine_types.specs.declared.{access.Access.TheVariants.{Load, Store, Cas, Or, And, Rest}, lock.{Held.Held, Kept.Kept}, phase.Phase.Phase}
use Rattle.laws_threads.proofs.{HeldBounds.found, HeldLists.held_monitor, ThreadMove.has_held}
use Rattle.laws_states.{specs.{SiteLaws.EventsReachSites, Sites.{NewHeaderOf, Reaches, ReachesIf}}, proofs.Movers.{HeapMover, heap_mover}}
use Rattle.laws_states.proofs.{Accesses.{FitsAccess, FitsIf, at_lock, at_owner, at_bits, at_record_word, look_fits, run_fits, element_site, element_fits}, HeldOrTried.tried_at}
use Rattle.machine_types.specs.declared.lock.Kept.TheVariants as keeps
use Rattle.machine_types.specs.declared.lock.LockWord.TheVariants as locks
use Rattle.machine_types.specs.declared.phase.Phase.TheVariants as phases

-- ---- claims

pub some_of : {A : Type 0} (P : A → Type 0) (o : Option A) (a : A) → o ≡ Some a → IfSome o P → P a
some_of P o a e h = subst (λ x. IfSome x P) e h

-- ---- what a phase asks beside its types

abbrev pub IsOldPhase : Phase → Type 0
IsOldPhase (phases.Made a word) = ⊥
IsOldPhase phase = Unit {0}

abbrev pub Asks : MarkedProgram → List Object → Phase → List Frame → List Held → Type 0
Asks c objects (phases.Element word stored) fs held = HasElementIn objects stored fs × TopIs c (is_element_op stored) fs
Asks c objects (phases.FlatOut m a) fs held = IsFlat (held_at held m)
Asks c objects (phases.FatIn m r toward) fs held = IsFlat (held_at held m)
Asks c objects phase fs held = Unit {0}

module _ (mover : HeapMover) where
  open mover use {t, x, there, lawful, state, state.{c, objects, s, facts}}

  attempt : AttemptHolds c (HasClass objects) x.frames x.attempt
  attempt = (facts.typed.threads t x there).attempt

  held_object : (m : ℕ) (h : Held) → held_at x.held m ≡ Some h → IsObject (HasClass objects) m
  held_object m h e =
      let object = some_of (λ (g : Held). IsObject (HasClass objects) g.monitor) (held_at x.held m) h e (found (λ g. IsObject (HasClass objects) g.monitor) m x.held (facts.monitors t x there).held) in
      subst (IsObject (HasClass objects)) (held_monitor m x.held h e) object

  flat_object : (m : ℕ) (o : Option Held) → held_at x.held m ≡ o → IsFlat o → IsObject (HasClass objects) m
  flat_object m None e h = absurd h
  flat_object m (Some h) e k = held_object m h e

  leave_fits : (m : ℕ) (claimed : Claim) → claim x m ≡ claimed → FitsIf c.program objects s (leave_content claimed) (leave_wants x m claimed)
  leave_fits m (Has h) e = elim (nat_lt 1 h.depth) as (λ (b : Bool). FitsIf c.program objects s (leave_content (Has h)) (if b then None else Some (release x m h.kept)))
      [ true ↦ tt | false ↦ by_kept h.kept (some_of (λ (g : Held). KeptFits g.kept) (held_at x.held m) h there (found (λ g. KeptFits g.kept) m x.held lawful.bounded.kept)) ]
    where
      there : held_at x.held m ≡ Some h
      there = has_held m (held_at x.held m) x.attempt h e

      by_kept : (kept : Kept) → KeptFits kept → FitsAccess c.program objects s (leave_content (Has (record h { kept = kept }))) (release x m kept)
      by_kept (keeps.Flat n) k = at_lock state m (Cas m (word_of_lock (locks.Held x.number)) (freed x n)) (held_object m h there) refl
      by_kept (keeps.Fat r) k = at_owner state r (Store (owner_word r) 0) k refl
  leave_fits m (Tries a) e = elim a.inner as (λ (inner : ℕ). FitsIf c.program objects s Lock (finish_wants m inner))
      [ zero ↦ at_lock state m (Load m) object refl | suc inner ↦ tt ]
    where
      at : (x.attempt ≡ Some a) × (a.monitor ≡ m)
      at = tried_at m (held_at x.held m) x.attempt a e

      object : IsObject (HasClass objects) m
      object = let h = subst (AttemptHolds c (HasClass objects) x.frames) at.0 attempt in subst (IsObject (HasClass objects)) at.1 h.0
  leave_fits m HasNot e = tt

  enter_fits : (m : ℕ) (claimed : Claim) → IsObject (HasClass objects) m → FitsIf c.program objects s Lock (enter_wants m claimed)
  enter_fits m HasNot object = at_lock state m (Load m) object refl
  enter_fits m claimed object = tt

  phase_fits : (phase : Phase) → IsOldPhase phase → PhaseHolds c (HasClass objects) phase x.frames → PhaseFits phase → Asks c objects phase x.frames x.held → FitsIf c.program objects s (content_at c x phase) (wanted c x phase)
  phase_fits phases.Run old h b k = run_fits state x x.frames h attempt
  phase_fits (phases.Element word stored) old h b k = element_fits state word stored (element_site state word stored x.frames h.0 h.1 k.0 k.1)
  phase_fits (phases.Made a word) old h b k = absurd old
  phase_fits (phases.Throw e class) old h b k = look_fits state x.frames x.attempt attempt
  phase_fits (phases.Enter m tried) old h b k = enter_fits m (claim x m) h.0
  phase_fits (phases.Acquire m) old h b k = at_lock state m (Load m) h.0 refl
  phase_fits (phases.Take m count) old h b k = at_lock state m (Cas m (word_of_lock (locks.Free count)) (word_of_lock (locks.Held x.number))) h.0 refl
  phase_fits (phases.Flag m u) old h b k = at_lock state m (Cas m (word_of_lock (locks.Held u)) (word_of_lock (locks.Flagged u))) h.0 refl
  phase_fits (phases.TakeFat m r) old h b k = at_owner state r (Cas (owner_word r) 0 (x.number + 1)) b refl
  phase_fits (phases.Leave m a) old h b k = leave_fits m (claim x m) refl
  phase_fits (phases.Grow m toward) old h b k = at_record_word state
  phase_fits (phases.FlatOut m a) old h b k = at_lock state m (Store m (freed x (count_kept (held_at x.held m)))) (flat_object m (held_at x.held m) refl k) refl
  phase_fits (phases.Own m r toward) old h b k = at_owner state r (Store (owner_word r) (x.number + 1)) b refl
  phase_fits (phases.FatIn m r toward) old h b k = at_lock state m (Store m (word_of_lock (locks.Fat r))) (flat_object m (held_at x.held m) refl k) refl
  phase_fits (phases.WaitBit m r) old h b k = at_bits state r (Or (bits_word r) (bit_of x.number)) b refl
  phase_fits (phases.WaitOut m r) old h b k = at_owner state r (Store (owner_word r) 0) b refl
  phase_fits (phases.WaitLook m r depth) old h b k = at_bits state r (Load (bits_word r)) b refl
  phase_fits (phases.Retake m r depth) old h b k = at_owner state r (Cas (owner_word r) 0 (x.number + 1)) b refl
  phase_fits (phases.NotifyLook m r) old h b k = at_bits state r (Load (bits_word r)) b refl
  phase_fits (phases.NotifyOne m r u) old h b k = at_bits state r (And (bits_word r) (2 ^ 64 - 1 - bit_of u)) b.0 refl
  phase_fits (phases.NotifyAll m r) old h b k = at_bits state r (Store (bits_word r) 0) b refl
  phase_fits phase old h b k = tt

  -- ---- what the phase asks is so

  shown : (phase : Phase) → x.phase ≡ phase → (IsAs phase lawful.was → lawful.was ≡ phase)
      → PhaseShows c phase x.frames lawful.structured.stands.shown x.held x.attempt
  shown phase e is = subst (λ y. PhaseShows c y x.frames lawful.structured.stands.shown x.held x.attempt)
      (is (subst (λ y. IsAs y lawful.was) e lawful.structured.is_as)) lawful.structured.stands.phase_shows

  pub asked : (phase : Phase) → x.phase ≡ phase → Asks c objects phase x.frames x.held
  asked (phases.Element word stored) e =
      (facts.typed.elements t x word stored there e, shown (phases.Element word stored) e (λ is. is))
  asked (phases.FlatOut m a) e = (shown (phases.FlatOut m a) e (λ is. is)).flat
  asked (phases.FatIn m r toward) e = (shown (phases.FatIn m r toward) e (λ is. is)).flat
  asked phase e = tt

  -- ---- the law

  pub old_fits : IsOldPhase x.phase → FitsIf c.program objects s (content_at c x x.phase) (wanted c x x.phase)
  old_fits old = phase_fits x.phase old (facts.typed.threads t x there).phase lawful.bounded.phase (asked x.phase refl)

  reaches : (content : Content) (access : Access) → FitsAccess c.program objects s content access → Reaches c.program objects s content access
  reaches content Rest f = tt
  reaches content access f = record { site = f.site; there = f.there; word = f.word; suits = f.suits }

  reaches_if : (content : Content) (access : Option Access) → FitsIf c.program objects s content access → ReachesIf c.program objects s content access
  reaches_if content None f = tt
  reaches_if content (Some access) f = reaches content access f

  by_phase : (phase : Phase) → x.phase ≡ phase → (IsOldPhase phase → FitsIf c.program objects s (content_at c x phase) (wanted c x phase)) → ReachesIf c.program objects s (content_at c x phase) (wanted c x phase)
  by_phase (phases.Made a word) e fits = record { site = NewHeaderOf a; there = (t, x, word, there, e); word = refl; suits = tt }
  by_phase phases.Idle e fits = tt
  by_phase phases.Start e fits = tt
  by_phase phase e fits = reaches_if (content_at c x phase) (wanted c x phase) (fits tt)

  pub event_reaches : ReachesIf c.program objects s (content_at c x x.phase) (wanted c x x.phase)
  event_reaches = by_phase x.phase refl old_fits

pub events_reach : EventsReachSites
events_reach c objects s t x marked facts there lawful = event_reaches (heap_mover c marked objects s facts t x there lawful)
