-- No bit of a thread is set but while it gives a monitor up and looks; and nobody waits in a record that no lock names yet.
use Rattle.std.proofs.Common.{◌≡◌, ◌≢◌, ℕ, ◌<◌, Bool, true, false, List, Option, Some, None, IsSome, refl, sym, ap, ◌∙◌, slice_get}
use Rattle.jvm_types.specs.declared.fixed_words.TheConstants.{MONITOR_RECORDS}
use Rattle.checked_program.specs.MarkedProgram.{MarkedProgram}
use Rattle.machine_types.specs.{Agreement.has_wait_bit, Core.Core, HeldMonitors.held_at, Owners.{Knows, hold_by_word, hold_by_kept, hold_by_list, IsDrawn, Owners, lock_at, owner_at, locks_in}}
use Rattle.machine_types.specs.{Structure.{IsFat, Structure, PhaseShows}, Threads.Thread, Waiting.{is_bit_set, MayWait, Waiting}, declared.{lock.{Held.Held, LockWord.LockWord}, phase.Phase.Phase}}
use Rattle.laws_states.proofs.LockViews.{fatly}
use Rattle.laws_simulation.proofs.WaitBits.{bit_by}
use Rattle.machine_types.specs.declared.lock.LockWord.TheVariants as locks
use Rattle.machine_types.specs.declared.phase.Phase.TheVariants as phases

-- neither gives a monitor up, nor looks
abbrev pub IsAwake : Phase → Type 0
IsAwake (phases.WaitOut m r) = ⊥
IsAwake (phases.WaitLook m r depth) = ⊥
IsAwake phase = Unit {0}

never_waits : (phase : Phase) (r : ℕ) → IsAwake phase → MayWait phase r → ⊥
never_waits (phases.WaitOut m k) r a w = a
never_waits (phases.WaitLook m k depth) r a w = a
never_waits phase r a w = w

module _ (references : List ℕ) (was : ℕ → Phase) (s : Core) (owners : Owners references was s)
    (waiting : Waiting was s) where
  pub no_own_bit : (t : ℕ) (x : Thread) → slice_get s.threads t ≡ Some x → IsAwake (was t) → (m : ℕ) → has_wait_bit references s.words t m ≡ false
  no_own_bit t x there awake m = (elim (lock_at references s.words m) as (λ (l : LockWord). lock_at references s.words m ≡ l → bit_by l s.words t ≡ false) [
    | locks.Fat r ↦ λ e. (elim (is_bit_set s.words r t) as (λ (b : Bool). is_bit_set s.words r t ≡ b → b ≡ false)
        [ true ↦ λ f. let w = waiting.each t x there in absurd (never_waits (was t) r awake (w.only r (owners.locks_are.below m r e).1 f)) | false ↦ λ f. refl ]) refl
    | lock ↦ λ e. refl
  ]) refl

  -- a lock names the record of each thread that may wait
  named : (c : MarkedProgram) → Structure c was s.threads → (u r : ℕ) (z : Thread) → slice_get s.threads u ≡ Some z → MayWait (was u) r → ((m : ℕ) → lock_at references s.words m ≢ locks.Fat r) → ⊥
  named c structure u r z there may never = let st = structure u z there in let own = owners.each u z there in by_phase (was u) st.stands.shown own.holds own.knows st.stands.phase_shows may
    where
      is_fat : (m k : ℕ) (o : Option Held) → IsFat k o → hold_by_word u (lock_at references s.words m) (owner_at s.words) ≡ hold_by_list o → lock_at references s.words m ≡ locks.Fat k
      is_fat m k None f e = absurd f
      is_fat m k (Some h) f e = (fatly u (lock_at references s.words m) (owner_at s.words) k (e ∙ ap hold_by_kept f)).0

      by_phase : (phase : Phase) (shown : List ℕ) → ((m : ℕ) → hold_by_word u (lock_at references s.words m) (owner_at s.words) ≡ hold_by_list (held_at z.held m)) → Knows (locks_in references s.words) u phase
          → PhaseShows c phase z.frames shown z.held z.attempt → MayWait phase r → ⊥
      by_phase (phases.WaitOut m k) shown holds knows shows may = never m (is_fat m k (held_at z.held m) shows.1 (holds m) ∙ ap locks.Fat (sym may))
      by_phase (phases.WaitLook m k depth) shown holds knows shows may = never m (knows ∙ ap locks.Fat (sym may))
      by_phase phase shown holds knows shows may = may

  pub nobody_in : (c : MarkedProgram) → Structure c was s.threads → (r u : ℕ) → r < MONITOR_RECORDS → IsDrawn (locks_in references s.words) r → is_bit_set s.words r u ≡ false
  nobody_in c structure r u low drawn = (elim (is_bit_set s.words r u) as (λ (b : Bool). is_bit_set s.words r u ≡ b → b ≡ false)
      [ true ↦ λ f. absurd (by_thread (slice_get s.threads u) refl (waiting.others r u low f) f) | false ↦ λ f. refl ]) refl
    where
      by_thread : (o : Option Thread) → slice_get s.threads u ≡ o → IsSome o → is_bit_set s.words r u ≡ true → ⊥
      by_thread None e k f = absurd (cc)
      by_thread (Some z) e k f = let w = waiting.each u z e in named c structure u r z e (w.only r low f) drawn.unnamed
