-- Where the lock word of an attempt's monitor is as the attempt noted it after an event of another thread, it was so before; and
-- where it is so, no thread holds the monitor.
use Rattle.std.proofs.Common.{◌≡◌, inl, inr, ℕ, ◌<◌, ◌≤◌, Bool, true, false, List, Option, Some, None, refl, sym, ap, ◌∙◌, subst, arith, slice_get, slice_index, if◌then◌else◌}
use Rattle.jvm_types.specs.Numbers.{has_number}
use Rattle.checked_program.specs.MarkedProgram.{MarkedProgram, IsMarked}
use Rattle.machine_types.specs.{Accesses.words_after, Attempts.IsAsNoted, Core.Core, Events.wanted, Guards.HoldsMonitor, HeldMonitors.held_at, LockWords.{word_of_lock, lock_of}}
use Rattle.machine_types.specs.{Owners.{Locks, NotHeld, HeldFlat, hold_by_word, hold_by_kept, hold_by_list, AttemptSawIn, IsKeptCount, IsKeptIn, lock_at, locks_in, references_of}, PlainMemory.Object}
use Rattle.machine_types.specs.{Structure.{IsFlat, IsStructured, Stands}, Threads.{Attempt, Thread}, Typed.{HasClass, AttemptHolds, IsObject}, declared.{config.Config.Config, lock.Held.Held}}
use Rattle.machine_types.specs.declared.{lock.{Kept.{Kept, TheVariants.Flat}, LockWord.{LockWord, TheVariants.Free}}, phase.Phase.{Phase, TheVariants.FlatOut}}
use Rattle.laws_states.{specs.{Sites.{LockOf, HasObject}, StateFacts.StateFacts}, proofs.EventWords.{word_at}}
use Rattle.laws_states.proofs.{LockViews.{not_held, thin_if_flat}, LockWritten.thin_seen, Movers.{KnownSites, heap_mover}, WordViews.lock_of_word}
use Rattle.laws_refinement.proofs.FreeLocks.{phase_leaves}

-- ---- nobody holds a free lock

free_at : (references words : List ℕ) (m n : ℕ) → slice_index words m ≡ word_of_lock (Free n) → (l : ℕ) × (lock_at references words m ≡ Free l)
free_at references words m n e = elim (has_number references m) as (λ (b : Bool). (l : ℕ) × ((if b then lock_of (slice_index words m) else Free 0) ≡ Free l)) [ true ↦ (n, ap lock_of e ∙ lock_of_word (Free n)) | false ↦ (0, refl) ]

module _ (c : MarkedProgram) (cfg : Config) (objects : List Object) (was : ℕ → Phase) (s : Core) (t : ℕ) (x : Thread) (facts : StateFacts c cfg objects was s) (there : slice_get s.threads t ≡ Some x) where
  abbrev v : Locks
  v = locks_in (references_of objects) s.words

  pub held_not : (m n : ℕ) → slice_index s.words m ≡ word_of_lock (Free n) → HoldsMonitor m x → ⊥
  held_not m n e (h, has) =
      let by_word : hold_by_word t (v.lock m) v.owner ≡ NotHeld = ap (λ (l : LockWord). hold_by_word t l v.owner) (free_at (references_of objects) s.words m n e).1 in
      let none : held_at x.held m ≡ None = not_held (held_at x.held m) (sym ((facts.owners.each t x there).holds m) ∙ by_word) in
      absurd (cc)

  -- ---- the attempt of another thread

  module _ (u : ℕ) (y : Thread) (there_too : slice_get s.threads u ≡ Some y) (a : Attempt) (tries : y.attempt ≡ Some a) where
    has_monitor : HasObject objects a.monitor
    has_monitor =
        let m : IsObject (HasClass objects) a.monitor = (subst (AttemptHolds c (HasClass objects) y.frames) tries (facts.heap.typed.threads u y there_too).attempt).0 in
        (m.1.0, m.1.1, m.1.2)

    saw : AttemptSawIn v facts.owners.count y.cfg (Some a)
    saw = subst (AttemptSawIn v facts.owners.count y.cfg) tries (facts.owners.each u y there_too).attempt

    -- what the thread keeps of the monitor is no earlier count
    kept : (h : Held) (count : ℕ) → held_at x.held a.monitor ≡ Some h → h.kept ≡ Flat count → a.noted ≤ count
    kept h count e flat =
        let own = facts.owners.each t x there in
        let hold : hold_by_word t (v.lock a.monitor) v.owner ≡ HeldFlat = own.holds a.monitor ∙ ap hold_by_list e ∙ ap hold_by_kept flat in
        let same : count ≡ facts.owners.count a.monitor = subst (λ (k : Kept). IsKeptCount k (facts.owners.count a.monitor)) flat (subst (λ (o : Option Held). IsKeptIn o (facts.owners.count a.monitor)) e (own.keeps_count a.monitor)) in
        omega (arith, thin_seen (v.lock a.monitor) a.noted (facts.owners.count a.monitor) (thin_if_flat t (v.lock a.monitor) v.owner hold) saw.seen, same)

    flat_out : (b : ℕ) (after : _) → x.phase ≡ FlatOut b after → IsFlat (held_at x.held b)
    flat_out b after e =
        let st : IsStructured c (was t) (record x { phase = FlatOut b after }) = subst (λ (phase : Phase). IsStructured c (was t) (record x { phase = phase })) e (facts.structure t x there) in
        (subst (λ (phase : Phase). Stands c phase x.frames x.held x.attempt) st.is_as st.stands).phase_shows.flat

    pub noted_before : KnownSites → IsMarked c → IsAsNoted (words_after s.words (wanted c x x.phase)) a → IsAsNoted s.words a
    noted_before sites marked now = elim (word_at (heap_mover c marked objects s facts.heap t x there (facts.threads.lawful t x there)) sites (LockOf a.monitor) has_monitor) [
      | inl e ↦ sym e ∙ now
      | inr k ↦ phase_leaves c x a.monitor a.noted (slice_index s.words a.monitor)
          (subst (λ (g : Config). a.noted < g.range) ((facts.threads.own u y there_too).settings ∙ sym (facts.threads.own t x there).settings) saw.not_last)
          kept k.access k.word x.phase flat_out k.wants k.suits (sym k.left ∙ now)
    ]
