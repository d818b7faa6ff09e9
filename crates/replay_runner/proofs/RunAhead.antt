-- Events of one thread alone, as events of its machine.
use Rattle.std.proofs.Common.{◌≡◌, ◌+◌, ◌<◌, ℕ, zero, suc, Bool, true, false, List, None, refl, sym, ap, subst, ◌∙◌, arith, if◌then◌else◌, slice_index}
use Rattle.lists.proofs.ListLaws.{same_some}
use Rattle.jvm_types.specs.Numbers.{has_number}
use Rattle.checked_program.specs.MarkedProgram.{MarkedProgram, IsMarked}
use Rattle.machine_types.specs.{Accesses.found_by, Core.{Core, event, is_live}, Events.{moved, wanted}, HeldMonitors.held_at, LockWords.{lock_of, word_of_lock}}
use Rattle.machine_types.specs.{Owners.{NotHeld, hold_by_word, lock_at, owner_at, references_of}, Threads.Thread, declared.{lock.LockWord.LockWord, phase.Phase.Phase}}
use Rattle.laws_states.{specs.{RunLaws.ReachedFits, StateLaws.{EventsKeepState, StatesHaveFacts}, WorkLeft.{EventsLessenWork, work_left}}, proofs.{LockViews.not_held, WordViews.lock_of_word}}
use Rattle.step_core.specs.Alone.{ThreadWithWords, IsFine, alone, stepped_by}
use Rattle.replay_runner.{specs.{Running.{Running, events, run_on}, RunningStates.IsThreadOf}, proofs.ManyEvents.{is_lawful, reached, stays_thread}}
use Rattle.machine_types.specs.declared.lock.LockWord.TheVariants as locks
use Rattle.machine_types.specs.declared.phase.Phase.TheVariants as phases

stays_by : (m : Running) (p : MarkedProgram) (t : ℕ) (s : Thread) (words : List ℕ)
    → IsThreadOf m p t s words → EventsKeepState → (k : ℕ)
    → IsThreadOf (run_on m t k) p t (stepped_by p k (alone s words)).thread (stepped_by p k (alone s words)).words
stays_by m p t s words h keep zero = h
stays_by m p t s words h keep (suc k) =
    let was = stepped_by p k (alone s words) in
    let now = stepped_by p (suc k) (alone s words) in
    stays_thread (run_on m t k) p t was.thread now.thread was.words now.words
    (stays_by m p t s words h keep k) keep refl refl

-- ---- who holds what

-- by a free word it is nobody
not_by_free : (t noted m : ℕ) (references words : List ℕ) (owner : ℕ → ℕ) → slice_index words m ≡ word_of_lock (locks.Free noted)
    → hold_by_word t (lock_at references words m) owner ≡ NotHeld
not_by_free t noted m references words owner free = by_object (has_number references m)
  where
    by_object : (b : Bool) → hold_by_word t (if b then lock_of (slice_index words m) else locks.Free 0) owner ≡ NotHeld
    by_object true = ap (λ (l : LockWord). hold_by_word t l owner) (ap lock_of free ∙ lock_of_word (locks.Free noted))
    by_object false = refl

unheld_by : (m : Running) (p : MarkedProgram) (t : ℕ) (x : Thread) (words : List ℕ) → IsThreadOf m p t x words
    → (monitor noted : ℕ) → slice_index words monitor ≡ word_of_lock (locks.Free noted) → held_at x.held monitor ≡ None
unheld_by m p t x words h monitor noted free =
    let references = references_of h.runs.state.objects in
    let word : slice_index m.core.words monitor ≡ word_of_lock (locks.Free noted) =
    ap (λ (ws : List ℕ). slice_index ws monitor) (sym h.words_are) ∙ free in
    not_held (held_at x.held monitor)
    (sym ((h.runs.state.facts.owners.each t x h.at).holds monitor)
    ∙ not_by_free t noted monitor references m.core.words (owner_at m.core.words) word)

pub fine_of : (m : Running) (p : MarkedProgram) (t : ℕ) (s : Thread) (words : List ℕ)
    → IsThreadOf m p t s words → EventsKeepState → StatesHaveFacts → ReachedFits → (k : ℕ)
    → IsFine p (stepped_by p k (alone s words))
fine_of m p t s words h keep have fits k =
    let there = stays_by m p t s words h keep k in
    let a = stepped_by p k (alone s words) in
    record {
      lawful = is_lawful (run_on m t k) p t a.thread a.words there;
      inside = (reached (run_on m t k) p t a.thread a.words there have fits).inside;
      unheld = unheld_by (run_on m t k) p t a.thread a.words there;
    }

-- so many events ahead
pub ahead : (m : Running) (p : MarkedProgram) (t k : ℕ) (s y : Thread) (words after : List ℕ)
    → IsThreadOf m p t s words → EventsKeepState
    → stepped_by p k (alone s words) ≡ alone y after → IsThreadOf (run_on m t k) p t y after
ahead m p t k s y words after h keep is =
    subst (λ (a : ThreadWithWords). IsThreadOf (run_on m t k) p t a.thread a.words) is
    (stays_by m p t s words h keep k)

events_again : (c : MarkedProgram) (s : Core) (t n k : ℕ)
    → events c (events c s t n) t k ≡ events c s t (k + n)
events_again c s t n zero = let e : n ≡ 0 + n = omega arith in ap (events c s t) e
events_again c s t n (suc k) =
    let e : suc (k + n) ≡ suc k + n = omega arith in
    ap (λ (x : Core). event c x t) (events_again c s t n k) ∙ ap (events c s t) e

-- events behind events
pub on_again : (m : Running) (p : MarkedProgram) (t n k : ℕ) (y : Thread) (after : List ℕ)
    → IsThreadOf (run_on (run_on m t n) t k) p t y after → IsThreadOf (run_on m t (k + n)) p t y after
on_again m p t n k y after h =
    subst (λ (z : Core). IsThreadOf (record m { core = z }) p t y after)
    (events_again m.program m.core t n k) h

-- ---- what is left to do

stays_dead : (c : MarkedProgram) (x : Thread) (phase : Phase) (got : ℕ) → is_live phase ≡ false → moved c x phase got ≡ x
stays_dead c x phases.Idle got e = refl
stays_dead c x (phases.Ended how) got e = refl
stays_dead c x phase got e = cc

-- the first event of a live thread leaves less, and those behind it no more
falls_by : EventsLessenWork → (p : MarkedProgram) → IsMarked p → (k : ℕ) (a : ThreadWithWords) → ((n : ℕ) → IsFine p (stepped_by p n a)) → is_live a.thread.phase ≡ true
    → work_left (stepped_by p (suc k) a).thread < work_left a.thread
falls_by lessen p marked zero a fine live = lessen p a.thread (found_by a.words (wanted p a.thread a.thread.phase)) marked (fine 0).lawful live
falls_by lessen p marked (suc k) a fine live = by_live (is_live b.thread.phase) refl (falls_by lessen p marked k a fine live)
  where
    b : ThreadWithWords
    b = stepped_by p (suc k) a

    got : ℕ
    got = found_by b.words (wanted p b.thread b.thread.phase)

    by_live : (on : Bool) → is_live b.thread.phase ≡ on → work_left b.thread < work_left a.thread → work_left (moved p b.thread b.thread.phase got) < work_left a.thread
    by_live true e before = omega (arith, before, lessen p b.thread got marked (fine (suc k)).lawful e)
    by_live false e before = subst (λ (x : Thread). work_left x < work_left a.thread) (sym (stays_dead p b.thread b.thread.phase got e)) before

pub leaves_less : EventsLessenWork → EventsKeepState → StatesHaveFacts → ReachedFits → (m : Running) (p : MarkedProgram) (t k : ℕ) (s y : Thread) (words after : List ℕ)
    → IsThreadOf m p t s words → IsThreadOf (run_on m t (suc k)) p t y after → is_live s.phase ≡ true → work_left y < work_left s
leaves_less lessen keep have fits m p t k s y words after h now live =
    let there = stays_by m p t s words h keep (suc k) in
    let same : (stepped_by p (suc k) (alone s words)).thread ≡ y = same_some (sym there.at ∙ now.at) in
    subst (λ (x : Thread). work_left x < work_left s) same
    (falls_by lessen p (subst IsMarked (sym h.program) h.runs.marked) k (alone s words) (fine_of m p t s words h keep have fits) live)
