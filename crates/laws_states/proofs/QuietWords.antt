-- Most events change nothing of what the words say of locks.
use Rattle.std.proofs.Common.{◌≡◌, ◌≢◌, ◌⊎◌, inl, inr, ℕ, ◌<◌, nat_lt, Bool, true, false, cond, ◌∷◌, Option, Some, refl, sym, ap, ◌∙◌, subst, arith, slice_index, ◌==◌, ◌||◌}
use Rattle.std.proofs.lemmas.Bool.Decides.{nat_tests, Decides-eqb}
use Rattle.lists.proofs.ListLaws.{same_some}
use Rattle.jvm_types.specs.{Numbers.has_number, declared.{fixed_words.TheConstants.{NEXT_FREE_WORD, NEXT_TICKET_WORD, NEXT_RECORD_WORD, MONITOR_RECORDS}, program.{Program.Program, Target.Target}}}
use Rattle.checked_program.specs.MarkedProgram.{MarkedProgram}
use Rattle.machine_types.specs.{Accesses.{accessed, left_by, words_after}, Events.wanted, FoundWords.{Content, Bits, IntPlace, ReferencePlace, Any, effect_content, run_content, content_at}}
use Rattle.machine_types.specs.{Frames.{Top, top_of, effect_at}, LockWords.lock_of, Owners.{lock_at, owner_at, locks_in, references_of}}
use Rattle.machine_types.specs.{Threads.Thread, Words.{owner_word, header_word}, declared.{access.Access.{Access, TheVariants.{Add}}, effect.Effect.Effect}}
use Rattle.machine_types.specs.declared.{effect.Effect.TheVariants.{Writes}, phase.Phase.Phase}
use Rattle.laws_states.{specs.{HeapFacts.objects_by, Sites.{Site, Counter, OwnerOf, LockOf, NewHeaderOf, site_word, IsThere, Suits}}, proofs.EventWords.{IsLeft, phase_stores, word_at, some_words}}
use Rattle.laws_states.proofs.{LeftSmall.PhaseStores, LeftStands.{Wants, loads, writes, makes, prints, run_wanted}, Lists.set_there, Movers.{KnownSites, HeapMover}, SameTally.LeavesLocks, TopStores.{IsPlace, StoresFit}}
use Rattle.laws_states.proofs.WordViews.{has_object, views_same, record_there}
use Rattle.machine_types.specs.declared.lock.LockWord.TheVariants as locks
use Rattle.machine_types.specs.declared.phase.Phase.TheVariants as phases

-- ---- the words that say of locks

abbrev pub IsLockSite : Site → Type 0
IsLockSite (LockOf reference) = Unit {0}
IsLockSite (OwnerOf r) = Unit {0}
IsLockSite (Counter word) = word ≡ NEXT_RECORD_WORD
IsLockSite site = ⊥

place_suits_none : (content : Content) (site : Site) → IsPlace content → IsLockSite site → Suits content site → ⊥
place_suits_none IntPlace (LockOf r) is lock suits = suits
place_suits_none ReferencePlace (LockOf r) is lock suits = suits
place_suits_none content site is lock suits = assumption

bits_suit_none : (site : Site) → IsLockSite site → Suits Bits site → ⊥
bits_suit_none (LockOf r) lock suits = suits
bits_suit_none site lock suits = assumption

-- another counter, or a header, is none of them
any_is_record : (site : Site) → IsLockSite site → Suits Any site → site_word site ≡ NEXT_RECORD_WORD
any_is_record (Counter w) lock suits = lock
any_is_record site lock suits = absurd (assumption)

-- ---- accesses that leave them

module _ (site : Site) (lock : IsLockSite site) (got : ℕ) where
  counter_not : (a : Access) → accessed a ≡ site_word site → accessed a ≢ NEXT_RECORD_WORD → Suits Any site → left_by a got ≡ got
  counter_not a at d suits = absurd (d (at ∙ any_is_record site lock suits))

  effect_leaves : (p : Program) (target : Target) (e : Effect) (a : Access) → Wants e a → accessed a ≡ site_word site → StoresFit p target e → Suits (effect_content p target e) site → left_by a got ≡ got
  effect_leaves p target _ _ (loads e w) at fits suits = refl
  effect_leaves p target _ _ (writes v word) at fits suits = absurd (place_suits_none (effect_content p target (Writes v word)) site fits.0 lock suits)
  effect_leaves p target _ _ (makes word size) at fits suits = counter_not (Add NEXT_FREE_WORD size) at (λ e. absurd (omega (arith, e))) suits
  effect_leaves p target _ _ (prints n) at fits suits = counter_not (Add NEXT_TICKET_WORD 1) at (λ e. absurd (omega (arith, e))) suits

-- ---- phases

abbrev pub IsQuiet : Phase → Type 0
IsQuiet (phases.Throw x class) = ⊥
IsQuiet phase = LeavesLocks phase

quiet_leaves : (c : MarkedProgram) (s : Thread) (phase : Phase) (site : Site) (access : Access) (got : ℕ) → IsQuiet phase → PhaseStores c s phase → ((a word : ℕ) → phase ≡ phases.Made a word → header_word a ≢ NEXT_RECORD_WORD)
    → IsLockSite site → wanted c s phase ≡ Some access → Suits (content_at c s phase) site → accessed access ≡ site_word site → left_by access got ≡ got
quiet_leaves c s phases.Run site access got quiet fits apart lock w suits at =
    let k = run_wanted c.program s access (top_of c.program s.frames) w in
    effect_leaves site lock got c.program k.0.target (effect_at c.program k.0) access k.2 at (fits k.0 k.1) (subst (λ (o : Option Top). Suits (run_content c.program o) site) k.1 suits)
quiet_leaves c s (phases.Element word stored) site access got quiet fits apart lock w suits at = absurd (place_suits_none IntPlace site tt lock suits)
quiet_leaves c s (phases.Made a word) site access got quiet fits apart lock w suits at = counter_not site lock got access at (λ e. apart a word refl (ap accessed (same_some w) ∙ e)) suits
quiet_leaves c s (phases.WaitBit m r) site access got quiet fits apart lock w suits at = absurd (bits_suit_none site lock suits)
quiet_leaves c s (phases.NotifyLook m r) site access got quiet fits apart lock w suits at = absurd (bits_suit_none site lock suits)
quiet_leaves c s (phases.NotifyOne m r u) site access got quiet fits apart lock w suits at = absurd (bits_suit_none site lock suits)
quiet_leaves c s (phases.NotifyAll m r) site access got quiet fits apart lock w suits at = absurd (bits_suit_none site lock suits)
quiet_leaves c s (phases.Ending e) site access got quiet fits apart lock w suits at = ap (λ (a : Access). left_by a got) (sym (same_some w))
quiet_leaves c s phase site access got quiet fits apart lock w suits at = absurd (first_of (assumption, cc))

-- ---- the words

module _ (sites : KnownSites) (mover : HeapMover) (quiet : IsQuiet mover.x.phase) where
  open mover use {t, x, there, state.{c, marked, objects, s, facts}}

  same_word : (site : Site) → IsLockSite site → IsThere c.program objects s site → slice_index (words_after s.words (wanted c x x.phase)) (site_word site) ≡ slice_index s.words (site_word site)
  same_word site lock is = by_cases (word_at mover sites site is)
    where
      by_cases : (slice_index (words_after s.words (wanted c x x.phase)) (site_word site) ≡ slice_index s.words (site_word site)) ⊎ IsLeft c s.words x site
          → slice_index (words_after s.words (wanted c x x.phase)) (site_word site) ≡ slice_index s.words (site_word site)
      by_cases (inl e) = e
      by_cases (inr k) = k.left ∙ quiet_leaves c x x.phase site k.access (slice_index s.words (site_word site)) quiet (phase_stores mover)
          (λ a word e f. made_apart a word e f) lock k.wants k.suits k.word
        where
          made_apart : (a word : ℕ) → x.phase ≡ phases.Made a word → header_word a ≢ NEXT_RECORD_WORD
          made_apart a word e f = let same : NewHeaderOf a ≡ Counter NEXT_RECORD_WORD = sites.differ c objects s (NewHeaderOf a) (Counter NEXT_RECORD_WORD) marked facts (t, x, word, there, e) (record_there c objects s) f in cc

  old_lock : (m : ℕ) → lock_at (references_of objects) (words_after s.words (wanted c x x.phase)) m ≡ lock_at (references_of objects) s.words m
  old_lock m = (elim (has_number (references_of objects) m) as
      (λ (b : Bool). has_number (references_of objects) m ≡ b → cond b (lock_of (slice_index (words_after s.words (wanted c x x.phase)) m)) (locks.Free 0) ≡ cond b (lock_of (slice_index s.words m)) (locks.Free 0))
      [ true ↦ λ e. ap lock_of (same_word (LockOf m) tt (has_object objects m e)) | false ↦ λ e. refl ]) refl

  -- the lock of a new object is free
  new_lock : (a word : ℕ) → x.phase ≡ phases.Made a word → (m : ℕ) → lock_at (a ∷ references_of objects) (words_after s.words (wanted c x x.phase)) m ≡ lock_at (references_of objects) s.words m
  new_lock a word e m = by_test (a == m) refl (old_lock m)
    where
      zero_there : slice_index s.words a ≡ 0
      zero_there = let new = facts.new_objects.each t x a word there e in new.empty a (omega arith) (some_words a c.program word)

      stays : slice_index (words_after s.words (wanted c x x.phase)) a ≡ slice_index s.words a
      stays = ap (λ (phase : Phase). slice_index (words_after s.words (wanted c x phase)) a) e ∙ set_there s.words (header_word a) a word (λ k. omega (arith, k))

      free : (b : Bool) → cond b (lock_of 0) (locks.Free 0) ≡ locks.Free 0
      free true = refl
      free false = refl

      by_test : (b : Bool) → (a == m) ≡ b → lock_at (references_of objects) (words_after s.words (wanted c x x.phase)) m ≡ lock_at (references_of objects) s.words m
          → cond (b || has_number (references_of objects) m) (lock_of (slice_index (words_after s.words (wanted c x x.phase)) m)) (locks.Free 0) ≡ lock_at (references_of objects) s.words m
      by_test true f old =
          let same : a ≡ m = (Decides-eqb a m).0 f in
          ap (λ (j : ℕ). lock_of (slice_index (words_after s.words (wanted c x x.phase)) j)) (sym same) ∙ ap lock_of (stays ∙ zero_there)
          ∙ sym (ap (λ (j : ℕ). cond (has_number (references_of objects) m) (lock_of j) (locks.Free 0)) (ap (slice_index s.words) (sym same) ∙ zero_there) ∙ free (has_number (references_of objects) m))
      by_test false f old = old

  pub quiet_view : locks_in (references_of (objects_by c.program x.phase objects)) (words_after s.words (wanted c x x.phase)) ≡ locks_in (references_of objects) s.words
  quiet_view = views_same (references_of objects) (references_of (objects_by c.program x.phase objects)) s.words (words_after s.words (wanted c x x.phase)) ((elim x.phase as
      (λ (phase : Phase). x.phase ≡ phase → (m : ℕ) → lock_at (references_of (objects_by c.program phase objects)) (words_after s.words (wanted c x x.phase)) m ≡ lock_at (references_of objects) s.words m)
      [ phases.Made a word ↦ λ e m. new_lock a word e m | phase ↦ λ e m. old_lock m ]) refl) owner (same_word (Counter NEXT_RECORD_WORD) refl (record_there c objects s))
    where
      owner : (r : ℕ) → owner_at (words_after s.words (wanted c x x.phase)) r ≡ owner_at s.words r
      owner r = (elim (nat_lt r MONITOR_RECORDS) as
          (λ (b : Bool). nat_lt r MONITOR_RECORDS ≡ b → cond b (slice_index (words_after s.words (wanted c x x.phase)) (owner_word r)) 0 ≡ cond b (slice_index s.words (owner_word r)) 0)
          [ true ↦ λ e. let low : r < MONITOR_RECORDS = grind (arith, nat_tests, e) in same_word (OwnerOf r) tt low | false ↦ λ e. refl ]) refl

-- in the phase that the thread is in
pub quiet_at : KnownSites → (mover : HeapMover) (phase : Phase) → mover.x.phase ≡ phase → IsQuiet phase
    → locks_in (references_of (objects_by mover.state.c.program phase mover.state.objects)) (words_after mover.state.s.words (wanted mover.state.c mover.x phase)) ≡ locks_in (references_of mover.state.objects) mover.state.s.words
quiet_at sites mover phase e = subst
    (λ (p : Phase). IsQuiet p → locks_in (references_of (objects_by mover.state.c.program p mover.state.objects)) (words_after mover.state.s.words (wanted mover.state.c mover.x p)) ≡ locks_in (references_of mover.state.objects) mover.state.s.words) e
    (λ q. quiet_view sites mover q)
