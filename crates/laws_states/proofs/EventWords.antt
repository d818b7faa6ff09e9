-- What an event leaves of the words for locking and of the counters.
use Rattle.std.proofs.Common.{⊎_elim, ◌≡◌, ◌⊎◌, inl, inr, ℕ, zero, suc, ◌+◌, ◌*◌, ◌<◌, ◌≤◌, ◌^◌, Bool, true, false, List, ◌∷◌, length, Option, Some, None, refl, ap, sym, subst, ◌∙◌, arith, Contains, slice_index, slice_set, ◌==◌, if◌then◌else◌}
use Rattle.lists.proofs.ListLaws.{same_some}
use Rattle.jvm_types.specs.declared.{class_numbers.TheConstants.INT_ARRAY_CLASS, fixed_words.TheConstants.{NEXT_FREE_WORD, NEXT_TICKET_WORD, NEXT_RECORD_WORD}}
use Rattle.jvm_types.specs.declared.program.Program.{Program}
use Rattle.checked_program.specs.MarkedProgram.{MarkedProgram}
use Rattle.machine_types.specs.{Accesses.{accessed, left_by, performed, words_after}, Events.wanted, FoundWords.{Content, Lock, Owner, Bits, Any, content_at}, Frames.top_of}
use Rattle.machine_types.specs.{Lawful.within, NewObjects.size_by, PlainMemory.{Object, new_object}, Structure.{IsStructured, Stands}, Threads.Thread, Typed.PhaseHolds}
use Rattle.machine_types.specs.{Words.{header_word, header_class, header_length, array_size, object_size}, declared.{access.Access.{Access, TheVariants.{Store, Rest}}, phase.Phase.Phase}}
use Rattle.laws_threads.proofs.ThreadMove.{begun_by}
use Rattle.laws_states.specs.{Counters.most_size, HeapFacts.objects_by, LeftWords.LeftMayStand, SharedWords.{IsLock, MayStand, LocksFit, RecordsFit}}
use Rattle.laws_states.specs.Sites.{Site, Counter, OwnerOf, BitsOf, LockOf, NewHeaderOf, site_word, IsThere, Suits, IsAccessOf, ReachesIf}
use Rattle.laws_states.proofs.{CountedEvents.drawn_by, LeftSmall.{PhaseStores, IsMade, only_adds, added, adds_few, AddsFew}, LeftStands.word_is_lock, Lists.{same_or_not, set_here, set_there}}
use Rattle.laws_states.proofs.{Movers.{KnownSites, HeapMover, few_threads}, TopStores.{stores_fit, stored_small}}
use Rattle.machine_types.specs.declared.lock.LockWord.TheVariants as locks
use Rattle.machine_types.specs.declared.phase.Phase.TheVariants as phases

-- ---- what suits a site

lock_suits : (content : Content) (r : ℕ) → Suits content (LockOf r) → content ≡ Lock
lock_suits Lock r h = refl
lock_suits content r h = absurd h

owner_suits : (content : Content) (r : ℕ) → Suits content (OwnerOf r) → content ≡ Owner
owner_suits Owner r h = refl
owner_suits content r h = absurd h

bits_suit : (content : Content) (r : ℕ) → Suits content (BitsOf r) → content ≡ Bits
bits_suit Bits r h = refl
bits_suit content r h = absurd h

counter_suits : (content : Content) (w : ℕ) → Suits content (Counter w) → content ≡ Any
counter_suits Any w h = refl
counter_suits content w h = absurd h

-- ---- what a thread stores

pub some_words : (a : ℕ) (p : Program) (word : ℕ) → a < a + size_by p word
some_words a p word = elim (header_class word == INT_ARRAY_CLASS) as (λ (b : Bool). a < a + (if b then array_size (header_length word) else object_size p (header_class word)))
    [ true ↦ omega arith | false ↦ omega arith ]

-- an event has left the word of the site so
pub record IsLeft (c : MarkedProgram) (words : List ℕ) (x : Thread) (site : Site) : Type 0 where
  pub access : Access
  pub wants : wanted c x x.phase ≡ Some access
  pub suits : Suits (content_at c x x.phase) site
  pub word : accessed access ≡ site_word site
  pub left : slice_index (words_after words (wanted c x x.phase)) (site_word site) ≡ left_by access (slice_index words (site_word site))

module _ (mover : HeapMover) where
  open mover use {t, x, there, lawful, state.{c, marked, objects, s, facts}}

  pub phase_stores : PhaseStores c x x.phase
  phase_stores = by_phase x.phase refl lawful.structured lawful.typed.values.phase
    where
      by_phase : (phase : Phase) → x.phase ≡ phase → IsStructured c lawful.was (record x { phase = phase }) → PhaseHolds c (within c.program) phase x.frames → PhaseStores c x phase
      by_phase phases.Run e st h = λ at top. stores_fit c marked x.frames at h top
      by_phase (phases.Element word stored) e st h = by_stored word stored (subst (λ (phase : Phase). Stands c phase x.frames x.held x.attempt) st.is_as st.stands) h
        where
          by_stored : (word : ℕ) (stored : Option ℕ) → Stands c (phases.Element word stored) x.frames x.held x.attempt → PhaseHolds c (within c.program) (phases.Element word stored) x.frames → (v : ℕ) → stored ≡ Some v → v < 2 ^ 64
          by_stored word None stands h v e = absurd (cc)
          by_stored word (Some u) stands h v e = let same : u ≡ v = cc in subst (λ (n : ℕ). n < 2 ^ 64) same (stored_small c marked x.frames word u h.1 stands.phase_shows h.0)
      by_phase (phases.Made a word) e st h = omega (arith, (facts.new_headers t x a word there e).fits, marked.checked.program.heap_to)
      by_phase phase e st h = tt

  abbrev pub after : List ℕ
  after = words_after s.words (wanted c x x.phase)

  -- ---- the word of a site is as it was, or its thread has left it so

  module _ (sites : KnownSites) where
    open sites use {differ, inside, reach}

    touched : (a : Access) → wanted c x x.phase ≡ Some a → performed s.words a ≡ slice_set s.words (accessed a) (left_by a (slice_index s.words (accessed a)))
        → IsAccessOf c.program objects s (content_at c x x.phase) a → (site : Site) → IsThere c.program objects s site
        → (slice_index after (site_word site) ≡ slice_index s.words (site_word site)) ⊎ IsLeft c s.words x site
    touched a e p k site is = elim (same_or_not (site_word site) (accessed a)) [
      | inr d ↦ inl (ap (λ (ws : List ℕ). slice_index ws (site_word site)) sets ∙ set_there s.words (accessed a) (site_word site) (left_by a (slice_index s.words (accessed a))) d)
      | inl d ↦
          let here : slice_index (slice_set s.words (accessed a) (left_by a (slice_index s.words (accessed a)))) (accessed a) ≡ left_by a (slice_index s.words (accessed a)) =
          set_here s.words (accessed a) _ (subst (λ (n : ℕ). n < length s.words) (sym k.word) (inside c objects s k.site marked facts k.there)) in
          inr (record {
            access = a;
            wants = e;
            suits = subst (Suits (content_at c x x.phase)) (differ c objects s k.site site marked facts k.there is (sym k.word ∙ sym d)) k.suits;
            word = sym d;
            left = ap (λ (ws : List ℕ). slice_index ws (site_word site)) sets
                ∙ subst (λ (n : ℕ). slice_index (slice_set s.words (accessed a) (left_by a (slice_index s.words (accessed a)))) n ≡ left_by a (slice_index s.words n)) (sym d) here;
          })
    ]
      where
        sets : after ≡ slice_set s.words (accessed a) (left_by a (slice_index s.words (accessed a)))
        sets = ap (words_after s.words) e ∙ p

    pub word_at : (site : Site) → IsThere c.program objects s site → (slice_index after (site_word site) ≡ slice_index s.words (site_word site)) ⊎ IsLeft c s.words x site
    word_at site is = by_access (wanted c x x.phase) refl (reach c objects s t x marked facts there lawful)
      where
        by_access : (a : Option Access) → wanted c x x.phase ≡ a → ReachesIf c.program objects s (content_at c x x.phase) a → (slice_index after (site_word site) ≡ slice_index s.words (site_word site)) ⊎ IsLeft c s.words x site
        by_access None e k = inl (ap (λ (a : Option Access). slice_index (words_after s.words a) (site_word site)) e)
        by_access (Some Rest) e k = inl (ap (λ (a : Option Access). slice_index (words_after s.words a) (site_word site)) e)
        by_access (Some a) e k = touched a e refl k site is

    -- ---- words for locking

    module _ (leaves : LeftMayStand) where
      -- where the content of the event's access is that of the site
      stands : (site : Site) (content : Content) → IsThere c.program objects s site → (Suits (content_at c x x.phase) site → content_at c x x.phase ≡ content)
          → MayStand x.cfg.range content (slice_index s.words (site_word site)) → MayStand x.cfg.range content (slice_index after (site_word site))
      stands site content is suits may = elim (word_at site is) [
        | inl e ↦ subst (MayStand x.cfg.range content) (sym e) may
        | inr k ↦
            let same : content_at c x x.phase ≡ content = suits k.suits in
            let found : MayStand x.cfg.range (content_at c x x.phase) (slice_index s.words (site_word site)) = subst (λ (n : Content). MayStand x.cfg.range n (slice_index s.words (site_word site))) (sym same) may in
            subst (MayStand x.cfg.range content) (sym k.left) (subst (λ (n : Content). MayStand x.cfg.range n (left_by k.access (slice_index s.words (site_word site)))) same
            (leaves c x k.access (slice_index s.words (site_word site)) (few_threads mover) lawful.bounded k.wants found))
      ]

      pub records_fit : RecordsFit s.words → RecordsFit after
      records_fit h = record {
        owners = λ r is. stands (OwnerOf r) Owner is (owner_suits (content_at c x x.phase) r) (h.owners r is);
        bits = λ r is. stands (BitsOf r) Bits is (bits_suit (content_at c x x.phase) r) (h.bits r is);
      }

      old_lock : (o : Object) → Contains objects o → IsLock x.cfg.range (slice_index s.words o.reference) → IsLock x.cfg.range (slice_index after o.reference)
      old_lock o is h = stands (LockOf o.reference) Lock (o, is, refl) (lock_suits (content_at c x x.phase) o.reference) h

      -- the lock of a new object is free
      new_lock : (a word : ℕ) → x.phase ≡ phases.Made a word → IsLock x.cfg.range (slice_index after a)
      new_lock a word e =
          let new = facts.new_objects.each t x a word there e in
          let stays : slice_index after a ≡ slice_index s.words a = ap (λ (phase : Phase). slice_index (words_after s.words (wanted c x phase)) a) e ∙ set_there s.words (header_word a) a word (λ k. omega (arith, k)) in
          subst (IsLock x.cfg.range) (sym (stays ∙ (new.empty a (omega arith) (some_words a c.program word)))) (word_is_lock x.cfg.range (locks.Free 0) (omega arith))

      pub locks_fit : LocksFit x.cfg.range objects s.words → LocksFit x.cfg.range (objects_by c.program x.phase objects) after
      locks_fit h = (elim x.phase as (λ (phase : Phase). x.phase ≡ phase → LocksFit x.cfg.range (objects_by c.program phase objects) after)
          [ phases.Made a word ↦ λ e. more a word e | phase ↦ λ e. old ]) refl
        where
          old : (o : Object) → Contains objects o → IsLock x.cfg.range (slice_index after o.reference)
          old o is = old_lock o is (h o is)

          more : (a word : ℕ) → x.phase ≡ phases.Made a word → (o : Object) → Contains (new_object a word (size_by c.program word) ∷ objects) o → IsLock x.cfg.range (slice_index after o.reference)
          more a word e o (zero, lt, is) = let same : new_object a word (size_by c.program word) ≡ o = is in subst (λ (y : Object). IsLock x.cfg.range (slice_index after y.reference)) same (new_lock a word e)
          more a word e o (suc i, lt, is) = old o (i, omega (arith, lt), is)

    -- ---- counters

    -- it is added to, or nothing is done to it
    grows : (w most : ℕ) → IsThere c.program objects s (Counter w) → ((access : Access) → wanted c x x.phase ≡ Some access → accessed access ≡ w → added access ≤ most) → slice_index after w ≤ slice_index s.words w + most
    grows w most is few = ⊎_elim (λ (e : slice_index after w ≡ slice_index s.words w). omega (arith, e))
        (λ (k : IsLeft c s.words x (Counter w)).
        let only = only_adds c x x.phase k.access (slice_index s.words w) k.wants phase_stores (counter_suits (content_at c x x.phase) w k.suits) (made_not k x.phase refl) in
        let less = few k.access k.wants k.word in
        let left : slice_index after w ≡ left_by k.access (slice_index s.words w) = k.left in
        omega (arith, left, only, less)) (word_at (Counter w) is)
      where
        made_not : IsLeft c s.words x (Counter w) → (phase : Phase) → x.phase ≡ phase → IsMade phase → ⊥
        made_not k (phases.Made a word) e made =
            let wants : Some (Store (header_word a) word) ≡ Some k.access = ap (λ (phase : Phase). wanted c x phase) (sym e) ∙ k.wants in
            let sites : NewHeaderOf a ≡ Counter w = differ c objects s (NewHeaderOf a) (Counter w) marked facts (t, x, word, there, e) is (ap accessed (same_some wants) ∙ k.word) in
            absurd (cc)
        made_not k phase e made = absurd made

    abbrev pub began : ℕ
    began = begun_by x.phase (top_of c.program x.frames)

    adds : (access : Access) → wanted c x x.phase ≡ Some access → AddsFew access began (drawn_by x.phase)
    adds access w = adds_few c x x.phase access w phase_stores

    -- how far each counter comes
    pub record CountersGrow : Type 0 where
      pub free : slice_index after NEXT_FREE_WORD ≤ slice_index s.words NEXT_FREE_WORD + most_size * began
      pub tickets : slice_index after NEXT_TICKET_WORD ≤ slice_index s.words NEXT_TICKET_WORD + began
      pub records : slice_index after NEXT_RECORD_WORD ≤ slice_index s.words NEXT_RECORD_WORD + drawn_by x.phase

    pub counters_grow : CountersGrow
    counters_grow = record {
      free = grows NEXT_FREE_WORD (most_size * began) (omega arith, omega arith) (λ access w at. (adds access w).free at);
      tickets = grows NEXT_TICKET_WORD began (omega arith, omega arith) (λ access w at. (adds access w).tickets at);
      records = grows NEXT_RECORD_WORD (drawn_by x.phase) (omega arith, omega arith) (λ access w at. (adds access w).records at);
    }
