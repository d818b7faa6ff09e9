-- A write of a lock word, of the owner of a monitor record or of the next record leaves all words that the plain machine knows of.
use Rattle.std.proofs.{Common.{◌≡◌, ◌≢◌, inl, inr, ℕ, ◌<◌, ◌≤◌, Bool, true, false, cond, Some, refl, sym, ap, ◌∙◌, subst, arith, slice_index, slice_set, ◌==◌}, lemmas.Bool.Decides.Decides-eqb}
use Rattle.std.proofs.lemmas.Bool.{cases_Bool}
use Rattle.jvm_types.specs.{Numbers.has_number, declared.fixed_words.TheConstants.{FIRST_READY_WORD, MONITOR_RECORDS, NEXT_FREE_WORD, NEXT_RECORD_WORD, NEXT_TICKET_WORD}}
use Rattle.machine_types.specs.{Agreement.has_wait_bit, LockWords.lock_of, Owners.{Locks, lock_at, references_of}, PlainState.value_at, StartLaws.StartLiesApart, Waiting.is_bit_set}
use Rattle.machine_types.{specs.{Words.{bits_word, owner_word}, declared.lock.LockWord.LockWord}, proofs.AttemptsPlain.size_two}
use Rattle.laws_states.{specs.Sites.{Site, BitsOf, Counter, OwnerOf, LockOf, site_word, HasObject, IsThere}, proofs.{Lists.{contained_got, set_there}, Sites.{New, block, InNew, in_block, same_block}}}
use Rattle.laws_states.proofs.WordViews.{has_object, lock_view, record_there}
use Rattle.laws_simulation.{specs.StandsBeside.IsBeingMade, proofs.{Landing.WordsStay, PlainPlaces.{no_lock_place, place_low}, Scene.Scene, WaitBits.{bit_by, same_bit, thin_bit}}}
use Rattle.machine_types.specs.declared.lock.LockWord.TheVariants as locks

module _ (scene : Scene) where
  open scene use {c, objects, s, differ, inside, marked, facts}

  pub low : (m r : ℕ) → lock_at (references_of objects) s.words m ≡ locks.Fat r → r < MONITOR_RECORDS
  low m r e = (facts.owners.locks_are.below m r e).1

  -- ---- waiting bits, where one word is written

  bits_apart : (site : Site) (value r : ℕ) → IsThere c.program objects s site → site ≢ BitsOf r → r < MONITOR_RECORDS → slice_index (slice_set s.words (site_word site) value) (bits_word r) ≡ slice_index s.words (bits_word r)
  bits_apart site value r k d l = set_there s.words (site_word site) (bits_word r) value (λ e. d (differ c objects s site (BitsOf r) marked facts.heap k l (sym e)))

  lock_apart : (site : Site) (value : ℕ) → IsThere c.program objects s site → ((m : ℕ) → site ≢ LockOf m) → (m : ℕ) → lock_at (references_of objects) (slice_set s.words (site_word site) value) m ≡ lock_at (references_of objects) s.words m
  lock_apart site value k d m = by_test (has_number (references_of objects) m) refl
    where
      by_test : (b : Bool) → has_number (references_of objects) m ≡ b → cond b (lock_of (slice_index (slice_set s.words (site_word site) value) m)) (locks.Free 0) ≡ cond b (lock_of (slice_index s.words m)) (locks.Free 0)
      by_test true e = ap lock_of (set_there s.words (site_word site) m value (λ f. d m (differ c objects s site (LockOf m) marked facts.heap k (has_object objects m e) (sym f))))
      by_test false e = refl

  -- no lock word, and no waiting bits
  bits_when_set : (site : Site) (value : ℕ) → IsThere c.program objects s site → ((m : ℕ) → site ≢ LockOf m) → ((r : ℕ) → site ≢ BitsOf r)
      → (t m : ℕ) → has_wait_bit (references_of objects) (slice_set s.words (site_word site) value) t m ≡ has_wait_bit (references_of objects) s.words t m
  bits_when_set site value k lock bits t m = same_bit (lock_at (references_of objects) s.words m) _ s.words (slice_set s.words (site_word site) value) t (lock_apart site value k lock m)
      (λ r e. bits_apart site value r k (bits r) (low m r e))

  lock_after : (n value m : ℕ) (b : Bool) → HasObject objects n → (n == m) ≡ b → lock_at (references_of objects) (slice_set s.words n value) m ≡ cond b (lock_of value) (lock_at (references_of objects) s.words m)
  lock_after n value m b k e = ap (λ (v : Locks). v.lock m) (lock_view differ inside c objects s marked facts.heap n value k) ∙ ap (λ (d : Bool). cond d (lock_of value) (lock_at (references_of objects) s.words m)) e

  else_bit : (n value t m : ℕ) → HasObject objects n → (n == m) ≡ false → has_wait_bit (references_of objects) (slice_set s.words n value) t m ≡ has_wait_bit (references_of objects) s.words t m
  else_bit n value t m k e = same_bit (lock_at (references_of objects) s.words m) _ s.words (slice_set s.words n value) t (lock_after n value m false k e)
      (λ r f. bits_apart (LockOf n) value r k (λ g. cc) (low m r f))

  here_bit : (n t m : ℕ) → (n == m) ≡ true → ((r : ℕ) → lock_at (references_of objects) s.words n ≢ locks.Fat r) → has_wait_bit (references_of objects) s.words t m ≡ false
  here_bit n t m e d = thin_bit (lock_at (references_of objects) s.words m) s.words t (λ r f. d r (ap (lock_at (references_of objects) s.words) ((Decides-eqb n m).0 e) ∙ f))

  -- a lock that was no fat one, and becomes none
  bits_when_thin : (n value : ℕ) → HasObject objects n → ((r : ℕ) → lock_at (references_of objects) s.words n ≢ locks.Fat r) → ((r : ℕ) → lock_of value ≢ locks.Fat r)
      → (t m : ℕ) → has_wait_bit (references_of objects) (slice_set s.words n value) t m ≡ has_wait_bit (references_of objects) s.words t m
  bits_when_thin n value k was now t m = elim (cases_Bool (n == m)) [
    | inl e ↦ ap (λ (l : LockWord). bit_by l (slice_set s.words n value) t) (lock_after n value m true k e) ∙ thin_bit (lock_of value) (slice_set s.words n value) t now ∙ sym (here_bit n t m e was)
    | inr e ↦ else_bit n value t m k e
  ]

  -- a lock that becomes fat, with a record where nobody waits
  bits_when_fat : (n value r : ℕ) → HasObject objects n → ((k : ℕ) → lock_at (references_of objects) s.words n ≢ locks.Fat k) → lock_of value ≡ locks.Fat r → r < MONITOR_RECORDS → ((t : ℕ) → is_bit_set s.words r t ≡ false)
      → (t m : ℕ) → has_wait_bit (references_of objects) (slice_set s.words n value) t m ≡ has_wait_bit (references_of objects) s.words t m
  bits_when_fat n value r k was now l none t m = elim (cases_Bool (n == m)) [
    | inl e ↦ same_bit (locks.Fat r) _ s.words (slice_set s.words n value) t (lock_after n value m true k e ∙ now) (λ j f. bits_apart (LockOf n) value j k (λ g. cc) (let one : r ≡ j = cc in subst (λ (i : ℕ). i < MONITOR_RECORDS) one l))
        ∙ none t ∙ sym (here_bit n t m e was)
    | inr e ↦ else_bit n value t m k e
  ]

-- ---- all words that the plain machine knows of

module _ (lies : StartLiesApart) (scene : Scene) where
  open scene use {c, objects, s, q, marked, facts, beside}

  being_made : (m : ℕ) → IsBeingMade s.threads m → InNew c.program s m m
  being_made m k = record { t = k.0; thread = k.1; word = k.2; there = k.3; made = k.4; from = omega arith; to = omega (arith, size_two c.program k.2) }

  -- no object that is being made lies there
  new_apart : (site : Site) (m : ℕ) → IsThere c.program objects s site → (block site ≡ New m → ⊥) → IsBeingMade s.threads m → m ≢ site_word site
  new_apart site m k d h e =
      d (same_block lies c objects s marked facts.heap (block site) (New m) (site_word site) (in_block c.program objects s site k) (subst (λ (n : ℕ). InNew c.program s m n) e (being_made m h)))

  -- ---- a lock word

  plain_object : (n : ℕ) → HasObject objects n → HasObject q.objects n
  plain_object n k = let e = beside.known k.0 k.1 in (e.0, e.1, e.2 ∙ k.2)

  lock_high : (n : ℕ) → HasObject objects n → FIRST_READY_WORD ≤ n
  lock_high n k = omega (arith, facts.heap.apart.begin k.1.0 k.0 (contained_got objects k.0 k.1), k.2)

  no_place : (n a v : ℕ) → HasObject q.objects n → value_at q a ≡ Some v → a ≢ n
  no_place n a v k e f = no_lock_place c.program q beside.apart k.0 v k.1 (ap (value_at q) (k.2 ∙ sym f) ∙ e)

  lock_stays : (n value : ℕ) → HasObject objects n → ((t m : ℕ) → has_wait_bit (references_of objects) (slice_set s.words n value) t m ≡ has_wait_bit (references_of objects) s.words t m) → WordsStay objects s q (slice_set s.words n value)
  lock_stays n value k bits = record {
    places = λ a v e. set_there s.words n a value (no_place n a v (plain_object n k) e);
    free = set_there s.words n NEXT_FREE_WORD value (λ e. let high = lock_high n k in omega (arith, e, high));
    tickets = set_there s.words n NEXT_TICKET_WORD value (λ e. let high = lock_high n k in omega (arith, e, high));
    new = λ m h. set_there s.words n m value (new_apart (LockOf n) m k (λ e. cc) h);
    bits = bits;
  }

  -- a lock that was no fat one, and becomes none
  pub thin_stays : (n value : ℕ) → HasObject objects n → ((r : ℕ) → lock_at (references_of objects) s.words n ≢ locks.Fat r) → ((r : ℕ) → lock_of value ≢ locks.Fat r) → WordsStay objects s q (slice_set s.words n value)
  thin_stays n value k was now = lock_stays n value k (bits_when_thin scene n value k was now)

  -- one that becomes fat, with a record where nobody waits
  pub fat_stays : (n value r : ℕ) → HasObject objects n → ((k : ℕ) → lock_at (references_of objects) s.words n ≢ locks.Fat k) → lock_of value ≡ locks.Fat r → r < MONITOR_RECORDS → ((t : ℕ) → is_bit_set s.words r t ≡ false)
      → WordsStay objects s q (slice_set s.words n value)
  fat_stays n value r k was now l none = lock_stays n value k (bits_when_fat scene n value r k was now l none)

  -- ---- an owner, and the next record

  pub owner_stays : (r value : ℕ) → r < MONITOR_RECORDS → WordsStay objects s q (slice_set s.words (owner_word r) value)
  owner_stays r value l = record {
    places = λ a v e. set_there s.words (owner_word r) a value (λ f. let high = (place_low c.program q beside.apart a v e).0 in omega (arith, f, high, l));
    free = set_there s.words (owner_word r) NEXT_FREE_WORD value (λ e. omega (arith, e));
    tickets = set_there s.words (owner_word r) NEXT_TICKET_WORD value (λ e. omega (arith, e));
    new = λ m h. set_there s.words (owner_word r) m value (new_apart (OwnerOf r) m l (λ e. cc) h);
    bits = bits_when_set scene (OwnerOf r) value l (λ m e. cc) (λ k e. cc);
  }

  pub record_stays : (value : ℕ) → WordsStay objects s q (slice_set s.words NEXT_RECORD_WORD value)
  record_stays value = record {
    places = λ a v e. set_there s.words NEXT_RECORD_WORD a value (λ f. let high = (place_low c.program q beside.apart a v e).0 in omega (arith, f, high));
    free = set_there s.words NEXT_RECORD_WORD NEXT_FREE_WORD value (λ e. omega (arith, e));
    tickets = set_there s.words NEXT_RECORD_WORD NEXT_TICKET_WORD value (λ e. omega (arith, e));
    new = λ m h. set_there s.words NEXT_RECORD_WORD m value (new_apart (Counter NEXT_RECORD_WORD) m (record_there c objects s) (λ e. cc) h);
    bits = bits_when_set scene (Counter NEXT_RECORD_WORD) value (record_there c objects s) (λ m e. cc) (λ k e. cc);
  }
