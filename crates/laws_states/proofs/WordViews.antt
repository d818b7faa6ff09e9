-- What a write of one word makes of what the words say of locks.
use Rattle.std.proofs.Common.{◌≡◌, ◌≢◌, ℕ, zero, suc, ◌+◌, ◌*◌, ◌<◌, nat_lt, Bool, true, false, cond, List, [], ◌∷◌, Some, refl, sym, ap, ◌∙◌, subst, arith, slice_get, slice_index, slice_set, ◌==◌, ◌||◌}
use Rattle.std.proofs.lemmas.Bool.{eqb-false, Decides.{nat_tests, Decides-eqb}}
use Rattle.jvm_types.specs.{Numbers.has_number, declared.fixed_words.TheConstants.{NEXT_RECORD_WORD, MONITOR_RECORDS}}
use Rattle.checked_program.specs.MarkedProgram.{MarkedProgram, IsMarked}
use Rattle.machine_types.specs.{Core.Core, LockWords.{word_of_lock, lock_of}, Owners.{lock_at, owner_at, locks_in, references_of}, PlainMemory.Object, Words.owner_word}
use Rattle.machine_types.{specs.declared.lock.LockWord.LockWord, proofs.PlainStepLaws.is_same}
use Rattle.laws_states.{specs.{HeapFacts.HeapFacts, SiteLaws.{SitesDiffer, SitesLieInside}, Sites.{Site, Counter, OwnerOf, LockOf, site_word, HasObject, IsThere}}, proofs.LeftStands.by_parts}
use Rattle.laws_states.proofs.{Lists.{contained_got, contains_first, contains_more, set_here, set_there}, LockViews.{set_lock, set_owner, set_next}}
use Rattle.machine_types.specs.declared.lock.LockWord.TheVariants as locks

-- ---- lock words

pub lock_of_word : (l : LockWord) → lock_of (word_of_lock l) ≡ l
lock_of_word (locks.Free c) = by_parts (4 * c) 0 c (omega arith) (omega arith)
lock_of_word (locks.Fat r) = by_parts (4 * r + 1) 1 r (omega arith) (omega arith)
lock_of_word (locks.Held t) = by_parts (4 * (t + 1) + 2) 2 (t + 1) (omega arith) (omega arith) ∙ ap locks.Held (omega arith)
lock_of_word (locks.Flagged t) = by_parts (4 * (t + 1) + 3) 3 (t + 1) (omega arith) (omega arith) ∙ ap locks.Flagged (omega arith)

-- ---- the references of objects

number_got : (objects : List Object) (i : ℕ) (o : Object) → slice_get objects i ≡ Some o → has_number (references_of objects) o.reference ≡ true
number_got [] i o e = absurd (cc)
number_got (x ∷ xs) zero o e = let same : x ≡ o = cc in subst (λ (z : Object). x.reference == z.reference || has_number (references_of xs) z.reference ≡ true) same (ap (λ (b : Bool). b || has_number (references_of xs) x.reference) (is_same x.reference))
number_got (x ∷ xs) (suc i) o e = (elim (x.reference == o.reference) as (λ (b : Bool). has_number (references_of xs) o.reference ≡ true → b || has_number (references_of xs) o.reference ≡ true)
    [ true ↦ λ k. refl | false ↦ λ k. k ]) (number_got xs i o e)

pub object_has : (objects : List Object) (m : ℕ) → HasObject objects m → has_number (references_of objects) m ≡ true
object_has objects m k = subst (λ (n : ℕ). has_number (references_of objects) n ≡ true) k.2 (number_got objects k.1.0 k.0 (contained_got objects k.0 k.1))

pub has_object : (objects : List Object) (m : ℕ) → has_number (references_of objects) m ≡ true → HasObject objects m
has_object [] m e = absurd (cc)
has_object (x ∷ xs) m e = by_test (x.reference == m) refl e (λ f. has_object xs m f)
  where
    by_test : (b : Bool) → (x.reference == m) ≡ b → b || has_number (references_of xs) m ≡ true → (has_number (references_of xs) m ≡ true → HasObject xs m) → HasObject (x ∷ xs) m
    by_test true g e more = (x, contains_first x xs, (Decides-eqb x.reference m).0 g)
    by_test false g e more = let k = more e in (k.0, contains_more x xs k.0 k.1, k.2)

-- ---- the same words

pub views_same : (references later words after : List ℕ) → ((m : ℕ) → lock_at later after m ≡ lock_at references words m) → ((r : ℕ) → owner_at after r ≡ owner_at words r) → slice_index after NEXT_RECORD_WORD ≡ slice_index words NEXT_RECORD_WORD
    → locks_in later after ≡ locks_in references words
views_same references later words after l o n = λ i. record { lock = λ m. l m i; owner = λ r. o r i; next = n i }

pub set_self : (words : List ℕ) (w : ℕ) → slice_set words w (slice_index words w) ≡ words
set_self (x ∷ words) (suc w) = ap (λ (ws : List ℕ). x ∷ ws) (set_self words w)
set_self words w = refl

pub record_there : (c : MarkedProgram) (objects : List Object) (s : Core) → IsThere c.program objects s (Counter NEXT_RECORD_WORD)
record_there c objects s = (omega arith, omega arith)

-- ---- one word is written

module _ (differ : SitesDiffer) (inside : SitesLieInside) (c : MarkedProgram) (objects : List Object) (s : Core) (marked : IsMarked c) (heap : HeapFacts c objects s) where
  other_site : (site other : Site) (value : ℕ) → IsThere c.program objects s site → IsThere c.program objects s other → site ≢ other → slice_index (slice_set s.words (site_word site) value) (site_word other) ≡ slice_index s.words (site_word other)
  other_site site other value k l d = set_there s.words (site_word site) (site_word other) value (λ e. d (differ c objects s site other marked heap k l (sym e)))

  locks_apart : (site : Site) (value : ℕ) → IsThere c.program objects s site → ((m : ℕ) → site ≢ LockOf m) → (m : ℕ) → lock_at (references_of objects) (slice_set s.words (site_word site) value) m ≡ lock_at (references_of objects) s.words m
  locks_apart site value k d m = (elim (has_number (references_of objects) m) as
      (λ (b : Bool). has_number (references_of objects) m ≡ b → cond b (lock_of (slice_index (slice_set s.words (site_word site) value) m)) (locks.Free 0) ≡ cond b (lock_of (slice_index s.words m)) (locks.Free 0))
      [ true ↦ λ e. ap lock_of (other_site site (LockOf m) value k (has_object objects m e) (d m)) | false ↦ λ e. refl ]) refl

  owners_apart : (site : Site) (value : ℕ) → IsThere c.program objects s site → (r : ℕ) → site ≢ OwnerOf r → owner_at (slice_set s.words (site_word site) value) r ≡ owner_at s.words r
  owners_apart site value k r d = (elim (nat_lt r MONITOR_RECORDS) as
      (λ (b : Bool). nat_lt r MONITOR_RECORDS ≡ b → cond b (slice_index (slice_set s.words (site_word site) value) (owner_word r)) 0 ≡ cond b (slice_index s.words (owner_word r)) 0)
      [ true ↦ λ e. let low : r < MONITOR_RECORDS = grind (arith, nat_tests, e) in other_site site (OwnerOf r) value k low d | false ↦ λ e. refl ]) refl

  pub lock_view : (n value : ℕ) → HasObject objects n → locks_in (references_of objects) (slice_set s.words n value) ≡ set_lock n (lock_of value) (locks_in (references_of objects) s.words)
  lock_view n value k = λ i. record { lock = λ m. lock m i; owner = λ r. owner r i; next = next i }
    where
      lock : (m : ℕ) → lock_at (references_of objects) (slice_set s.words n value) m ≡ cond (n == m) (lock_of value) (lock_at (references_of objects) s.words m)
      lock m = by_test (n == m) refl
        where
          by_test : (b : Bool) → (n == m) ≡ b → lock_at (references_of objects) (slice_set s.words n value) m ≡ cond b (lock_of value) (lock_at (references_of objects) s.words m)
          by_test true e = ap (λ (j : ℕ). lock_at (references_of objects) (slice_set s.words n value) j) (sym ((Decides-eqb n m).0 e))
              ∙ ap (λ (b : Bool). cond b (lock_of (slice_index (slice_set s.words n value) n)) (locks.Free 0)) (object_has objects n k)
              ∙ ap lock_of (set_here s.words n value (inside c objects s (LockOf n) marked heap k))
          by_test false e = ap (λ (j : ℕ). cond (has_number (references_of objects) m) (lock_of j) (locks.Free 0)) (set_there s.words n m value (λ g. eqb-false n m e (sym g)))

      owner : (r : ℕ) → owner_at (slice_set s.words n value) r ≡ owner_at s.words r
      owner r = owners_apart (LockOf n) value k r (λ e. cc)

      next : slice_index (slice_set s.words n value) NEXT_RECORD_WORD ≡ slice_index s.words NEXT_RECORD_WORD
      next = other_site (LockOf n) (Counter NEXT_RECORD_WORD) value k (record_there c objects s) (λ e. cc)

  pub owner_view : (r value : ℕ) → r < MONITOR_RECORDS → locks_in (references_of objects) (slice_set s.words (owner_word r) value) ≡ set_owner r value (locks_in (references_of objects) s.words)
  owner_view r value low = λ i. record { lock = λ m. locks_apart (OwnerOf r) value low (λ m e. cc) m i; owner = λ k. owner k i; next = next i }
    where
      owner : (k : ℕ) → owner_at (slice_set s.words (owner_word r) value) k ≡ cond (r == k) value (owner_at s.words k)
      owner k = by_test (r == k) refl
        where
          by_test : (b : Bool) → (r == k) ≡ b → owner_at (slice_set s.words (owner_word r) value) k ≡ cond b value (owner_at s.words k)
          by_test true e = ap (λ (j : ℕ). owner_at (slice_set s.words (owner_word r) value) j) (sym ((Decides-eqb r k).0 e))
              ∙ ap (λ (b : Bool). cond b (slice_index (slice_set s.words (owner_word r) value) (owner_word r)) 0) (low_record r low)
              ∙ set_here s.words (owner_word r) value (inside c objects s (OwnerOf r) marked heap low)
            where
              low_record : (r : ℕ) → r < MONITOR_RECORDS → nat_lt r MONITOR_RECORDS ≡ true
              low_record r low = grind (arith, nat_tests, low)
          by_test false e = owners_apart (OwnerOf r) value low k (λ g. eqb-false r k e (cc))

      next : slice_index (slice_set s.words (owner_word r) value) NEXT_RECORD_WORD ≡ slice_index s.words NEXT_RECORD_WORD
      next = other_site (OwnerOf r) (Counter NEXT_RECORD_WORD) value low (record_there c objects s) (λ e. cc)

  pub next_view : (value : ℕ) → locks_in (references_of objects) (slice_set s.words NEXT_RECORD_WORD value) ≡ set_next value (locks_in (references_of objects) s.words)
  next_view value = λ i. record { lock = λ m. locks_apart (Counter NEXT_RECORD_WORD) value (record_there c objects s) (λ m e. cc) m i; owner = λ r. owners_apart (Counter NEXT_RECORD_WORD) value (record_there c objects s) r (λ e. cc) i; next = next i }
    where
      next : slice_index (slice_set s.words NEXT_RECORD_WORD value) NEXT_RECORD_WORD ≡ value
      next = set_here s.words NEXT_RECORD_WORD value (inside c objects s (Counter NEXT_RECORD_WORD) marked heap (record_there c objects s))
