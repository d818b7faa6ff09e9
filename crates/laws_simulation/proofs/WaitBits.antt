-- Whether the bit of a thread is set in the record of a monitor: by the lock words of the objects whose header is stored, and where
-- a word is written that is no waiting bits.
use Rattle.std.proofs.Common.{◌≡◌, ◌≢◌, ◌⊎◌, inl, inr, ℕ, ◌+◌, ◌<◌, Bool, true, false, cond, List, Option, refl, sym, ap, ◌∙◌, subst, arith, Contains, slice_index, ◌==◌}
use Rattle.jvm_types.specs.{Numbers.{has_flag, has_number}, declared.{class_numbers.TheConstants.INT_ARRAY_CLASS, program.Program.Program}}
use Rattle.machine_types.specs.{Agreement.{has_wait_bit, ThreadFits}, Core.Core, Facts.ArePlainObjects, LockWords.lock_of, Monitors.bit_of, NewObjects.NewObjects, Owners.{lock_at, references_of}}
use Rattle.machine_types.specs.{PlainMemory.Object, PlainState.{Plain, PlainThread}, Threads.{Attempt, Thread}, Words.{header_class, header_length, object_size, array_size, bits_word}}
use Rattle.machine_types.specs.declared.lock.LockWord.{LockWord}
use Rattle.laws_states.{specs.Sites.HasObject, proofs.WordViews.{object_has, has_object}}
use Rattle.laws_simulation.specs.StandsBeside.{IsAmong, IsBeingMade}
use Rattle.machine_types.specs.declared.lock.LockWord.TheVariants as locks

-- ---- by the lock

abbrev pub bit_by : LockWord → (words : List ℕ) → (t : ℕ) → Bool
bit_by lock words t = by_lock lock
  where
    by_lock : LockWord → Bool
    by_lock (locks.Fat r) = has_flag (bit_of t) (slice_index words (bits_word r))
    by_lock lock = false

pub thin_bit : (l : LockWord) (words : List ℕ) (t : ℕ) → ((r : ℕ) → l ≢ locks.Fat r) → bit_by l words t ≡ false
thin_bit (locks.Fat r) words t d = absurd (d r refl)
thin_bit lock words t d = refl

-- a fat lock whose waiting bits are the same
pub kept_bit : (l : LockWord) (words after : List ℕ) (t : ℕ) → ((r : ℕ) → l ≡ locks.Fat r → slice_index after (bits_word r) ≡ slice_index words (bits_word r)) → bit_by l after t ≡ bit_by l words t
kept_bit (locks.Fat r) words after t e = ap (λ (bits : ℕ). has_flag (bit_of t) bits) (e r refl)
kept_bit lock words after t e = refl

pub same_bit : (l k : LockWord) (words after : List ℕ) (t : ℕ) → k ≡ l → ((r : ℕ) → l ≡ locks.Fat r → slice_index after (bits_word r) ≡ slice_index words (bits_word r)) → bit_by k after t ≡ bit_by l words t
same_bit l k words after t e f = ap (λ (j : LockWord). bit_by j after t) e ∙ kept_bit l words after t f

-- ---- the thread of a plain state fits by the same bits

pub fits_by : (p : Program) (bit now : ℕ → Bool) (x : Thread) (a : Option Attempt) (y : PlainThread) → ((m : ℕ) → now m ≡ bit m) → ThreadFits p bit x a y → ThreadFits p now x a y
fits_by p bit now x a y e f = let same : bit ≡ now = λ i. λ (m : ℕ). sym (e m) i in subst (λ (b : ℕ → Bool). ThreadFits p b x a y) same f

-- ---- the objects of the plain state, and those whose header is stored

-- in words where the lock word of an object that is being made is 0
module _ (objects : List Object) (threads : List Thread) (words : List ℕ) (q : Plain)
    (known : ArePlainObjects objects q)
    (others : (e : Object) → Contains q.objects e
    → IsAmong objects e.reference ⊎ IsBeingMade threads e.reference)
    (new : (m : ℕ) → IsBeingMade threads m → slice_index words m ≡ 0) where
  pub same_lock_in : (m : ℕ) → lock_at (references_of q.objects) words m ≡ lock_at (references_of objects) words m
  same_lock_in m = by_tests (has_number (references_of q.objects) m) refl (has_number (references_of objects) m) refl
    where
      made : HasObject q.objects m → (has_number (references_of objects) m ≡ false) → slice_index words m ≡ 0
      made k f = elim (others k.0 k.1) [ inl h ↦ let there = object_has objects m (h.0, h.1, h.2 ∙ k.2) in absurd (cc) | inr h ↦ new m (subst (IsBeingMade threads) k.2 h) ]

      by_tests : (b : Bool) → has_number (references_of q.objects) m ≡ b → (d : Bool) → has_number (references_of objects) m ≡ d → cond b (lock_of (slice_index words m)) (locks.Free 0) ≡ cond d (lock_of (slice_index words m)) (locks.Free 0)
      by_tests true e true f = refl
      by_tests false e false f = refl
      by_tests false e true f = let there = object_has q.objects m (let e = known (has_object objects m f).0 (has_object objects m f).1 in (e.0, e.1, e.2 ∙ (has_object objects m f).2)) in absurd (cc)
      by_tests true e false f = ap lock_of (made (has_object q.objects m e) f)

  pub same_wait_bit_in : (t m : ℕ) → has_wait_bit (references_of q.objects) words t m ≡ has_wait_bit (references_of objects) words t m
  same_wait_bit_in t m = ap (λ (l : LockWord). bit_by l words t) (same_lock_in m)

-- the lock word of an object that is being made is 0
pub new_lock : (p : Program) (objects : List Object) (s : Core) → NewObjects p objects s → (m : ℕ) → IsBeingMade s.threads m → slice_index s.words m ≡ 0
new_lock p objects s new m k =
    let object = new.each k.0 k.1 m k.2 k.3 k.4 in
    object.empty m (omega arith) (has_size k.2 (header_class k.2 == INT_ARRAY_CLASS))
  where
    has_size : (word : ℕ) (b : Bool) → m < m + cond b (array_size (header_length word)) (object_size p (header_class word))
    has_size word true = omega arith
    has_size word false = omega arith

module _ (p : Program) (objects : List Object) (s : Core) (q : Plain)
    (known : ArePlainObjects objects q)
    (others : (e : Object) → Contains q.objects e
    → IsAmong objects e.reference ⊎ IsBeingMade s.threads e.reference)
    (new : NewObjects p objects s) where
  pub same_lock : (m : ℕ) → lock_at (references_of q.objects) s.words m ≡ lock_at (references_of objects) s.words m
  same_lock m = same_lock_in objects s.threads s.words q known others (new_lock p objects s new) m

  pub same_wait_bit : (t m : ℕ) → has_wait_bit (references_of q.objects) s.words t m ≡ has_wait_bit (references_of objects) s.words t m
  same_wait_bit t m = same_wait_bit_in objects s.threads s.words q known others (new_lock p objects s new) t m
