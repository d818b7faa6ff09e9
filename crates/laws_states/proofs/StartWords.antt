-- The words at the start of a run: each lock is free, no record has an owner or a thread that waits, and all are small.
use Rattle.std.proofs.Common.{◌≡◌, ◌⊎◌, inl, inr, ℕ, zero, suc, ◌+◌, ◌-◌, ◌*◌, ◌<◌, ◌≤◌, ◌^◌, nat_lt, true, List, [], ◌∷◌, ◌++◌, length, Some, refl, sym, ap, subst, ◌∙◌, length-append, append_assoc, arith, flat_map, map, replicate, slice_get, slice_index}
use Rattle.std.{specs.List.{AllByRecursion, list_all}, proofs.lemmas.{Bool.Decides.nat_tests, List.length-map}}
use Rattle.lists.proofs.{ListLaws.same_some, TestLaws.both_are_true}
use Rattle.jvm_types.{specs.ProgramInvariant.{IsProgram, words_of}, proofs.EachAfter.all_append}
use Rattle.jvm_types.specs.declared.{fixed_words.TheConstants.{FIRST_CLASS_WORD, FIRST_READY_WORD, MONITOR_RECORDS, NEXT_FREE_WORD, NEXT_TICKET_WORD, NEXT_RECORD_WORD}, program.FieldInfo.FieldInfo}
use Rattle.jvm_types.specs.declared.program.Program.{Program}
use Rattle.machine_types.specs.{Ints.word_of, PlainMemory.{Object, objects_from, class_objects, start_objects}, ReadyObjects.ready_classes}
use Rattle.machine_types.{specs.{StartWords.{object_words, statics_of, class_words, classes_of, start_words}, Words.{owner_word, bits_word}}, proofs.PlacesAtStart.in_replicated}
use Rattle.machine_types.proofs.WordsAtStart.{behind, in_front, length_records}
use Rattle.laws_states.{specs.SharedWords.{IsLock, LocksFit, RecordsFit}, proofs.{LeftStands.word_is_lock, Lists.contained_got}}
use Rattle.machine_types.specs.declared.lock.LockWord.TheVariants as locks

-- ---- where an object stands among some words, there is a 0

pub record IsFreeAt (reference : ℕ) (words : List ℕ) (o : Object) : Type 0 where
  pub offset : ℕ
  pub place : o.reference ≡ reference + offset
  pub free : slice_index words offset ≡ 0

ready_free : (reference : ℕ) (classes more : List ℕ) (i : ℕ) (o : Object) → slice_get (objects_from reference classes) i ≡ Some o → IsFreeAt reference (flat_map object_words classes ++ more) o
ready_free reference [] more i o e = absurd (cc)
ready_free reference (class ∷ classes) more zero o e = record { offset = 0; place = let same = ap (λ (x : Object). x.reference) (same_some e) in omega (arith, same); free = refl }
ready_free reference (class ∷ classes) more (suc i) o e =
    let rest = ready_free (reference + 2) classes more i o e in
    record { offset = suc (suc rest.offset); place = omega (arith, rest.place); free = rest.free }

class_free : (fields : List FieldInfo) (reference : ℕ) (classes more : List ℕ) (i : ℕ) (o : Object) → slice_get (class_objects fields reference classes) i ≡ Some o → IsFreeAt reference (flat_map (class_words fields) classes ++ more) o
class_free fields reference [] more i o e = absurd (cc)
class_free fields reference (class ∷ classes) more zero o e = record { offset = 0; place = let same = ap (λ (x : Object). x.reference) (same_some e) in omega (arith, same); free = refl }
class_free fields reference (class ∷ classes) more (suc i) o e =
    let rest = class_free fields (reference + 2 + (length (statics_of fields class))) classes more i o e in
    let statics : List ℕ = map (λ (f : FieldInfo). word_of f.start) (statics_of fields class) in
    let behind_statics : ℕ = length statics + rest.offset in
    record {
      offset = suc (suc behind_statics);
      place = omega (arith, rest.place, length-map (statics_of fields class) (λ (f : FieldInfo). word_of f.start));
      free = ap (λ (l : List ℕ). slice_index l behind_statics) (append_assoc statics (flat_map (class_words fields) classes) more) ∙ behind statics (flat_map (class_words fields) classes ++ more) rest.offset ∙ rest.free;
    }

-- ---- the parts of the words

abbrev records_part : Program → (records : ℕ) → List ℕ
records_part p records = 0 ∷ words_of p ∷ 0 ∷ 0 ∷ replicate records 0

abbrev ready_part : List ℕ
ready_part = flat_map object_words ready_classes

abbrev class_part : Program → List ℕ
class_part p = flat_map (class_words p.fields) (classes_of p)

abbrev unused_part : Program → List ℕ
unused_part p = replicate (p.heap - words_of p) 0

abbrev all_parts : Program → (records : ℕ) → List ℕ
all_parts p records = records_part p records ++ ready_part ++ class_part p ++ unused_part p

from_classes : (p : Program) (records : ℕ) → all_parts p records ≡ (records_part p records ++ ready_part) ++ (class_part p ++ unused_part p)
from_classes p records = append_assoc (records_part p records ++ ready_part) (class_part p) (unused_part p)

from_ready : (p : Program) (records : ℕ) → all_parts p records ≡ records_part p records ++ (ready_part ++ (class_part p ++ unused_part p))
from_ready p records = from_classes p records ∙ append_assoc (records_part p records) ready_part (class_part p ++ unused_part p)

-- ---- locks

free_in : (words front back : List ℕ) (reference : ℕ) (o : Object) → words ≡ front ++ back → length front ≡ reference → IsFreeAt reference back o → slice_index words o.reference ≡ 0
free_in words front back reference o is many h =
    ap (λ (l : List ℕ). slice_index l o.reference) is ∙ ap (slice_index (front ++ back)) (omega (arith, h.place, many)) ∙ behind front back h.offset ∙ h.free

split : {X : Type 0} (xs ys : List X) (i : ℕ) (x : X) → slice_get (xs ++ ys) i ≡ Some x → ((slice_get xs i ≡ Some x) ⊎ ((j : ℕ) × (slice_get ys j ≡ Some x)))
split [] ys i x e = inr (i, e)
split (y ∷ xs) ys zero x e = inl e
split (y ∷ xs) ys (suc i) x e = split xs ys i x e

locks_by : (p : Program) (records i : ℕ) (o : Object) → records ≡ 2 * MONITOR_RECORDS → slice_get (start_objects p) i ≡ Some o → slice_index (all_parts p records) o.reference ≡ 0
locks_by p records i o many e = elim (split (objects_from FIRST_READY_WORD ready_classes) (class_objects p.fields FIRST_CLASS_WORD (classes_of p)) i o e) [
  | inl k ↦ free_in (all_parts p records) (records_part p records) (ready_part ++ (class_part p ++ unused_part p)) FIRST_READY_WORD o (from_ready p records) (omega (arith, many, length_records p records))
      (ready_free FIRST_READY_WORD ready_classes (class_part p ++ unused_part p) i o k)
  | inr k ↦ free_in (all_parts p records) (records_part p records ++ ready_part) (class_part p ++ unused_part p) FIRST_CLASS_WORD o (from_classes p records)
      (omega (arith, many, length-append (records_part p records) ready_part, length_records p records)) (class_free p.fields FIRST_CLASS_WORD (classes_of p) (unused_part p) k.0 o k.1)
]

pub locks_at_start : (p : Program) (range : ℕ) → LocksFit range (start_objects p) (start_words p)
locks_at_start p range o k = subst (IsLock range) (sym (locks_by p (2 * MONITOR_RECORDS) k.0 o refl (contained_got (start_objects p) o k))) (word_is_lock range (locks.Free 0) (omega arith))

-- ---- records

record_zero : (p : Program) (records j : ℕ) → j < records → slice_index (all_parts p records) (4 + j) ≡ 0
record_zero p records j lt =
    let at : 4 + j ≡ suc (suc (suc (suc j))) = omega arith in
    ap (λ (l : List ℕ). slice_index l (4 + j)) (from_ready p records) ∙ in_front (records_part p records) (ready_part ++ (class_part p ++ unused_part p)) (4 + j) (omega (arith, lt, length_records p records))
    ∙ ap (slice_index (records_part p records)) at ∙ in_replicated records j

pub records_at_start : (p : Program) → RecordsFit (start_words p)
records_at_start p = record { owners = λ r lt. owner r lt; bits = λ r lt. bits r lt }
  where
    zero_at : (word j : ℕ) → word ≡ 4 + j → j < 2 * MONITOR_RECORDS → slice_index (start_words p) word ≡ 0
    zero_at word j at lt = ap (slice_index (start_words p)) at ∙ record_zero p (2 * MONITOR_RECORDS) j lt

    owner : (r : ℕ) → r < MONITOR_RECORDS → slice_index (start_words p) (owner_word r) ≤ 9
    owner r lt = omega (arith, zero_at (owner_word r) (2 * r) (omega arith) (omega (arith, lt)))

    bits : (r : ℕ) → r < MONITOR_RECORDS → slice_index (start_words p) (bits_word r) < 512
    bits r lt = omega (arith, zero_at (bits_word r) (2 * r + 1) (omega arith) (omega (arith, lt)))

-- ---- all words

abbrev Small : ℕ → Type 0
Small n = n < 2 ^ 64

all_zeros : (n : ℕ) → AllByRecursion Small (replicate n 0)
all_zeros zero = tt
all_zeros (suc n) = (omega arith, all_zeros n)

all_tested : (xs : List ℕ) → list_all (λ n. nat_lt n (2 ^ 64)) xs ≡ true → AllByRecursion Small xs
all_tested [] e = tt
all_tested (x ∷ xs) e = let both = both_are_true (nat_lt x (2 ^ 64)) (list_all (λ n. nat_lt n (2 ^ 64)) xs) e in let first = both.0 in (grind (arith, nat_tests, first), all_tested xs both.1)

all_statics : (fields : List FieldInfo) → AllByRecursion Small (map (λ f. word_of f.start) fields)
all_statics [] = tt
all_statics (f ∷ fields) = (omega arith, all_statics fields)

all_classes : (fields : List FieldInfo) (classes : List ℕ) → AllByRecursion Small (flat_map (class_words fields) classes)
all_classes fields [] = tt
all_classes fields (class ∷ classes) = all_append Small (class_words fields class) (flat_map (class_words fields) classes) (omega arith, (omega arith, all_statics (statics_of fields class))) (all_classes fields classes)

all_parts_small : (p : Program) (records : ℕ) → IsProgram p → AllByRecursion Small (all_parts p records)
all_parts_small p records is =
    let first : AllByRecursion Small (records_part p records) = (omega arith, (omega (arith, is.words, is.heap_to), (omega arith, (omega arith, all_zeros records)))) in
    all_append Small (records_part p records ++ ready_part ++ class_part p) (unused_part p)
    (all_append Small (records_part p records ++ ready_part) (class_part p) (all_append Small (records_part p records) ready_part first (all_tested ready_part refl)) (all_classes p.fields (classes_of p)))
    (all_zeros (p.heap - words_of p))

small_at : (words : List ℕ) → AllByRecursion Small words → (i : ℕ) → slice_index words i < 2 ^ 64
small_at [] h i = omega arith
small_at (n ∷ ns) h zero = h.0
small_at (n ∷ ns) h (suc i) = small_at ns h.1 i

pub small_at_start : (p : Program) → IsProgram p → (i : ℕ) → slice_index (start_words p) i < 2 ^ 64
small_at_start p is i = small_at (start_words p) (all_parts_small p (2 * MONITOR_RECORDS) is) i

-- ---- counters

counters_by : (p : Program) (records : ℕ) → (slice_index (all_parts p records) 1 ≡ words_of p) × (slice_index (all_parts p records) 2 ≡ 0) × (slice_index (all_parts p records) 3 ≡ 0)
counters_by p records = (refl, refl, refl)

pub free_at_start : (p : Program) → slice_index (start_words p) NEXT_FREE_WORD ≡ words_of p
free_at_start p = (counters_by p (2 * MONITOR_RECORDS)).0

pub ticket_at_start : (p : Program) → slice_index (start_words p) NEXT_TICKET_WORD ≡ 0
ticket_at_start p = (counters_by p (2 * MONITOR_RECORDS)).1

pub record_at_start : (p : Program) → slice_index (start_words p) NEXT_RECORD_WORD ≡ 0
record_at_start p = (counters_by p (2 * MONITOR_RECORDS)).2
