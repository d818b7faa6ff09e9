-- The words at the start of a run of a linked program: each object has a free lock and its header, each static field its value.
use Rattle.std.proofs.Common.{◌≡◌, ⊎_elim, ◌⊎◌, ℕ, zero, suc, ◌+◌, ◌-◌, ◌*◌, ◌<◌, ◌≤◌, Bool, true, false, cond, List, [], ◌∷◌, ◌++◌, length, take, Some, refl, sym, ap, ◌∙◌, length-append, append_assoc, arith, flat_map, map, replicate, nat_lt, ◌==◌, ◌&&◌, slice_get, slice_index}
use Rattle.std.{specs.List.{range_with_len, sum_by}, proofs.lemmas.{Bool.{cases_order, eqb-true, Decides.nat_tests}, List.{length-map, length-replicate}}}
use Rattle.lists.proofs.ListLaws.{same_some}
use Rattle.jvm_types.specs.{ClassNames.file_class, Members.is_static, ProgramInvariant.{IsProgram, words_of}, declared.class_numbers.TheConstants.INT_ARRAY_CLASS}
use Rattle.jvm_types.{specs.declared.{fixed_words.TheConstants.{FIRST_CLASS_WORD, FIRST_READY_WORD, MONITOR_RECORDS}, program.{FieldInfo.FieldInfo, Program.Program}}, proofs.EachAfter.sum_first}
use Rattle.checked_program.{specs.CodeIndex.statics_below, proofs.FewStatics.{one_static, one_below}}
use Rattle.machine_types.specs.{Ints.word_of, PlainMemory.{Object, header_of, start_objects}, ReadyObjects.ready_classes, StartWords.{object_words, statics_of, class_words, classes_of, start_words}}
use Rattle.machine_types.{specs.Words.{header, header_word}, proofs.Lists.{every, got_below}}
use Rattle.machine_types.proofs.PlacesAtStart.{none_of, all_of, none_below, one_class_more, rises, before_at_least, class_from, class_to, earlier_class, static_word, ready_objects, ready_placed, Stands, is_ready, is_class, stands, front}

-- ---- lists of words

pub behind : (xs ys : List ℕ) (k : ℕ) → slice_index (xs ++ ys) (length xs + k) ≡ slice_index ys k
behind [] ys k = ap (slice_index ys) (omega arith)
behind (x ∷ xs) ys k = let at : length (x ∷ xs) + k ≡ suc (length xs + k) = omega arith in ap (slice_index (x ∷ xs ++ ys)) at ∙ behind xs ys k

pub in_front : (xs ys : List ℕ) (k : ℕ) → k < length xs → slice_index (xs ++ ys) k ≡ slice_index xs k
in_front [] ys k lt = absurd (omega (arith, lt))
in_front (x ∷ xs) ys zero lt = refl
in_front (x ∷ xs) ys (suc k) lt = in_front xs ys k (omega (arith, lt))

mapped : {X : Type 0} (h : X → ℕ) (xs : List X) (j : ℕ) (x : X) → slice_get xs j ≡ Some x → slice_index (map h xs) j ≡ h x
mapped h [] j x e = cc
mapped h (y ∷ xs) zero x e = ap h (same_some e)
mapped h (y ∷ xs) (suc j) x e = mapped h xs j x e

-- ---- the words of a class, among those of the classes from one on

length_words : (fields : List FieldInfo) (class : ℕ) → length (class_words fields class) ≡ 2 + length (statics_of fields class)
length_words fields class = omega (arith, length-map (statics_of fields class) (λ (f : FieldInfo). word_of f.start))

class_word : (fields : List FieldInfo) (count class number x d : ℕ) → number < count → x + statics_below class fields ≡ 2 * number + statics_below (class + number) fields
    → d < 2 + length (statics_of fields (class + number)) → (more : List ℕ) → slice_index (flat_map (class_words fields) (range_with_len class count) ++ more) (x + d) ≡ slice_index (class_words fields (class + number)) d
class_word fields zero class number x d lt at within more = absurd (omega (arith, lt))
class_word fields (suc count) class zero x d lt at within more =
    let same : class + 0 ≡ class = omega arith in
    let none : x ≡ 0 = omega (arith, at, ap (λ (c : ℕ). statics_below c fields) same) in
    let to : x + d ≡ d = omega (arith, none) in
    ap (slice_index (flat_map (class_words fields) (range_with_len class (suc count)) ++ more)) to
    ∙ ap (λ (l : List ℕ). slice_index l d) (append_assoc (class_words fields class) (flat_map (class_words fields) (range_with_len (class + 1) count)) more)
    ∙ in_front (class_words fields class) (flat_map (class_words fields) (range_with_len (class + 1) count) ++ more) d (omega (arith, within, length_words fields class, ap (λ (c : ℕ). length (statics_of fields c)) same))
    ∙ ap (λ (c : ℕ). slice_index (class_words fields c) d) (sym same)
class_word fields (suc count) class (suc number) x d lt at within more =
    let place : (class + 1) + number ≡ class + suc number = omega arith in
    let same : statics_below ((class + 1) + number) fields ≡ statics_below (class + suc number) fields = ap (λ (c : ℕ). statics_below c fields) place in
    let own : length (class_words fields class) ≡ 2 + length (statics_of fields class) = length_words fields class in
    let more_below : statics_below (class + 1) fields ≤ statics_below ((class + 1) + number) fields = rises (class + 1) number fields in
    let rest : ℕ = x - length (class_words fields class) in
    let is : x + d ≡ length (class_words fields class) + (rest + d) = omega (arith, at, same, own, more_below, one_class_more class fields) in
    let to : rest + statics_below (class + 1) fields ≡ 2 * number + statics_below ((class + 1) + number) fields = omega (arith, at, same, own, more_below, one_class_more class fields) in
    ap (slice_index (flat_map (class_words fields) (range_with_len class (suc count)) ++ more)) is
    ∙ ap (λ (l : List ℕ). slice_index l (length (class_words fields class) + (rest + d))) (append_assoc (class_words fields class) (flat_map (class_words fields) (range_with_len (class + 1) count)) more)
    ∙ behind (class_words fields class) (flat_map (class_words fields) (range_with_len (class + 1) count) ++ more) (rest + d)
    ∙ class_word fields count (class + 1) number rest d (omega (arith, lt)) to (omega (arith, within, ap (λ (c : ℕ). length (statics_of fields c)) place)) more
    ∙ ap (λ (c : ℕ). slice_index (class_words fields c) d) place

-- ---- the parts of the words

-- before the ready objects
abbrev records_part : Program → (records : ℕ) → List ℕ
records_part p records = 0 ∷ words_of p ∷ 0 ∷ 0 ∷ replicate records 0

abbrev ready_part : List ℕ
ready_part = flat_map object_words ready_classes

abbrev class_part : Program → List ℕ
class_part p = flat_map (class_words p.fields) (classes_of p)

abbrev unused_part : Program → List ℕ
unused_part p = replicate (p.heap - words_of p) 0

pub length_records : (p : Program) (records : ℕ) → length (records_part p records) ≡ 4 + records
length_records p records = omega (arith, length-replicate {A = ℕ} records 0)

length_before : (p : Program) (records : ℕ) → length (records_part p records ++ ready_part) ≡ 20 + records
length_before p records = omega (arith, length-append (records_part p records) ready_part, length_records p records)

from_classes : (p : Program) (records : ℕ) → front p records ++ unused_part p ≡ (records_part p records ++ ready_part) ++ (class_part p ++ unused_part p)
from_classes p records = append_assoc (records_part p records ++ ready_part) (class_part p) (unused_part p)

from_ready : (p : Program) (records : ℕ) → front p records ++ unused_part p ≡ records_part p records ++ (ready_part ++ (class_part p ++ unused_part p))
from_ready p records = from_classes p records ∙ append_assoc (records_part p records) ready_part (class_part p ++ unused_part p)

-- ---- a word of a class, and one of a ready object

in_class : (p : Program) (records : ℕ) → records ≡ 2 * MONITOR_RECORDS → IsProgram p → (number reference d : ℕ) → number < length p.names → reference ≡ FIRST_CLASS_WORD + 2 * number + statics_below (file_class number) p.fields
    → d < 2 + length (statics_of p.fields (file_class number)) → slice_index (front p records ++ unused_part p) (reference + d) ≡ slice_index (class_words p.fields (file_class number)) d
in_class p records many is number reference d few at within =
    let place : ℕ = reference - FIRST_CLASS_WORD in
    let to : reference + d ≡ length (records_part p records ++ ready_part) + (place + d) = omega (arith, many, at, length_before p records) in
    ap (slice_index (front p records ++ unused_part p)) to
    ∙ ap (λ (l : List ℕ). slice_index l (length (records_part p records ++ ready_part) + (place + d))) (from_classes p records)
    ∙ behind (records_part p records ++ ready_part) (class_part p ++ unused_part p) (place + d)
    ∙ class_word p.fields (length p.names) (file_class 0) number place d few (omega (arith, at, none_below (file_class 0) p.fields (class_from p is))) within (unused_part p)

in_ready : (p : Program) (records : ℕ) → records ≡ 2 * MONITOR_RECORDS → (reference d : ℕ) → FIRST_READY_WORD ≤ reference
    → slice_index (front p records ++ unused_part p) (reference + d) ≡ slice_index (ready_part ++ (class_part p ++ unused_part p)) (reference - FIRST_READY_WORD + d)
in_ready p records many reference d from =
    let to : reference + d ≡ length (records_part p records) + (reference - FIRST_READY_WORD + d) = omega (arith, many, from, length_records p records) in
    ap (slice_index (front p records ++ unused_part p)) to
    ∙ ap (λ (l : List ℕ). slice_index l (length (records_part p records) + (reference - FIRST_READY_WORD + d))) (from_ready p records)
    ∙ behind (records_part p records) (ready_part ++ (class_part p ++ unused_part p)) (reference - FIRST_READY_WORD + d)

-- ---- objects: a free lock with the count 0, and the header

lock_by : (p : Program) (records : ℕ) → records ≡ 2 * MONITOR_RECORDS → IsProgram p → (i : ℕ) (o : Object) → Stands p i o → slice_index (front p records ++ unused_part p) (o.reference + 0) ≡ 0
lock_by p records many is i o (is_ready e lt) =
    let more : List ℕ = class_part p ++ unused_part p in
    in_ready p records many o.reference 0 (ready_placed i o e).begins
    ∙ eqb-true (slice_index (ready_part ++ more) (o.reference - FIRST_READY_WORD + 0)) 0 (every (λ x. slice_index (ready_part ++ more) (x.reference - FIRST_READY_WORD + 0) == 0) ready_objects refl i o e)
lock_by p records many is i o (is_class number to k) = in_class p records many is number o.reference 0 k.few k.place (omega arith)

pub lock_is_free : (p : Program) → IsProgram p → (i : ℕ) (o : Object) → slice_get (start_objects p) i ≡ Some o → slice_index (start_words p) o.reference ≡ 0
lock_is_free p is i o e =
    let at : o.reference ≡ o.reference + 0 = omega arith in ap (slice_index (start_words p)) at ∙ lock_by p (2 * MONITOR_RECORDS) refl is i o (stands p is i o e)

header_by : (p : Program) (records : ℕ) → records ≡ 2 * MONITOR_RECORDS → IsProgram p → (i : ℕ) (o : Object) → Stands p i o → slice_index (front p records ++ unused_part p) (header_word o.reference) ≡ header_of o
header_by p records many is i o (is_ready e lt) =
    let more : List ℕ = class_part p ++ unused_part p in
    in_ready p records many o.reference 1 (ready_placed i o e).begins
    ∙ eqb-true (slice_index (ready_part ++ more) (o.reference - FIRST_READY_WORD + 1)) (header_of o) (every (λ x. slice_index (ready_part ++ more) (x.reference - FIRST_READY_WORD + 1) == header_of x) ready_objects refl i o e)
header_by p records many is i o (is_class number to k) =
    in_class p records many is number o.reference 1 k.few k.place (omega arith)
    ∙ sym (ap (λ (class : ℕ). header class (cond (class == INT_ARRAY_CLASS) (length o.values) 0)) k.itself)

pub header_is : (p : Program) → IsProgram p → (i : ℕ) (o : Object) → slice_get (start_objects p) i ≡ Some o → slice_index (start_words p) (header_word o.reference) ≡ header_of o
header_is p is i o e = header_by p (2 * MONITOR_RECORDS) refl is i o (stands p is i o e)

-- ---- static fields

-- a static field stands among those of its class, behind those before it
among_class : (fields : List FieldInfo) (n class j : ℕ) (f : FieldInfo) → slice_get fields n ≡ Some f → is_static f.flags ≡ true → f.class ≡ class
    → ((i : ℕ) (g : FieldInfo) → i < n → slice_get fields i ≡ Some g → g.class ≤ class) → ((i : ℕ) (g : FieldInfo) → n ≤ i → slice_get fields i ≡ Some g → class ≤ g.class)
    → j + statics_below class fields ≡ sum_by one_static (take n fields) → slice_get (statics_of fields class) j ≡ Some f
among_class [] n class j f e s c earlier later at = cc
among_class (g ∷ gs) zero class j f e s c earlier later at =
    let same : g ≡ f = same_some e in
    let first : j ≡ 0 = omega (arith, at) in
    let test : ((g.class == class) && is_static g.flags) ≡ true = own g.class class (is_static g.flags) (ap (λ (h : FieldInfo). h.class) same ∙ c) (ap (λ (h : FieldInfo). is_static h.flags) same ∙ s) in
    ap (λ (b : Bool). slice_get (cond b (g ∷ statics_of gs class) (statics_of gs class)) j) test ∙ ap (slice_get (g ∷ statics_of gs class)) first ∙ ap Some same
  where
    own : (m n : ℕ) (b : Bool) → m ≡ n → b ≡ true → ((m == n) && b) ≡ true
    own m n true e s = grind (arith, nat_tests, e)
    own m n false e s = cc
among_class (g ∷ gs) (suc n) class j f e s c earlier later at =
    by_order (earlier 0 g (omega arith) refl) (λ k to. among_class gs n class k f e s c (λ i h lt get. earlier (suc i) h (omega (arith, lt)) get) (λ i h le get. later (suc i) h (omega (arith, le)) get) to) (is_static g.flags) refl
  where
    rest : List FieldInfo
    rest = statics_of gs class

    sums : j + (one_below class g + statics_below class gs) ≡ one_static g + sum_by one_static (take n gs)
    sums = omega (arith, at, sum_first (one_below class) g gs, sum_first one_static g (take n gs))

    below : statics_below class gs ≤ sum_by one_static (take n gs)
    below = before_at_least class gs n (λ i h le get. later (suc i) h (omega (arith, le)) get)

    other : (m k : ℕ) → m < k → (m == k) ≡ false
    other m k lt = grind (arith, nat_tests, lt)

    itself : (m k : ℕ) → m ≡ k → (m == k) ≡ true
    itself m k e = grind (arith, nat_tests, e)

    none : (t : Bool) → (t && false) ≡ false
    none true = refl
    none false = refl

    by_class : g.class ≤ class → is_static g.flags ≡ true → ((k : ℕ) → k + statics_below class gs ≡ sum_by one_static (take n gs) → slice_get rest k ≡ Some f)
        → (g.class ≡ class) ⊎ ((g.class < class) ⊎ (class < g.class)) → slice_get (cond ((g.class == class) && is_static g.flags) (g ∷ rest) rest) j ≡ Some f
    by_class le t more cases = ⊎_elim
        (λ (same : g.class ≡ class).
        let one : ◌≡◌ {A = ℕ} (one_static g) 1 = ap (λ (b : Bool). cond {A = ℕ} b 1 0) t in
        let zero_below : one_below class g ≡ 0 = none_of class g (omega (arith, same)) in
        let next : j ≡ suc (j - 1) = omega (arith, sums, one, zero_below, below) in
        ap (λ (b : Bool). slice_get (cond (b && is_static g.flags) (g ∷ rest) rest) j) (itself g.class class same) ∙ ap (λ (b : Bool). slice_get (cond b (g ∷ rest) rest) j) t
        ∙ ap (slice_get (g ∷ rest)) next ∙ more (j - 1) (omega (arith, sums, one, zero_below, below)))
        (λ (apart : (g.class < class) ⊎ (class < g.class)).
        let lt : g.class < class = ⊎_elim (λ (h : g.class < class). h) (λ (h : class < g.class). absurd (omega (arith, h, le))) apart in
        ap (λ (b : Bool). slice_get (cond (b && is_static g.flags) (g ∷ rest) rest) j) (other g.class class lt) ∙ more j (omega (arith, sums, all_of class g lt)))
        cases

    by_order : g.class ≤ class → ((k : ℕ) → k + statics_below class gs ≡ sum_by one_static (take n gs) → slice_get rest k ≡ Some f) → (b : Bool) → is_static g.flags ≡ b
        → slice_get (cond ((g.class == class) && is_static g.flags) (g ∷ rest) rest) j ≡ Some f
    by_order le more true t = by_class le t more (cases_order g.class class)
    by_order le more false t =
        let no_one : ◌≡◌ {A = ℕ} (one_static g) 0 = ap (λ (b : Bool). cond {A = ℕ} b 1 0) t in
        let no_below : ◌≡◌ {A = ℕ} (one_below class g) 0 = ap (λ (b : Bool). cond {A = ℕ} (nat_lt g.class class && b) 1 0) t ∙ ap (λ (b : Bool). cond {A = ℕ} b 1 0) (none (nat_lt g.class class)) in
        ap (λ (b : Bool). slice_get (cond ((g.class == class) && b) (g ∷ rest) rest) j) t ∙ ap (λ (b : Bool). slice_get (cond b (g ∷ rest) rest) j) (none (g.class == class)) ∙ more j (omega (arith, sums, no_one, no_below))

static_by : (p : Program) (records : ℕ) → records ≡ 2 * MONITOR_RECORDS → IsProgram p → (n : ℕ) (f : FieldInfo) → slice_get p.fields n ≡ Some f → is_static f.flags ≡ true → slice_index (front p records ++ unused_part p) f.index ≡ word_of f.start
static_by p records many is n f e s =
    let number : ℕ = f.class - file_class 0 in
    let class : file_class number ≡ f.class = omega (arith, class_from p is n f e) in
    let few : number < length p.names = omega (arith, class, class_to p is n f e) in
    let reference : ℕ = FIRST_CLASS_WORD + 2 * number + statics_below (file_class number) p.fields in
    let j : ℕ = sum_by one_static (take n p.fields) - statics_below (file_class number) p.fields in
    let least : statics_below (file_class number) p.fields ≤ sum_by one_static (take n p.fields) = before_at_least (file_class number) p.fields n (λ i g le get. omega (arith, class, earlier_class p is n i f g e get le)) in
    let get : slice_get (statics_of p.fields (file_class number)) j ≡ Some f
    = among_class p.fields n (file_class number) j f e s (sym class) (λ i g lt got. omega (arith, class, earlier_class p is i n g f got e (omega (arith, lt)))) (λ i g le got. omega (arith, class, earlier_class p is n i f g e got le)) (omega (arith, least)) in
    let within : suc (suc j) < 2 + length (statics_of p.fields (file_class number)) = omega (arith, got_below (statics_of p.fields (file_class number)) j f get) in
    let word : f.index ≡ reference + suc (suc j) = omega (arith, static_word p is n f e s, least) in
    ap (slice_index (front p records ++ unused_part p)) word
    ∙ in_class p records many is number reference (suc (suc j)) few refl within
    ∙ mapped (λ (g : FieldInfo). word_of g.start) (statics_of p.fields (file_class number)) j f get

pub static_is : (p : Program) → IsProgram p → (n : ℕ) (f : FieldInfo) → slice_get p.fields n ≡ Some f → is_static f.flags ≡ true → slice_index (start_words p) f.index ≡ word_of f.start
static_is p is n f e s = static_by p (2 * MONITOR_RECORDS) refl is n f e s
