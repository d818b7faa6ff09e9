-- The pool of a load keeps the rules of a constant pool.
use Rattle.std.proofs.Common.{◌≡◌, ◌≤◌, ◌<◌, ◌^◌, ℕ, zero, suc, ◌+◌, ◌*◌, Bool, true, false, not, ◌&&◌, List, [], ◌∷◌, ◌++◌, length, codes, refl, sym, subst, ap, ◌∙◌, arith, nat_lt, slice_get, Some}
use Rattle.std.{specs.{Fmt.decimal, List.{AllByRecursion, flat_map, list_all, range_with_len}}, proofs.lemmas.{Bool.{ltb-true, and_parts}, List.length-append}}
use Rattle.jvm_types.specs.{ClassGrammar.{is_wide, is_gap, GapsFit, IsUtf8Byte, FieldsFit, IndicesFit, IsPool}, Pool.{NamesUtf8, NamesNameAndType}, declared.class_file.Constant.Constant}
use Rattle.jvm_types.{specs.declared.class_file.Constant.TheVariants.{Gap, Utf8, Integer, Float, Long, Double, Class, Text, Field, Method, InterfaceMethod, NameAndType}, proofs.EachAfter.all_append}
use Rattle.load_classes.{specs.LoadClass.{fixed_constants, name_index, adder_name, adder_constants, load_constants}, proofs.Digits.{decimal_bytes, decimal_length}}

-- ---- lists

pub all_range : {B : Type 0} (P : B → Type 0) (f : ℕ → List B) (a n : ℕ) → ((k : ℕ) → k < a + n → AllByRecursion P (f k)) → AllByRecursion P (flat_map f (range_with_len a n))
all_range P f a zero each = tt
all_range P f a (suc n) each = all_append P (f a) (flat_map f (range_with_len (a + 1) n)) (each a (omega arith)) (all_range P f (a + 1) n (λ k h. each k (omega (arith, h))))

get_behind : (xs ys : List Constant) (n : ℕ) → slice_get (xs ++ ys) (length xs + n) ≡ slice_get ys n
get_behind [] ys n = let e : length {A = Constant} [] + n ≡ n = omega arith in ap (slice_get ys) e
get_behind (x ∷ xs) ys n = let e : length (x ∷ xs) + n ≡ suc (length xs + n) = omega arith in ap (slice_get (x ∷ (xs ++ ys))) e ∙ get_behind xs ys n

-- ---- the entries that each load has

abbrev adders_of : ℕ → List Constant
adders_of size = flat_map adder_constants (range_with_len 0 size)

abbrev byte_test : ℕ → Bool
byte_test b = nat_lt 0 b && nat_lt b 240

text_from_test : (text : List ℕ) → list_all byte_test text ≡ true → AllByRecursion IsUtf8Byte text
text_from_test [] t = tt
text_from_test (b ∷ text) t = let p = and_parts (byte_test b) (list_all byte_test text) t in let q = and_parts (nat_lt 0 b) (nat_lt b 240) p.0 in ((ltb-true 0 b q.0, ltb-true b 240 q.1), text_from_test text p.1)

abbrev index_test : ℕ → Bool
index_test i = nat_lt i 65536

abbrev entry_test : Constant → Bool
entry_test Gap = true
entry_test (Utf8 text) = nat_lt (length text) 65536 && list_all byte_test text
entry_test (Class name) = index_test name
entry_test (Field class member) = index_test class && index_test member
entry_test (Method class member) = index_test class && index_test member
entry_test (NameAndType name descriptor) = index_test name && index_test descriptor
entry_test c = false

both_indices : (i j : ℕ) → (index_test i && index_test j) ≡ true → (i < 2 ^ 16) × (j < 2 ^ 16)
both_indices i j t = let p = and_parts (index_test i) (index_test j) t in (ltb-true i 65536 p.0, ltb-true j 65536 p.1)

entry_from_test : (c : Constant) → entry_test c ≡ true → FieldsFit c
entry_from_test Gap t = tt
entry_from_test (Utf8 text) t = let p = and_parts (nat_lt (length text) 65536) (list_all byte_test text) t in (ltb-true (length text) 65536 p.0, text_from_test text p.1)
entry_from_test (Class name) t = ltb-true name 65536 t
entry_from_test (Field class member) t = both_indices class member t
entry_from_test (Method class member) t = both_indices class member t
entry_from_test (NameAndType name descriptor) t = both_indices name descriptor t
entry_from_test (Integer n) t = absurd cc
entry_from_test (Float n) t = absurd cc
entry_from_test (Long n) t = absurd cc
entry_from_test (Double n) t = absurd cc
entry_from_test (Text string) t = absurd cc
entry_from_test (InterfaceMethod class member) t = absurd cc

entries_from_test : (cs : List Constant) → list_all entry_test cs ≡ true → AllByRecursion FieldsFit cs
entries_from_test [] t = tt
entries_from_test (c ∷ cs) t = let p = and_parts (entry_test c) (list_all entry_test cs) t in (entry_from_test c p.0, entries_from_test cs p.1)

-- ---- what the methods that add are named by

pub length_adders : (a n : ℕ) → length (flat_map adder_constants (range_with_len a n)) ≡ 3 * n
length_adders a zero = refl
length_adders a (suc n) = let e = length_adders (a + 1) n in omega (arith, e)

texts_stand : (a n k : ℕ) → k < n → NamesUtf8 (flat_map adder_constants (range_with_len a n)) (3 * k)
texts_stand a zero k h = absurd (omega (arith, h))
texts_stand a (suc n) zero h = (adder_name a, refl)
texts_stand a (suc n) (suc k) h = let e : suc (suc (suc (3 * k))) ≡ 3 * suc k = omega arith in subst (λ (i : ℕ). NamesUtf8 (flat_map adder_constants (range_with_len a (suc n))) i) e (texts_stand (a + 1) n k (omega (arith, h)))

pairs_stand : (a n k : ℕ) → k < n → NamesNameAndType (flat_map adder_constants (range_with_len a n)) (3 * k + 1)
pairs_stand a zero k h = absurd (omega (arith, h))
pairs_stand a (suc n) zero h = (name_index a, 13, refl)
pairs_stand a (suc n) (suc k) h = let e : suc (suc (suc (3 * k + 1))) ≡ 3 * suc k + 1 = omega arith in subst (λ (i : ℕ). NamesNameAndType (flat_map adder_constants (range_with_len a (suc n))) i) e (pairs_stand (a + 1) n k (omega (arith, h)))

text_behind : (xs ys : List Constant) (n : ℕ) → NamesUtf8 ys n → NamesUtf8 (xs ++ ys) (length xs + n)
text_behind xs ys n (text, e) = (text, get_behind xs ys n ∙ e)

pair_behind : (xs ys : List Constant) (n : ℕ) → NamesNameAndType ys n → NamesNameAndType (xs ++ ys) (length xs + n)
pair_behind xs ys n (name, descriptor, e) = (name, descriptor, get_behind xs ys n ∙ e)

pub names_text : (size k : ℕ) → k < size → NamesUtf8 (load_constants size) (name_index k)
names_text size k h = text_behind fixed_constants (adders_of size) (3 * k) (texts_stand 0 size k h)

names_pair : (size k : ℕ) → k < size → NamesNameAndType (load_constants size) (name_index k + 1)
names_pair size k h =
    let e : length fixed_constants + (3 * k + 1) ≡ name_index k + 1 = omega arith in
    subst (λ (i : ℕ). NamesNameAndType (load_constants size) i) e (pair_behind fixed_constants (adders_of size) (3 * k + 1) (pairs_stand 0 size k h))

adder_fits : (k : ℕ) → k < 1000 → AllByRecursion FieldsFit (adder_constants k)
adder_fits k h =
    let short = decimal_length (k + 1) (omega arith) (omega (arith, h)) in
    let named : length (adder_name k) < 2 ^ 16 = omega (arith, short, length-append (codes "w") (decimal (k + 1))) in
    ((named, ((omega arith, omega arith), decimal_bytes (k + 1) (omega arith) (omega (arith, h)))), ((omega (arith, h), omega arith), ((omega arith, omega (arith, h)), tt)))

adder_named : (size k : ℕ) → k < size → AllByRecursion (IndicesFit (load_constants size)) (adder_constants k)
adder_named size k h = (tt, ((names_text size k h, (codes "(I)V", refl)), (((1, refl), names_pair size k h), tt)))

-- ---- the pool

gaps_adders : (a n : ℕ) → GapsFit false (flat_map adder_constants (range_with_len a n))
gaps_adders a zero = refl
gaps_adders a (suc n) = (refl, (refl, (refl, gaps_adders (a + 1) n)))

abbrev is_plain : Constant → Bool
is_plain c = not (is_gap c) && not (is_wide c)

gaps_plain : (cs rest : List Constant) → list_all is_plain cs ≡ true → GapsFit false rest → GapsFit false (cs ++ rest)
gaps_plain [] rest t h = h
gaps_plain (c ∷ cs) rest t h =
    let p = and_parts (is_plain c) (list_all is_plain cs) t in
    let q = and_parts (not (is_gap c)) (not (is_wide c)) p.0 in
    (no (is_gap c) q.0, subst (λ (due : Bool). GapsFit due (cs ++ rest)) (sym (no (is_wide c) q.1)) (gaps_plain cs rest p.1 h))
  where
    no : (b : Bool) → not b ≡ true → b ≡ false
    no true e = absurd cc
    no false e = refl

abbrev tail_of : List Constant → List Constant
tail_of [] = []
tail_of (c ∷ cs) = cs

fixed_named : (size : ℕ) → AllByRecursion (IndicesFit (load_constants size)) fixed_constants
fixed_named size =
    (tt, (tt, ((_, refl), (tt, ((_, refl), (tt, (tt, (tt, (tt, (tt, (tt, (tt, (tt, (tt, (tt, (tt, (tt, (tt, (tt, (tt, (((_, refl), (_, refl)), (((_, refl), (_, _, refl)), (((_, refl), (_, _, refl)), (((_, refl), (_, refl)), (((_, refl), (_, _, refl)), (((_, refl), (_, refl)), (((_, refl), (_, _, refl)), (((_, refl), (_, refl)), (((_, refl), (_, _, refl)), (((_, refl), (_, refl)), (((_, refl), (_, _, refl)), (((_, refl), (_, refl)), (((_, refl), (_, _, refl)), (tt, ((_, refl), (tt, (tt, (((_, refl), (_, refl)), (((_, refl), (_, _, refl)), (tt, ((_, refl), (tt, (((_, refl), (_, refl)), (((_, refl), (_, _, refl)), tt))))))))))))))))))))))))))))))))))))))))))))

pub pool_length : (size : ℕ) → length (load_constants size) ≡ 44 + 3 * size
pool_length size = length-append fixed_constants (adders_of size) ∙ ap (λ (n : ℕ). 44 + n) (length_adders 0 size)

pub pool_stands : (size : ℕ) → size ≤ 1000 → IsPool (load_constants size)
pool_stands size h = record {
  count = omega (arith, pool_length size, h);
  gaps = (refl, gaps_plain (tail_of fixed_constants) (adders_of size) refl (gaps_adders 0 size));
  fields = all_append FieldsFit fixed_constants (adders_of size) (entries_from_test fixed_constants refl) (all_range FieldsFit adder_constants 0 size (λ k less. adder_fits k (omega (arith, less, h))));
  indices = all_append (IndicesFit (load_constants size)) fixed_constants (adders_of size) (fixed_named size) (all_range (IndicesFit (load_constants size)) adder_constants 0 size (λ k less. adder_named size k (omega (arith, less))));
}
