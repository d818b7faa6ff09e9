-- The methods of a load keep the rules of methods.
use Rattle.std.proofs.Common.{◌≡◌, ◌≤◌, ◌<◌, ◌^◌, ℕ, zero, suc, ◌+◌, ◌*◌, ◌/◌, ◌%◌, Bool, true, false, ◌&&◌, List, [], ◌∷◌, ◌++◌, length, codes, refl, sym, subst, ap, ◌∙◌, arith, nat_lt, slice_get, Some}
use Rattle.std.{specs.List.{AllByRecursion, flat_map, list_all, range_with_len}, proofs.lemmas.{Bool.{ltb-true, and_parts}, List.length-append}}
use Rattle.jvm_types.specs.{ClassGrammar.{IsByte, IsMethod}, Numbers.{has_flag, u2, u4}, Pool.NamesUtf8, Spelling.code_body, declared.class_file.{Code.Code, Constant.{Constant, TheVariants.Utf8}}}
use Rattle.jvm_types.{specs.declared.flags.TheConstants.{NATIVE, ABSTRACT}, proofs.EachAfter.all_append}
use Rattle.load_classes.specs.LoadClass.{next_number, factors, method, constructor, adder_bytes, adder, adders, sum_reader, counter_reader, first_part, call_bytes, run_bytes, worker_part, last_part, name_index, load_constants, load_methods}
use Rattle.load_classes.proofs.LoadPool.{all_range, names_text}

-- ---- a method

abbrev pub code_of : (stack locals : ℕ) → List ℕ → Code
code_of stack locals bytes = record { max_stack = stack; max_locals = locals; bytes = bytes; rows = []; attrs = []; name = 12 }

pub six : (a b c d e f : List ℕ) → length (a ++ b ++ c ++ d ++ e ++ f) ≡ length a + length b + length c + length d + length e + length f
six a b c d e f = omega (arith, length-append a b, length-append (a ++ b) c, length-append (a ++ b ++ c) d, length-append (a ++ b ++ c ++ d) e, length-append (a ++ b ++ c ++ d ++ e) f)

pub body_length : (stack locals : ℕ) (bytes : List ℕ) → length (code_body (code_of stack locals bytes)) ≡ length bytes + 12
body_length stack locals bytes =
    let of_stack : length (u2 stack) ≡ 2 = refl in
    let of_locals : length (u2 locals) ≡ 2 = refl in
    let of_size : length (u4 (length bytes)) ≡ 4 = refl in
    let none : List ℕ = 0 ∷ 0 ∷ [] in
    let of_none : length none ≡ 2 = refl in
    omega (arith, six (u2 stack) (u2 locals) (u4 (length bytes)) bytes none none, of_stack, of_locals, of_size, of_none)

-- a method of such numbers is one
pub record Fits (pool : List Constant) (flags name descriptor stack locals : ℕ) (bytes : List ℕ) : Type 0 where
  pub code : slice_get pool 12 ≡ Some (Utf8 (codes "Code"))
  pub named : NamesUtf8 pool name
  pub described : NamesUtf8 pool descriptor
  pub flags_fit : flags < 2 ^ 16
  pub name_fits : name < 2 ^ 16
  pub descriptor_fits : descriptor < 2 ^ 16
  pub stack_fits : stack < 2 ^ 16
  pub locals_fit : locals < 2 ^ 16
  pub short : length bytes < 2 ^ 16
  pub each : AllByRecursion IsByte bytes
  pub not_native : has_flag NATIVE flags ≡ false
  pub not_abstract : has_flag ABSTRACT flags ≡ false

pub method_stands : (pool : List Constant) (flags name descriptor stack locals : ℕ) (bytes : List ℕ) → Fits pool flags name descriptor stack locals bytes → IsMethod pool (method flags name descriptor stack locals bytes)
method_stands pool flags name descriptor stack locals bytes f = record {
  member = record {
    flags = f.flags_fit;
    name = record { number = f.name_fits; names = f.named };
    descriptor = record { number = f.descriptor_fits; names = f.described };
    attrs = record {
      count = omega arith;
      each = (
        record {
          name = record { number = omega arith; named = f.code };
          size = omega (arith, body_length stack locals bytes, f.short);
          max_stack = f.stack_fits;
          max_locals = f.locals_fit;
          count = omega (arith, f.short);
          bytes = f.each;
          rows = record { count = omega arith; each = tt };
          attrs = record { count = omega arith; each = tt };
        },
        tt,
      );
    };
  };
  body = record { one = refl; not_native = f.not_native; not_abstract = f.not_abstract };
}

-- ---- bytes

abbrev byte_test : ℕ → Bool
byte_test b = nat_lt b 256

bytes_from_test : (bs : List ℕ) → list_all byte_test bs ≡ true → AllByRecursion IsByte bs
bytes_from_test [] t = tt
bytes_from_test (b ∷ bs) t = let p = and_parts (byte_test b) (list_all byte_test bs) t in (ltb-true b 256 p.0, bytes_from_test bs p.1)

factors_are_small : (x size : ℕ) → AllByRecursion (λ factor. factor < 100) (factors x size)
factors_are_small x zero = tt
factors_are_small x (suc size) = (omega arith, factors_are_small (next_number x) size)

pub factors_length : (x size : ℕ) → length (factors x size) ≡ size
factors_length x zero = refl
factors_length x (suc size) = ap suc (factors_length (next_number x) size)

adder_is_bytes : (factor : ℕ) → factor < 100 → AllByRecursion IsByte (adder_bytes factor)
adder_is_bytes factor h =
    let f : factor < 256 = omega (arith, h) in
    let one : AllByRecursion IsByte (factor ∷ []) = (f, tt) in
    let first : AllByRecursion IsByte (42 ∷ 42 ∷ 180 ∷ 0 ∷ 24 ∷ 27 ∷ 16 ∷ []) = bytes_from_test (42 ∷ 42 ∷ 180 ∷ 0 ∷ 24 ∷ 27 ∷ 16 ∷ []) refl in
    let second : AllByRecursion IsByte (104 ∷ 96 ∷ 181 ∷ 0 ∷ 24 ∷ 42 ∷ 42 ∷ 180 ∷ 0 ∷ 26 ∷ 27 ∷ 16 ∷ []) = bytes_from_test (104 ∷ 96 ∷ 181 ∷ 0 ∷ 24 ∷ 42 ∷ 42 ∷ 180 ∷ 0 ∷ 26 ∷ 27 ∷ 16 ∷ []) refl in
    let third : AllByRecursion IsByte (104 ∷ 100 ∷ 181 ∷ 0 ∷ 26 ∷ 177 ∷ []) = bytes_from_test (104 ∷ 100 ∷ 181 ∷ 0 ∷ 26 ∷ 177 ∷ []) refl in
    all_append IsByte (42 ∷ 42 ∷ 180 ∷ 0 ∷ 24 ∷ 27 ∷ 16 ∷ []) (factor ∷ ((104 ∷ 96 ∷ 181 ∷ 0 ∷ 24 ∷ 42 ∷ 42 ∷ 180 ∷ 0 ∷ 26 ∷ 27 ∷ 16 ∷ []) ++ (factor ∷ (104 ∷ 100 ∷ 181 ∷ 0 ∷ 26 ∷ 177 ∷ [])))) first
    (f, all_append IsByte (104 ∷ 96 ∷ 181 ∷ 0 ∷ 24 ∷ 42 ∷ 42 ∷ 180 ∷ 0 ∷ 26 ∷ 27 ∷ 16 ∷ []) (factor ∷ (104 ∷ 100 ∷ 181 ∷ 0 ∷ 26 ∷ 177 ∷ [])) second (f, third))

call_is_bytes : (k : ℕ) → k < 1000 → AllByRecursion IsByte (call_bytes k)
call_is_bytes k h =
    let high : (name_index k + 2) / 256 < 256 = omega (arith, h) in
    let low : (name_index k + 2) % 256 < 256 = omega arith in
    let first : AllByRecursion IsByte (178 ∷ 0 ∷ 28 ∷ 26 ∷ 182 ∷ []) = bytes_from_test (178 ∷ 0 ∷ 28 ∷ 26 ∷ 182 ∷ []) refl in
    let last = 178 ∷ 0 ∷ 28 ∷ 182 ∷ 0 ∷ 30 ∷ 153 ∷ 0 ∷ 10 ∷ 178 ∷ 0 ∷ 38 ∷ 4 ∷ 182 ∷ 0 ∷ 43 ∷ [] in
    all_append IsByte (178 ∷ 0 ∷ 28 ∷ 26 ∷ 182 ∷ []) (u2 (name_index k + 2) ++ last) first (high, (low, bytes_from_test last refl))

pub length_calls : (a n : ℕ) → length (flat_map call_bytes (range_with_len a n)) ≡ 23 * n
length_calls a zero = refl
length_calls a (suc n) = let e = length_calls (a + 1) n in omega (arith, e)

pub length_run : (size : ℕ) → length (run_bytes size) ≡ 23 * size + 1
length_run size = length-append (flat_map call_bytes (range_with_len 0 size)) (177 ∷ []) ∙ ap (λ (n : ℕ). n + 1) (length_calls 0 size)

-- ---- the methods

adder_stands : (size k factor : ℕ) → size ≤ 1000 → k < size → factor < 100 → IsMethod (load_constants size) (adder k factor)
adder_stands size k factor h less small = method_stands (load_constants size) _ _ _ _ _ (adder_bytes factor) (record {
  code = refl;
  named = names_text size k less;
  described = (_, refl);
  flags_fit = omega arith;
  name_fits = omega (arith, h, less);
  descriptor_fits = omega arith;
  stack_fits = omega arith;
  locals_fit = omega arith;
  short = omega arith;
  each = adder_is_bytes factor small;
  not_native = refl;
  not_abstract = refl;
})

adders_stand : (size k : ℕ) (fs : List ℕ) → size ≤ 1000 → k + length fs ≤ size → AllByRecursion (λ factor. factor < 100) fs → AllByRecursion (IsMethod (load_constants size)) (adders k fs)
adders_stand size k [] h within small = tt
adders_stand size k (f ∷ fs) h within small = (adder_stands size k f h (omega (arith, within)) small.0, adders_stand size (k + 1) fs h (omega (arith, within)) small.1)

-- a method whose numbers and bytes are known
known_stands : (size flags name descriptor stack locals : ℕ) (bytes : List ℕ) → NamesUtf8 (load_constants size) name → NamesUtf8 (load_constants size) descriptor
    → (nat_lt flags 65536 && (nat_lt name 65536 && (nat_lt descriptor 65536 && (nat_lt stack 65536 && nat_lt locals 65536)))) ≡ true → length bytes < 2 ^ 16 → AllByRecursion IsByte bytes
    → has_flag NATIVE flags ≡ false → has_flag ABSTRACT flags ≡ false → IsMethod (load_constants size) (method flags name descriptor stack locals bytes)
known_stands size flags name descriptor stack locals bytes named described t short each native abstracted =
    let a = and_parts (nat_lt flags 65536) _ t in
    let b = and_parts (nat_lt name 65536) _ a.1 in
    let c = and_parts (nat_lt descriptor 65536) _ b.1 in
    let d = and_parts (nat_lt stack 65536) (nat_lt locals 65536) c.1 in
    method_stands (load_constants size) flags name descriptor stack locals bytes (record {
      code = refl;
      named = named;
      described = described;
      flags_fit = ltb-true flags 65536 a.0;
      name_fits = ltb-true name 65536 b.0;
      descriptor_fits = ltb-true descriptor 65536 c.0;
      stack_fits = ltb-true stack 65536 d.0;
      locals_fit = ltb-true locals 65536 d.1;
      short = short;
      each = each;
      not_native = native;
      not_abstract = abstracted;
    })

run_is_bytes : (size : ℕ) → size ≤ 1000 → AllByRecursion IsByte (run_bytes size)
run_is_bytes size h = all_append IsByte (flat_map call_bytes (range_with_len 0 size)) (177 ∷ []) (all_range IsByte call_bytes 0 size (λ k less. call_is_bytes k (omega (arith, less, h)))) (bytes_from_test (177 ∷ []) refl)

pub methods_stand : (size seed : ℕ) → size ≤ 1000 → AllByRecursion (IsMethod (load_constants size)) (load_methods size seed)
methods_stand size seed h = (
  known_stands size 0 10 11 1 1 (42 ∷ 183 ∷ 0 ∷ 21 ∷ 177 ∷ []) (_, refl) (_, refl) refl (omega arith) (bytes_from_test (42 ∷ 183 ∷ 0 ∷ 21 ∷ 177 ∷ []) refl) refl refl,
  all_append (IsMethod (load_constants size)) (adders 0 (factors seed size)) (sum_reader ∷ counter_reader ∷ first_part ∷ worker_part size ∷ last_part ∷ [])
      (adders_stand size 0 (factors seed size) h (omega (arith, factors_length seed size)) (factors_are_small seed size)) (
        known_stands size 32 14 15 2 1 (42 ∷ 180 ∷ 0 ∷ 24 ∷ 42 ∷ 180 ∷ 0 ∷ 26 ∷ 96 ∷ 172 ∷ []) (_, refl) (_, refl) refl (omega arith) (bytes_from_test (42 ∷ 180 ∷ 0 ∷ 24 ∷ 42 ∷ 180 ∷ 0 ∷ 26 ∷ 96 ∷ 172 ∷ []) refl) refl refl,
        (
          known_stands size 32 16 15 1 1 (42 ∷ 180 ∷ 0 ∷ 24 ∷ 172 ∷ []) (_, refl) (_, refl) refl (omega arith) (bytes_from_test (42 ∷ 180 ∷ 0 ∷ 24 ∷ 172 ∷ []) refl) refl refl,
          (
            known_stands size 8 17 11 2 0 (187 ∷ 0 ∷ 2 ∷ 89 ∷ 183 ∷ 0 ∷ 22 ∷ 179 ∷ 0 ∷ 28 ∷ 177 ∷ []) (_, refl) (_, refl) refl (omega arith) (bytes_from_test (187 ∷ 0 ∷ 2 ∷ 89 ∷ 183 ∷ 0 ∷ 22 ∷ 179 ∷ 0 ∷ 28 ∷ 177 ∷ []) refl) refl refl,
            (
              known_stands size 8 18 13 2 1 (run_bytes size) (_, refl) (_, refl) refl (omega (arith, length_run size, h)) (run_is_bytes size h) refl refl,
              (known_stands size 8 19 11 2 0 (178 ∷ 0 ∷ 38 ∷ 178 ∷ 0 ∷ 28 ∷ 182 ∷ 0 ∷ 32 ∷ 182 ∷ 0 ∷ 43 ∷ 178 ∷ 0 ∷ 38 ∷ 178 ∷ 0 ∷ 28 ∷ 182 ∷ 0 ∷ 30 ∷ 182 ∷ 0 ∷ 43 ∷ 177 ∷ []) (_, refl) (_, refl) refl (omega arith) (bytes_from_test (178 ∷ 0 ∷ 38 ∷ 178 ∷ 0 ∷ 28 ∷ 182 ∷ 0 ∷ 32 ∷ 182 ∷ 0 ∷ 43 ∷ 178 ∷ 0 ∷ 38 ∷ 178 ∷ 0 ∷ 28 ∷ 182 ∷ 0 ∷ 30 ∷ 182 ∷ 0 ∷ 43 ∷ 177 ∷ []) refl) refl refl, tt),
            ),
          ),
        ),
      ),
)
