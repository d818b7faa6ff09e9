-- The class of a load is short enough, and so bytes spell it.
use Rattle.std.{proofs.Common.{◌≡◌, ◌≤◌, ◌<◌, ◌^◌, ℕ, zero, suc, ◌+◌, ◌*◌, List, [], ◌∷◌, ◌++◌, length, codes, refl, sym, ap, ◌∙◌, arith}, specs.Fmt.decimal}
use Rattle.std.{specs.List.{AllByRecursion, flat_map, range_with_len}, proofs.lemmas.{Grind.flat_map-append, List.length-append}}
use Rattle.jvm_types.specs.{ClassGrammar.IsField, Numbers.{u1, u2, u4}, Pool.NamesUtf8, Spelling.{counted, constant, member, attr, class_file, code_body}, declared.class_file.Constant.Constant}
use Rattle.jvm_types.specs.declared.class_file.{Constant.TheVariants.{Utf8, Method, NameAndType}, Member.Member, TheConstants.MAGIC}
use Rattle.load_classes.specs.LoadClass.{fixed_constants, adder_name, adder_constants, load_constants, factors, adder, adders, run_bytes, worker_part, constructor, sum_reader, counter_reader, first_part, last_part, load_methods, method, adder_bytes, name_index, field, load_fields, load_class}
use Rattle.load_classes.{specs.Loads.LoadsAreClasses, proofs.{Digits.decimal_length, LoadMethods.{code_of, body_length, length_run, factors_length, methods_stand}}}
use Rattle.load_classes.proofs.LoadPool.{pool_length, pool_stands}

-- ---- the pool

adder_entries : (k : ℕ) → k < 1000 → length (flat_map constant (adder_constants k)) ≤ 18
adder_entries k h =
    let name = adder_name k in
    let others = constant (NameAndType (name_index k) 13) ++ (constant (Method 2 (name_index k + 1)) ++ []) in
    let whole : length (flat_map constant (adder_constants k)) ≡ length (constant (Utf8 name)) + length others = length-append (constant (Utf8 name)) others in
    let of_others : length others ≡ 10 = refl in
    let of_head : length (u1 1 ++ u2 (length name)) ≡ 3 = refl in
    let of_text = length-append (u1 1 ++ u2 (length name)) name in
    let of_name : length name ≡ 1 + length (decimal (k + 1)) = length-append (codes "w") (decimal (k + 1)) in
    omega (arith, whole, of_others, of_head, of_text, of_name, decimal_length (k + 1) (omega arith) (omega (arith, h)))

adders_entries : (a n : ℕ) → a + n ≤ 1000 → length (flat_map constant (flat_map adder_constants (range_with_len a n))) ≤ 18 * n
adders_entries a zero h = omega arith
adders_entries a (suc n) h =
    let rest = flat_map adder_constants (range_with_len (a + 1) n) in
    let e = ap length (flat_map-append constant (adder_constants a) rest) ∙ length-append (flat_map constant (adder_constants a)) (flat_map constant rest) in
    omega (arith, e, adder_entries a (omega (arith, h)), adders_entries (a + 1) n (omega (arith, h)))

entries : (size : ℕ) → size ≤ 1000 → length (flat_map constant (load_constants size)) ≤ 1000 + 18 * size
entries size h =
    let e = ap length (flat_map-append constant fixed_constants (flat_map adder_constants (range_with_len 0 size))) ∙ length-append (flat_map constant fixed_constants) (flat_map constant (flat_map adder_constants (range_with_len 0 size))) in
    let known : length (flat_map constant fixed_constants) ≤ 1000 = omega arith in
    omega (arith, e, known, adders_entries 0 size (omega (arith, h)))

-- ---- the methods

member_length : (flags name descriptor stack locals : ℕ) (bytes : List ℕ) → length (member (method flags name descriptor stack locals bytes)) ≡ length bytes + 26
member_length flags name descriptor stack locals bytes =
    let body = code_body (code_of stack locals bytes) in
    let head = u2 12 ++ u4 (length body) in
    let front = u2 flags ++ u2 name ++ u2 descriptor in
    let inside = u2 1 ++ ((head ++ body) ++ []) in
    let whole : length (member (method flags name descriptor stack locals bytes)) ≡ length front + length inside = length-append front inside in
    let of_front : length front ≡ 6 = refl in
    let of_count : length (u2 1) ≡ 2 = refl in
    let of_head : length head ≡ 6 = refl in
    let of_none : length {A = ℕ} [] ≡ 0 = refl in
    omega (arith, whole, of_front, of_count, of_head, of_none, length-append (u2 1) ((head ++ body) ++ []), length-append (head ++ body) [], length-append head body, body_length stack locals bytes)

adders_bytes : (k : ℕ) (fs : List ℕ) → length (flat_map member (adders k fs)) ≡ 53 * length fs
adders_bytes k [] = refl
adders_bytes k (f ∷ fs) =
    let known : length (adder_bytes f) ≡ 27 = refl in
    let more : length (f ∷ fs) ≡ suc (length fs) = refl in
    omega (arith, length-append (member (adder k f)) (flat_map member (adders (k + 1) fs)), member_length 32 (name_index k) 13 4 2 (adder_bytes f), known, more, adders_bytes (k + 1) fs)

last_members : (size : ℕ) → length (flat_map member (sum_reader ∷ counter_reader ∷ first_part ∷ worker_part size ∷ last_part ∷ [])) ≡ 182 + 23 * size
last_members size =
    let of_last : length (flat_map member (last_part ∷ [])) ≡ 51 = refl in
    let of_sum : length (member sum_reader) ≡ 36 = refl in
    let of_counter : length (member counter_reader) ≡ 31 = refl in
    let of_first : length (member first_part) ≡ 37 = refl in
    omega (
      arith,
      of_last,
      of_sum,
      of_counter,
      of_first,
      length-append (member sum_reader) (flat_map member (counter_reader ∷ first_part ∷ worker_part size ∷ last_part ∷ [])),
      length-append (member counter_reader) (flat_map member (first_part ∷ worker_part size ∷ last_part ∷ [])),
      length-append (member first_part) (flat_map member (worker_part size ∷ last_part ∷ [])),
      length-append (member (worker_part size)) (flat_map member (last_part ∷ [])),
      member_length 8 18 13 2 1 (run_bytes size),
      length_run size,
    )

all_members : (size seed : ℕ) → length (flat_map member (load_methods size seed)) ≡ 213 + 76 * size
all_members size seed =
    let adding = adders 0 (factors seed size) in
    let last = sum_reader ∷ counter_reader ∷ first_part ∷ worker_part size ∷ last_part ∷ [] in
    let of_first : length (member constructor) ≡ 31 = refl in
    let e : length (flat_map member (load_methods size seed)) ≡ length (member constructor) + length (flat_map member (adding ++ last)) = length-append (member constructor) (flat_map member (adding ++ last)) in
    let parted = ap length (flat_map-append member adding last) ∙ length-append (flat_map member adding) (flat_map member last) in
    omega (arith, e, of_first, parted, adders_bytes 0 (factors seed size), factors_length seed size, last_members size)

adders_length : (k : ℕ) (fs : List ℕ) → length (adders k fs) ≡ length fs
adders_length k [] = refl
adders_length k (f ∷ fs) = ap suc (adders_length (k + 1) fs)

methods_length : (size seed : ℕ) → length (load_methods size seed) ≡ 6 + size
methods_length size seed =
    let last = sum_reader ∷ counter_reader ∷ first_part ∷ worker_part size ∷ last_part ∷ [] in
    let e : length (load_methods size seed) ≡ suc (length (adders 0 (factors seed size) ++ last)) = refl in
    let five : length last ≡ 5 = refl in
    omega (arith, e, five, length-append (adders 0 (factors seed size)) last, adders_length 0 (factors seed size), factors_length seed size)

-- ---- the class

nine : (a k b c d i f m t : List ℕ) → length (a ++ k ++ b ++ c ++ d ++ i ++ f ++ m ++ t) ≡ length a + length k + length b + length c + length d + length i + length f + length m + length t
nine a k b c d i f m t = omega (
  arith,
  length-append a k,
  length-append (a ++ k) b,
  length-append (a ++ k ++ b) c,
  length-append (a ++ k ++ b ++ c) d,
  length-append (a ++ k ++ b ++ c ++ d) i,
  length-append (a ++ k ++ b ++ c ++ d ++ i) f,
  length-append (a ++ k ++ b ++ c ++ d ++ i ++ f) m,
  length-append (a ++ k ++ b ++ c ++ d ++ i ++ f ++ m) t,
)

short : (size seed : ℕ) → size ≤ 1000 → length (class_file (load_class size seed)) ≤ 1048576
short size seed h =
    let pool = counted constant (load_constants size) in
    let methods = counted member (load_methods size seed) in
    let whole : length (class_file (load_class size seed)) ≡ 8 + length pool + 2 + 2 + 2 + 2 + 26 + length methods + 2
    = nine (u4 MAGIC ++ u2 0 ++ u2 50) pool (u2 32) (u2 2) (u2 4) (counted u2 []) (counted member load_fields) methods (counted attr []) in
    let of_count : length (u2 (length (load_constants size))) ≡ 2 = refl in
    let of_number : length (u2 (length (load_methods size seed))) ≡ 2 = refl in
    let of_pool = length-append (u2 (length (load_constants size))) (flat_map constant (load_constants size)) in
    let of_methods = length-append (u2 (length (load_methods size seed))) (flat_map member (load_methods size seed)) in
    omega (arith, whole, of_count, of_number, of_pool, of_methods, entries size h, all_members size seed, h)

field_stands : (size flags name descriptor : ℕ) → NamesUtf8 (load_constants size) name → NamesUtf8 (load_constants size) descriptor → flags < 2 ^ 16 → name < 2 ^ 16 → descriptor < 2 ^ 16 → IsField (load_constants size) (field flags name descriptor)
field_stands size flags name descriptor named described f n d = record { flags = f; name = record { number = n; names = named }; descriptor = record { number = d; names = described }; attrs = record { count = omega arith; each = tt } }

pub loads_stand : LoadsAreClasses
loads_stand size seed h = record {
  short = short size seed h;
  minor = omega arith;
  from_45 = omega arith;
  to_50 = omega arith;
  pool = pool_stands size h;
  flags = omega arith;
  this_class = record { number = omega arith; names = (_, refl) };
  super_class = record { number = omega arith; names = (_, refl) };
  interfaces = record { count = omega arith; each = tt };
  fields = record {
    count = omega arith;
    each = (
      field_stands size 2 5 6 (_, refl) (_, refl) (omega arith) (omega arith) (omega arith),
      (
        field_stands size 2 7 6 (_, refl) (_, refl) (omega arith) (omega arith) (omega arith),
        (field_stands size 8 8 9 (_, refl) (_, refl) (omega arith) (omega arith) (omega arith), tt),
      ),
    );
  };
  methods = record { count = omega (arith, methods_length size seed, h); each = methods_stand size seed h };
  attrs = record { count = omega arith; each = tt };
}
