-- What was written of a number or of bytes is read as that, and a line has the words that were written.
use Rattle.std.proofs.Common.{◌≡◌, ◌≢◌, ℕ, suc, ◌+◌, ◌-◌, ◌*◌, ◌%◌, ◌/◌, ◌^◌, ◌<◌, ◌≤◌, ℤ, pos, Bool, true, false, List, [], ◌∷◌, ◌++◌, length, get_or, map, drop, refl, sym, ap, subst, ◌∙◌, arith, rules, add-one, ◌==◌, ◌&&◌, ◌-ℤ◌, nat_lt, Option, None, slice_get, if◌then◌else◌}
use Rattle.std.{specs.{Fmt.{decimal, signed_decimal}, List.{AllByRecursion, list_all, flat_map}, Option.unwrap_or, Str.all_ascii_digits}, proofs.Math.Seq.drop-cons}
use Rattle.std.proofs.lemmas.{Bool.{lt-ltb, and_parts, and_from, Decides.nat_tests}, Fmt.{digits_value-decimal, digits_decimal, decimal_by_steps, decimal_nonempty}, Int.ints, List.append-nil}
use Rattle.std.proofs.lemmas.{List.{Elements.All-from_recursion, Folds.list_all-append, Splits.{slice_split_at, slice_split_none}}, Option.unwrap_or-slice_get}
use Rattle.std.proofs.lemmas.Str.Parse.{IsNumeralModel, numerals_by_fold, not_in_digits}
use Rattle.jvm_types.specs.ClassGrammar.{IsByte}
use Rattle.asm_text.specs.{Lines.{Value, Number, Signed, Hex, listed_digit, hex_byte, hex_text, value_text, values_text}, Words.{words, read_on, unsigned, small, signed, hex_digit_of, hex_bytes}}
use lib.IntN.{negsuc}

-- ---- numbers

own : IsNumeralModel (λ ds. all_ascii_digits ds ≡ true) (read_on 0)
own = numerals_by_fold _ (search rules) read_on (search rules)

pub unsigned_back : (n : ℕ) → n < 2 ^ 64 → unsigned (decimal n) ≡ n
unsigned_back n h = rw (digits_value-decimal own n h) (omega arith)

pub small_back : (limit n : ℕ) → n < limit → small limit n ≡ n
small_back limit n h = rw (lt-ltb n limit h) refl

pub u2_back : (n : ℕ) → n < 2 ^ 16 → small 65536 (unsigned (decimal n)) ≡ n
u2_back n h = ap (small 65536) (unsigned_back n (omega arith)) ∙ small_back 65536 n (omega arith)

pub u4_back : (n : ℕ) → n < 2 ^ 32 → small 4294967296 (unsigned (decimal n)) ≡ n
u4_back n h = ap (small 4294967296) (unsigned_back n (omega arith)) ∙ small_back 4294967296 n (omega arith)

no_dash : (c : ℕ) → c ≢ 45 → (c == 45) ≡ false
no_dash c h = grind (arith, nat_tests)

plain_signed : (limit : ℕ) (word : List ℕ) → 0 < length word → get_or word 0 0 ≢ 45 → signed limit word ≡ pos (small limit (unsigned word))
plain_signed limit [] some h = absurd (omega arith)
plain_signed limit (c ∷ cs) some h = rw (no_dash c h) refl

from_dash : (n : ℕ) → pos 0 -ℤ pos (suc n) ≡ negsuc n
from_dash n = omega (arith, ints)

-- the number is below the limit, and not below -2147483648
abbrev pub IsSigned : ℕ → ℤ → Type 0
IsSigned limit (pos n) = n < limit
IsSigned limit (negsuc n) = n < 2147483648

pub signed_back : (limit : ℕ) (z : ℤ) → limit ≤ 4294967296 → IsSigned limit z → signed limit (signed_decimal z) ≡ z
signed_back limit (pos n) few h =
    plain_signed limit (decimal n) (decimal_nonempty n (omega arith)) (not_in_digits own (decimal n) 45 (digits_decimal own n (omega arith)) (λ r. omega (arith, r.0)) 0 (decimal_nonempty n (omega arith)))
    ∙ ap (λ m. pos (small limit m)) (unsigned_back n (omega arith)) ∙ ap pos (small_back limit n h)
signed_back limit (negsuc n) few h = ap (λ m. pos 0 -ℤ pos (small 2147483649 m)) (unsigned_back (suc n) (omega arith)) ∙ ap (λ m. pos 0 -ℤ pos m) (small_back 2147483649 (suc n) (omega arith)) ∙ from_dash n

step_same : (n d : ℕ) → (n % 18446744073709551616 * 10 + d) % 18446744073709551616 ≡ (n * 10 + d) % 18446744073709551616
step_same n d = omega arith

-- digits may be read modulo a number
read_mod : (n : ℕ) (cs : List ℕ) → read_on (n % 2 ^ 64) cs % 2 ^ 64 ≡ read_on n cs % 2 ^ 64
read_mod n [] = omega arith
read_mod n (c ∷ cs) = sym (read_mod (n % 2 ^ 64 * 10 + (c - 48)) cs) ∙ ap (λ k. read_on k cs % 2 ^ 64) (step_same n (c - 48)) ∙ read_mod (n * 10 + (c - 48)) cs

wrapped_same : (n d : ℕ) → (n * 10 % 18446744073709551616 + d) % 18446744073709551616 ≡ (n * 10 + d) % 18446744073709551616
wrapped_same n d = omega arith

-- one more digit
pub read_more : (n r : ℕ) (word : List ℕ) (i digit : ℕ) → i < length word → digit ≡ get_or word i 0 - 48 → read_on n (drop i word) % 2 ^ 64 ≡ r
    → read_on ((n * 10 % 18446744073709551616 + digit) % 18446744073709551616) (drop (i + 1) word) % 2 ^ 64 ≡ r
read_more n r word i digit l e h =
    let more : drop i word ≡ get_or word i 0 ∷ drop (i + 1) word = rw add-one (drop-cons word i 0 l) in
    ap (λ (d : ℕ). read_on ((n * 10 % 18446744073709551616 + d) % 18446744073709551616) (drop (i + 1) word) % 2 ^ 64) e
    ∙ ap (λ (k : ℕ). read_on k (drop (i + 1) word) % 2 ^ 64) (wrapped_same n (get_or word i 0 - 48))
    ∙ read_mod (n * 10 + (get_or word i 0 - 48)) (drop (i + 1) word)
    ∙ sym (ap (λ (t : List ℕ). read_on n t % 2 ^ 64) more) ∙ h

-- ---- bytes

digit_back : (n : ℕ) → n < 16 → hex_digit_of (listed_digit n) ≡ n
digit_back n h = grind (arith, nat_tests)

byte_back : (b : ℕ) → b < 256 → 16 * hex_digit_of (listed_digit (b / 16)) + hex_digit_of (listed_digit (b % 16)) ≡ b
byte_back b h = rw (digit_back (b / 16) (omega arith)) (rw (digit_back (b % 16) (omega arith)) (omega arith))

bytes_back : (bytes : List ℕ) → AllByRecursion IsByte bytes → hex_bytes (flat_map hex_byte bytes) ≡ bytes
bytes_back [] h = refl
bytes_back (b ∷ bytes) h = λ i. byte_back b h.0 i ∷ bytes_back bytes h.1 i

pub hex_back : (bytes : List ℕ) → AllByRecursion IsByte bytes → hex_bytes (hex_text bytes) ≡ bytes
hex_back [] h = refl
hex_back (b ∷ bytes) h = bytes_back (b ∷ bytes) h

-- what is read as bytes has bytes
byte_fits : (c d : ℕ) → 16 * hex_digit_of c + hex_digit_of d < 256
byte_fits c d = bound (if nat_lt c 97 then c - 48 else c - 87) (if nat_lt d 97 then d - 48 else d - 87)
  where
    bound : (m n : ℕ) → 16 * (m % 16) + n % 16 < 256
    bound m n = omega arith

pub hex_fits : (word : List ℕ) → AllByRecursion IsByte (hex_bytes word)
hex_fits [] = tt
hex_fits (c ∷ []) = tt
hex_fits (c ∷ d ∷ cs) = (byte_fits c d, hex_fits cs)

pub small_fits : (limit n : ℕ) → 0 < limit → small limit n < limit
small_fits limit n h = grind (arith, nat_tests)

-- ---- words

-- a byte above the space
abbrev pub is_plain : ℕ → Bool
is_plain b = nat_lt 32 b

abbrev pub are_plain : List ℕ → Bool
are_plain text = list_all is_plain text

decimal_plain : (n : ℕ) → n < 2 ^ 64 → are_plain (decimal n) ≡ true
decimal_plain n h = decimal_by_steps (λ n ds. are_plain ds ≡ true) one more n h
  where
    one : (n : ℕ) → n < 10 → (nat_lt 32 (48 + n) && true) ≡ true
    one n h = grind (arith, nat_tests)

    more : (n : ℕ) (ds : List ℕ) → 10 ≤ n → are_plain ds ≡ true → are_plain (ds ++ (48 + n % 10) ∷ []) ≡ true
    more n ds h k = list_all-append is_plain ds ((48 + n % 10) ∷ []) ∙ and_from (are_plain ds) _ k (one (n % 10) (omega arith))

digit_plain : (n : ℕ) → is_plain (listed_digit n) ≡ true
digit_plain n = grind (arith, nat_tests)

hex_plain : (bytes : List ℕ) → are_plain (flat_map hex_byte bytes) ≡ true
hex_plain [] = refl
hex_plain (b ∷ bytes) = and_from _ _ (digit_plain (b / 16)) (and_from _ _ (digit_plain (b % 16)) (hex_plain bytes))

-- the number is one of 64 bits
abbrev pub IsWritten : Value → Type 0
IsWritten (Number n) = n < 2 ^ 64
IsWritten (Signed (pos n)) = n < 2 ^ 64
IsWritten (Signed (negsuc n)) = suc n < 2 ^ 64
IsWritten (Hex bytes) = Unit {0}

value_plain : (v : Value) → IsWritten v → are_plain (value_text v) ≡ true
value_plain (Number n) h = decimal_plain n h
value_plain (Signed (pos n)) h = decimal_plain n h
value_plain (Signed (negsuc n)) h = decimal_plain (suc n) h
value_plain (Hex []) h = refl
value_plain (Hex (b ∷ bytes)) h = hex_plain (b ∷ bytes)

not_low : (c b : ℕ) → c ≤ 32 → nat_lt 32 b ≡ true → (b == c) ≡ false
not_low c b h k = grind (arith, nat_tests)

no_low : (c : ℕ) (text : List ℕ) → c ≤ 32 → are_plain text ≡ true → AllByRecursion (λ b. (b == c) ≡ false) text
no_low c [] h k = tt
no_low c (b ∷ text) h k = let p = and_parts (is_plain b) (are_plain text) k in (not_low c b h p.0, no_low c text h p.1)

-- a line has its name and its values as its words
pub words_back : (name : List ℕ) (values : List Value) → are_plain name ≡ true → AllByRecursion IsWritten values → words (name ++ values_text values) ≡ name ∷ map value_text values
words_back name [] p q = rw (append-nil name) (slice_split_none (λ b. b == 32) name (All-from_recursion _ name (no_low 32 name (omega arith) p)))
words_back name (v ∷ values) p q =
    slice_split_at (λ b. b == 32) name 32 (value_text v ++ values_text values) (All-from_recursion _ name (no_low 32 name (omega arith) p)) refl
    ∙ ap (λ ws. name ∷ ws) (words_back (value_text v) values (value_plain v q.0) q.1)

-- ---- lines

abbrev pub HasNoNewline : List ℕ → Type 0
HasNoNewline text = AllByRecursion (λ b. (b == 10) ≡ false) text

joined : (xs ys : List ℕ) → HasNoNewline xs → HasNoNewline ys → HasNoNewline (xs ++ ys)
joined [] ys p q = q
joined (x ∷ xs) ys p q = (p.0, joined xs ys p.1 q)

values_line : (values : List Value) → AllByRecursion IsWritten values → HasNoNewline (values_text values)
values_line [] q = tt
values_line (v ∷ values) q = (refl, joined (value_text v) (values_text values) (no_low 10 (value_text v) (omega arith) (value_plain v q.0)) (values_line values q.1))

-- a line has no newline before its end
pub no_newline : (name : List ℕ) (values : List Value) → are_plain name ≡ true → AllByRecursion IsWritten values → HasNoNewline (name ++ values_text values)
no_newline name values p q = joined name (values_text values) (no_low 10 name (omega arith) p) (values_line values q)

ten : (b : ℕ) → 10 ≡ b → (b == 10) ≡ false → ⊥
ten b e h = let k : (10 == 10) ≡ false = subst (λ (x : ℕ). (x == 10) ≡ false) (sym e) h in cc

-- two texts that begin with the same line
pub same_line : (xs ys us vs : List ℕ) → HasNoNewline xs → HasNoNewline ys → xs ++ 10 ∷ us ≡ ys ++ 10 ∷ vs → (xs ≡ ys) × (us ≡ vs)
same_line [] [] us vs p q e = (refl, cc)
same_line [] (y ∷ ys) us vs p q e = absurd (ten y (cc) q.0)
same_line (x ∷ xs) [] us vs p q e = absurd (ten x (cc) p.0)
same_line (x ∷ xs) (y ∷ ys) us vs p q e = let h = same_line xs ys us vs p.1 q.1 (cc) in (cc, h.1)

-- where there is no word of a number, its text is empty
pub none_there : (ws : List (List ℕ)) (i : ℕ) → None ≡ slice_get ws i → [] ≡ get_or ws i []
none_there ws i e = ap (λ (o : Option (List ℕ)). unwrap_or o []) e ∙ unwrap_or-slice_get ws i []
