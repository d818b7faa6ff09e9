-- What Rust reads as a `u32`.
use Rattle.std.{proofs.Common.{◌≡◌, ℕ, ◌<◌, ◌^◌, Bool, true, false, ◌&&◌, cond, List, [], ◌∷◌, length, Some, None, Result, Ok, Err, refl, ap, nat_lt}, specs.Char.{digit_value, is_digit}}
use Rattle.std.specs.{List.list_all, Result.{OkIff, result_ok}, Str.Parse.{AllDigits, IsNumeral, ParsesUnsigned, digits_value, without_leading_plus}}
use Rattle.std.proofs.lemmas.Bool.{and_parts, both_ways, lt-ltb, ltb-true}
use Rattle.command_words.specs.Values.{number}

abbrev are_digits : List ℕ → Bool
are_digits cs = list_all (λ c. is_digit c 10) cs

all_digits : (cs : List ℕ) → AllDigits 10 cs → are_digits cs ≡ true
all_digits [] all = refl
all_digits (c ∷ cs) all = rw (lt-ltb (digit_value c) 10 all.0) (all_digits cs all.1)

digits_all : (cs : List ℕ) → are_digits cs ≡ true → AllDigits 10 cs
digits_all [] e = tt
digits_all (c ∷ cs) e =
    let both = and_parts (is_digit c 10) (are_digits cs) e in
    (ltb-true (digit_value c) 10 both.0, digits_all cs both.1)

abbrev IsNumber : List ℕ → Type 0
IsNumber cs = IsNumeral 10 cs × (digits_value 10 cs < 2 ^ 32)

abbrev is_number : List ℕ → Bool
is_number cs = nat_lt 0 (length cs) && are_digits cs && nat_lt (digits_value 10 cs) (2 ^ 32)

number_is : (cs : List ℕ) → IsNumber cs → is_number cs ≡ true
number_is cs is = rw (lt-ltb 0 (length cs) is.0.0, all_digits cs is.0.1, lt-ltb (digits_value 10 cs) (2 ^ 32) is.1) refl

is_a_number : (cs : List ℕ) → is_number cs ≡ true → IsNumber cs
is_a_number cs e =
    let outer = and_parts (nat_lt 0 (length cs) && are_digits cs) (nat_lt (digits_value 10 cs) (2 ^ 32)) e in
    let inner = and_parts (nat_lt 0 (length cs)) (are_digits cs) outer.0 in
    ((ltb-true 0 (length cs) inner.0, digits_all cs inner.1), ltb-true (digits_value 10 cs) (2 ^ 32) outer.1)

reads : {E : Type 0} (cs : List ℕ) (b : Bool) (r : Result ℕ E) → is_number cs ≡ b → OkIff r (IsNumber cs) (digits_value 10 cs) → result_ok r ≡ cond b (Some (digits_value 10 cs)) None
reads cs true (Ok n) e p = ap Some p.1
reads cs false (Ok n) e p = absurd (both_ways (is_number cs) e (number_is cs p.0))
reads cs true (Err e) is p = absurd (p (is_a_number cs is))
reads cs false (Err e) is p = refl

-- the number that a text has for Rust is the one that is defined
pub number_reads : {E : Type 0} (text : List ℕ) (r : Result ℕ E) → ParsesUnsigned 32 10 text r → result_ok r ≡ number text
unfolding number
number_reads text r p = reads (without_leading_plus text) (is_number (without_leading_plus text)) r refl p
