-- The bytes and the length of a number that is written in base 10.
use Rattle.std.{proofs.Common.{arith, ℕ, ◌+◌, ◌<◌, ◌≤◌, ◌^◌, ◌≡◌, List, [], ◌∷◌, map, length, subst, sym}, specs.{Fmt.decimal, Int.Digits.{digits_of, AllBelowBase}, List.AllByRecursion}}
use Rattle.std.proofs.lemmas.{Fmt.decimal-digits_of, Int.Digits.{length-digits_of-le, all_below_base_digits_of}, List.length-map}
use Rattle.jvm_types.specs.ClassGrammar.{IsUtf8Byte}

glyphs : (ds : List ℕ) → AllBelowBase 10 ds → AllByRecursion IsUtf8Byte (map (λ d. 48 + d) ds)
glyphs [] h = tt
glyphs (d ∷ ds) h = ((omega arith, omega (arith, h.0)), glyphs ds h.1)

pub decimal_bytes : (n : ℕ) → 0 < n → n < 2 ^ 64 → AllByRecursion IsUtf8Byte (decimal n)
decimal_bytes n some small = subst (λ (ds : List ℕ). AllByRecursion IsUtf8Byte ds) (sym (decimal-digits_of n some small)) (glyphs (digits_of 10 n) (all_below_base_digits_of 10 n (omega arith)))

pub decimal_length : (n : ℕ) → 0 < n → n < 10 ^ 4 → length (decimal n) ≤ 4
decimal_length n some small =
    let is = decimal-digits_of n some (omega (arith, small)) in
    subst (λ (ds : List ℕ). length ds ≤ 4) (sym is) (subst (λ (k : ℕ). k ≤ 4) (sym (length-map (digits_of 10 n) (λ d. 48 + d))) (length-digits_of-le 10 4 n (omega arith) small))
